-- What fits 64 signed bits, and the answers of the checked operations.
use Rattle.std.specs.Prelude.{Bool, ltb, eqb, ℤ, nat_abs, Result, Ok, Err, cond}
use Rattle.std.specs.Int.Signed.{mag}
use Rattle.integer.specs.declared.ArithmeticError.{ArithmeticError}
use Rattle.integer.specs.declared.ArithmeticError.TheVariants.{Overflow, ZeroDivisor}

-- the range of an i64: `mag` is n of n and of -(n + 1)
abbrev pub fits64 : ℤ → Bool
fits64 z = ltb (mag z) 0x8000000000000000

abbrev pub is_zero : ℤ → Bool
is_zero z = eqb (nat_abs z) 0

-- the exact number where it fits
abbrev pub checked : ℤ → Result ℤ ArithmeticError
checked z = cond (fits64 z) (Ok z) (Err Overflow)

-- a quotient or a remainder of a division by d: both are refused where the quotient does not fit, as in Rust
abbrev pub divided : (d quotient result : ℤ) → Result ℤ ArithmeticError
divided d quotient result = cond (is_zero d) (Err ZeroDivisor) (cond (fits64 quotient) (Ok result) (Err Overflow))
