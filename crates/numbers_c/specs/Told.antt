-- What an export of a checked operation answers, and what it leaves in its output, which has one place.
use Rattle.std.specs.Prelude.{◌≡◌, List, [], ◌∷◌, ℕ, eqb, ℤ, pos, negsuc, length, replicate, Result, Ok, Err, cond}
use Rattle.integer.specs.declared.ArithmeticError.{ArithmeticError}
use Rattle.common.specs.declared.Refusal.TheVariants.{Overflow, WrongLength}
use Rattle.common.specs.Refusal.{number_of}

-- a divisor of 0 counts as 4 too, as every panic of the Rust's arithmetic does
abbrev pub checked_answer : Result ℤ ArithmeticError → ℤ
checked_answer (Ok z) = pos 0
checked_answer (Err e) = pos (number_of Overflow)

-- n is the output's length
abbrev pub told_answer : ℕ → Result ℤ ArithmeticError → ℤ
told_answer n c = cond (eqb n 1) (checked_answer c) (pos (number_of WrongLength))

abbrev pub told : ℕ → Result ℤ ArithmeticError → List ℤ
told n (Ok z) = cond (eqb n 1) (z ∷ []) (replicate n (negsuc 0))
told n (Err e) = replicate n (negsuc 0)

-- the whole answer r and output after, where the output was before
pub record Told (c : Result ℤ ArithmeticError) (before : List ℤ) (r : ℤ) (after : List ℤ) : Type 0 where
  pub answer : r ≡ told_answer (length before) c
  pub written : after ≡ told (length before) c
