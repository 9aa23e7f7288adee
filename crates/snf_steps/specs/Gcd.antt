-- The extended gcd. Its remainders are Euclidean, so that only the two numbers themselves can be negative.
use Rattle.std.specs.Prelude.{Bool, ◌&&◌, ℕ, zero, suc, ℤ, pos, ◌*ℤ◌, ◌-ℤ◌, Option, Some, cond}
use Rattle.integer.specs.Checked.{fits64, is_zero}
use Rattle.integer.specs.Division.{div_euclid, rem_euclid}
use Rattle.snf_steps.specs.declared.gcd.Euclid.{Euclid}
use Rattle.snf_steps.specs.declared.gcd.Counted.{Counted}
use Rattle.snf_steps.specs.Then.{◌then◌, provided}

abbrev pub start : ℤ → ℤ → Euclid
start a b = record { r = a; r1 = b; s = pos 1; s1 = pos 0; t = pos 0; t1 = pos 1 }

-- x - q·y
abbrev pub less_fits : (x q y : ℤ) → Bool
less_fits x q y = fits64 (q *ℤ y) && fits64 (x -ℤ q *ℤ y)

-- one division, with the quotient q
abbrev pub step_fits : ℤ → Euclid → Bool
step_fits q e = fits64 q && (less_fits e.s q e.s1 && less_fits e.t q e.t1)

abbrev pub next : ℤ → Euclid → Euclid
next q e = record { r = e.r1; r1 = rem_euclid e.r e.r1; s = e.s1; s1 = e.s -ℤ q *ℤ e.s1; t = e.t1; t1 = e.t -ℤ q *ℤ e.t1 }

unfoldable pub step : Euclid → Option Euclid
step e = let q = div_euclid e.r e.r1 in provided (step_fits q e) (next q e)

-- at most n divisions
unfoldable pub euclid : ℕ → Euclid → Option Euclid
euclid zero e = Some e
euclid (suc n) e = cond (is_zero e.r1) (Some e) (step e then euclid n)

unfoldable pub extended_gcd : ℤ → ℤ → Option Euclid
extended_gcd a b = euclid 1000 (start a b)

-- how many divisions it makes, of at most n: the remainders alone decide it
unfoldable pub divisions : ℕ → ℤ → ℤ → ℕ
divisions zero r r' = 0
divisions (suc n) r r' = cond (is_zero r') 0 (suc (divisions n r' (rem_euclid r r')))

-- those of `extended_gcd a b`: the walk with so many comes to the same result (`steps-enough`), and with fewer its last remainder is not 0 (`no-fewer`)
abbrev pub steps : ℤ → ℤ → ℕ
steps a b = divisions 1000 a b

-- where the walk ends, and its steps
abbrev pub counted_gcd : ℤ → ℤ → Option Counted
counted_gcd a b = extended_gcd a b then λ e. Some (record { last = e; count = steps a b })
