-- Divisibility, greatest common divisors and congruence of whole numbers.
use Rattle.std.specs.Prelude.{◌≡◌, ℤ, ◌*ℤ◌, ◌-ℤ◌}

pub record Divides (d z : ℤ) : Type 0 where
  pub times : ℤ
  pub is : z ≡ times *ℤ d

-- up to its sign there is one
pub record IsGcd (g a b : ℤ) : Type 0 where
  pub left : Divides g a
  pub right : Divides g b
  pub greatest : (d : ℤ) → Divides d a → Divides d b → Divides d g

-- a and b agree modulo d
pub record Congruent (d a b : ℤ) : Type 0 where
  pub apart : Divides d (a -ℤ b)
