-- What the export of the extended gcd answers, and what it leaves in `told`: r, s and t with r = s·a + t·b, and the divisions that it took.
use Rattle.std.specs.Prelude.{◌≡◌, List, [], ◌∷◌, ℕ, eqb, ℤ, pos, negsuc, replicate, Option, Some, None, cond}
use Rattle.common.specs.declared.Refusal.TheVariants.{Overflow, WrongLength}
use Rattle.common.specs.Refusal.{number_of}
use Rattle.snf_steps.specs.declared.gcd.Counted.{Counted}
use Rattle.snf_steps.specs.Gcd.{counted_gcd}

abbrev pub gcd_number : Option Counted → ℤ
gcd_number (Some c) = pos 0
gcd_number None = pos (number_of Overflow)

-- in the four places of `told`
abbrev pub gcd_told : Option Counted → List ℤ
gcd_told (Some c) = c.last.r ∷ c.last.s ∷ c.last.t ∷ pos c.count ∷ []
gcd_told None = replicate 4 (negsuc 0)

-- the answer r and `told`, which had n places
pub record GcdTold (a b : ℤ) (n : ℕ) (r : ℤ) (told : List ℤ) : Type 0 where
  pub answer : r ≡ cond (eqb n 4) (gcd_number (counted_gcd a b)) (pos (number_of WrongLength))
  pub value : told ≡ cond (eqb n 4) (gcd_told (counted_gcd a b)) (replicate n (negsuc 0))
