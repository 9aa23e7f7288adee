-- The pair of numbers from 1 to a limit on which the extended gcd takes the most steps.
use Rattle.std.specs.Prelude.{◌≡◌, ℕ, ◌+◌, ◌≤◌, pos}
use Rattle.snf_steps.specs.Gcd as gcd

-- as the definition of the gcd counts them
abbrev pub steps : ℕ → ℕ → ℕ
steps a b = gcd.steps (pos a) (pos b)

-- both numbers lie from 1 to the limit
pub record UpTo (limit a b : ℕ) : Type 0 where
  pub first-low : 1 ≤ a
  pub first-high : a ≤ limit
  pub second-low : 1 ≤ b
  pub second-high : b ≤ limit

-- no pair takes more steps; of those that take as many none has a smaller sum, and none of the same sum a smaller first number
pub record Worst (limit a b : ℕ) : Type 0 where
  pub up_to : UpTo limit a b
  pub most : (a' b' : ℕ) → UpTo limit a' b' → steps a' b' ≤ steps a b
  pub least-sum : (a' b' : ℕ) → UpTo limit a' b' → steps a' b' ≡ steps a b → a + b ≤ a' + b'
  pub least_first : (a' b' : ℕ) → UpTo limit a' b' → steps a' b' ≡ steps a b → a' + b' ≡ a + b → a ≤ a'

-- it is the worst pair, and no other is
pub record OnlyWorst (limit a b : ℕ) : Type 0 where
  pub worst : Worst limit a b
  pub only : (a' b' : ℕ) → Worst limit a' b' → (a' ≡ a) × (b' ≡ b)
