-- How an f64 was read before request f of document 02, as the number of its eight bytes; no code reads so any more. For every eight bytes the two words that
-- are read now give the same. The theorem is `same-reading` of proofs/FormerReading.
use Rattle.std.specs.Prelude.{◌≡◌, ◌⊎◌, true, false, List, ℕ, Float}
use Rattle.std.specs.Float.{binary64}
use Rattle.std.specs.Float.Ieee.{of_bits}
use Rattle.std.specs.Float.Ieee.Scale.{finite}
use Rattle.job.specs.Job.{little_endian, float}

unfoldable pub former_float : List ℕ → ℕ → Float
former_float b at = of_bits binary64 (little_endian b at 8)

-- the same number, or not finite in both
abbrev pub SameNumber : Float → Float → Type 0
SameNumber x y = ((finite x ≡ true) × (x ≡ y)) ⊎ ((finite x ≡ false) × (finite y ≡ false))

-- the equation also tells the two zeros apart, and the infinities; every NaN is one
pub record SameReading (b : List ℕ) (at : ℕ) : Type 0 where
  pub same : float b at ≡ former_float b at
  pub number : SameNumber (float b at) (former_float b at)
