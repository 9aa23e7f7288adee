-- What `round`, `floor`, `ceil` and `sqrt` should answer, said of the numbers alone. NaN, infinities, and the root of what is not above zero are read off the
-- definitions.
use Rattle.std.specs.Prelude.{Bool, true, false, ℕ, ◌+◌, ◌*◌, ◌<◌, ◌≤◌, T, ℤ, Float}
use Rattle.std.specs.Float.{fin, binary64}
use Rattle.std.specs.Float.Ieee.{up, down, fits}
use Rattle.std.specs.Float.Ieee.Exact.{HasValue}
use Rattle.std.specs.Float.Ieee.Scale.{finite}
use Rattle.std.specs.Float.Ieee.Positive.{positive, num, den}
use Rattle.float.specs.Rounding.{round_of, floor_of, ceil_of}
use Rattle.float.specs.Sqrt.{sqrt_of}

-- ---- whole numbers: k beside a / c
-- k ≤ a / c < k + 1
pub record Below (a c k : ℕ) : Type 0 where
  pub from : k * c ≤ a
  pub to : a < k * c + c

-- a / c ≤ k < a / c + 1
pub record Above (a c k : ℕ) : Type 0 where
  pub from : a ≤ k * c
  pub to : k * c < a + c

-- k - 1/2 ≤ a / c < k + 1/2: the nearest, and at a half the larger one
pub record Nearest (a c k : ℕ) : Type 0 where
  pub from : 2 * (k * c) ≤ 2 * a + c
  pub to : 2 * a < 2 * (k * c) + c

-- the largest that is not above a number of the sign s and the size a / c, and the least that is not below it, by their sizes
abbrev pub Floor : Bool → (a c k : ℕ) → Type 0
Floor true a c k = Above a c k
Floor false a c k = Below a c k

abbrev pub Ceil : Bool → (a c k : ℕ) → Type 0
Ceil true a c k = Below a c k
Ceil false a c k = Above a c k

-- Of a value of the format f makes the whole number with the sign s of that value, a zero's too, and the size k of which K holds.
abbrev pub MakesWhole : (Float → Float) → (Bool → (a c k : ℕ) → Type 0) → Type 0
MakesWhole f K = (s : Bool) (m : ℕ) (e : ℤ) → T (fits binary64 (fin s m e)) → (k : ℕ) × HasValue (f (fin s m e)) s k 1 × K s (m * up e) (down e) k

pub record WholeNumbers : Type 0 where
  -- halves away from zero
  pub round : MakesWhole round_of (λ s. Nearest)
  pub floor : MakesWhole floor_of Floor
  pub ceil : MakesWhole ceil_of Ceil

-- ---- the square root of an x above zero
-- it lies nearer to r than to y. Where y is above r, the middle (r + y) / 2 is above the root, and where y is below, it is below.
pub record Nearer (x r y : Float) : Type 0 where
  pub above : num r * den y < num y * den r
      → 4 * num x * ((den r * den y) * (den r * den y)) < (num r * den y + num y * den r) * (num r * den y + num y * den r) * den x
  pub below : num y * den r < num r * den y
      → (num r * den y + num y * den r) * (num r * den y + num y * den r) * den x < 4 * num x * ((den r * den y) * (den r * den y))

-- r is a value of the format above zero, and the root of x lies farther from every other: there are no ties. y goes in by its size; a negative one lies
-- farther still.
pub record CorrectlyRounded (x r : Float) : Type 0 where
  pub value : T (fits binary64 r)
  pub above-zero : T (positive r)
  pub nearest : (y : Float) → T (fits binary64 y) → T (finite y) → Nearer x r y

abbrev pub SquareRoot : Type 0
SquareRoot = (x : Float) → T (fits binary64 x) → T (positive x) → CorrectlyRounded x (sqrt_of x)
