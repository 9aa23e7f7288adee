-- Worked examples that hold the definitions fast; a program of its own, with fractions and all 64 corners, gave the numbers.
use mathlib.Core.Path.{◌≡◌, refl}
use mathlib.Core.List.{List, [], ◌∷◌}
use Prim.Native.Nat.{ℕ}
use lib.IntN.{ℤ, pos, negsuc}
use lib.ListN.{take}
use Rattle.std.specs.Prelude.{Err}
use Rattle.common.specs.Tested.{Tested, Accepted}
use Rattle.common.specs.Matrix.{identity}
use Rattle.common.specs.Array.{vector_of, sides_of, matrix_of, rows}
use Rattle.common.specs.declared.Refusal.TheVariants.{OutsideLimits, NotUnimodularQ, WrongLength, InvertedRange}
use Rattle.bzsearch.specs.Search.{candidates, outside}
use Rattle.grgrid.specs.Grid.{address}
use Rattle.mark_candidates.specs.InnerProducts.{most}
use Rattle.mark_candidates.specs.ScaledCoordinates.{candidates125, rounded, scaled, rest, rests}
use Rattle.mark_candidates.specs.MarkCandidates.{nearest, beaten, mark, ranges_of, placed, mark_tests}
use Rattle.mark_candidates.specs.Code.Numbered.{candidate_at}

-- 0, 1, 2, -2, -1, the last axis innermost
first-six : take 6 candidates125
    ≡ record { x = pos 0; y = pos 0; z = pos 0 } ∷ record { x = pos 0; y = pos 0; z = pos 1 } ∷ record { x = pos 0; y = pos 0; z = pos 2 }
    ∷ record { x = pos 0; y = pos 0; z = negsuc 1 } ∷ record { x = pos 0; y = pos 0; z = negsuc 0 } ∷ record { x = pos 0; y = pos 1; z = pos 0 } ∷ []
unfolding candidates125 candidates outside
first-six = refl

-- 3/6 and -3/6 go away from zero, 2/6 to it
halves : (rounded 3 (pos 3) ≡ pos 1) × (rounded 3 (negsuc 2) ≡ negsuc 0) × (rounded 3 (pos 2) ≡ pos 0)
halves = (refl, refl, refl)

abbrev three : ℤ → ℤ → ℤ → List ℤ
three a b c = a ∷ b ∷ c ∷ []

abbrev six : ℤ → ℤ → ℤ → ℤ → ℤ → ℤ → List ℤ
six a b c d e f = a ∷ b ∷ c ∷ d ∷ e ∷ f ∷ []

-- a coordinate of exactly 1/2, which f64 has a little below it: 1/2 - 1, 1/2 - 1 and 2/3 - 1, times 18
abbrev skew : List (List ℤ)
skew = three (pos 1) (pos 1) (negsuc 1) ∷ three (pos 0) (pos 1) (pos 0) ∷ three (pos 0) (negsuc 0) (pos 1) ∷ []

exact-half : rests (sides_of (three (pos 3) (pos 1) (pos 3))) (vector_of (three (pos 0) (pos 1) (pos 1))) (matrix_of skew) 1 ≡ record { x = negsuc 8; y = negsuc 8; z = negsuc 5 }
unfolding rests scaled rest address
exact-half = refl

-- ---- the marks of point 1 of the grid 2, 1, 1
module _ (lowest highest : List ℤ) where
  abbrev mark_of : ℕ → ℤ
  mark_of i = mark (ranges_of lowest highest) (placed (three (pos 2) (pos 1) (pos 1)) (rows identity) (three (pos 0) (pos 0) (pos 0)) (pos 1)) candidates125 (candidate_at i)

-- a cube: the two ends of the half step tie
cube : (mark_of (six (pos 1) (pos 0) (pos 0) (pos 1) (pos 0) (pos 1)) (six (pos 1) (pos 0) (pos 0) (pos 1) (pos 0) (pos 1)) 0 ≡ pos 1)
    × (mark_of (six (pos 1) (pos 0) (pos 0) (pos 1) (pos 0) (pos 1)) (six (pos 1) (pos 0) (pos 0) (pos 1) (pos 0) (pos 1)) 25 ≡ pos 1)
    × (mark_of (six (pos 1) (pos 0) (pos 0) (pos 1) (pos 0) (pos 1)) (six (pos 1) (pos 0) (pos 0) (pos 1) (pos 0) (pos 1)) 5 ≡ pos 2)
unfolding mark nearest beaten most rests scaled rest address candidates125 candidates outside candidate_at
cube = (refl, refl, refl)

-- with wide ranges (0, 1, 0) is open
wide : (mark_of (six (pos 1) (negsuc 0) (pos 0) (pos 1) (pos 0) (pos 1)) (six (pos 3) (pos 1) (pos 0) (pos 2) (pos 0) (pos 2)) 5 ≡ pos 0)
    × (mark_of (six (pos 1) (negsuc 0) (pos 0) (pos 1) (pos 0) (pos 1)) (six (pos 3) (pos 1) (pos 0) (pos 2) (pos 0) (pos 2)) 1 ≡ pos 2)
unfolding mark nearest beaten most rests scaled rest address candidates125 candidates outside candidate_at
wide = (refl, refl)

-- ---- the order of the tests: 13, 3, 20, 10
module _ (d : List ℤ) (q : List (List ℤ)) (lowest highest : List ℤ) where
  abbrev tests_of : ℕ → Tested
  tests_of n = mark_tests d q (three (pos 0) (pos 0) (pos 0)) lowest highest (pos 0) n

abbrev ones : List ℤ
ones = six (pos 1) (pos 1) (pos 1) (pos 1) (pos 1) (pos 1)

abbrev crossed : List ℤ
crossed = six (pos 1) (pos 1) (pos 1) (pos 1) (pos 1) (pos 0)

abbrev doubled : List (List ℤ)
doubled = three (pos 2) (pos 0) (pos 0) ∷ three (pos 0) (pos 1) (pos 0) ∷ three (pos 0) (pos 0) (pos 1) ∷ []

order : (tests_of (three (pos 0) (pos 1) (pos 1)) doubled ones crossed 124 ≡ Err WrongLength)
    × (tests_of (three (pos 0) (pos 1) (pos 1)) doubled ones crossed 125 ≡ Err OutsideLimits)
    × (tests_of (three (pos 1) (pos 1) (pos 1)) doubled ones crossed 125 ≡ Err InvertedRange)
    × (tests_of (three (pos 1) (pos 1) (pos 1)) doubled ones ones 125 ≡ Err NotUnimodularQ)
    × (tests_of (three (pos 1) (pos 1) (pos 1)) (rows identity) ones ones 125 ≡ Accepted)
unfolding mark_tests
order = (refl, refl, refl, refl, refl)
