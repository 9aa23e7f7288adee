-- `get_reciprocal_point_group`: its tests, and its answer with the output, which has n places, as one outcome.
use Rattle.std.specs.Prelude.{Bool, true, false, not, ◌&&◌, ◌||◌, List, ◌++◌, map, ℕ, leb, eqb, ℤ, negsuc, length, replicate, Result, Ok, Err}
use Rattle.common.specs.declared.Refusal.{Refusal}
use Rattle.common.specs.Matrix.{Mat, transpose, negate, inversion}
use Rattle.common.specs.Array.{matrices}
use Rattle.common.specs.Limits.{whole_matrices, rotations_fit}
use Rattle.common.specs.Tested.{require, after, output_of, Tested, Accepted, giving}
use Rattle.common.specs.declared.Refusal.TheVariants.{OutsideLimits, TooManyRotations, TooManyForInversion, WrongLength}
use Rattle.recip_rotations.specs.Unique.{among, unique}
use Rattle.recip_rotations.specs.Flat.{laid}

abbrev pub transposed_if : Bool → List (Mat ℤ) → List (Mat ℤ)
transposed_if transposed l = elim transposed [ true ↦ map transpose l | false ↦ l ]

-- whether time reversal joins the negatives to l
abbrev pub joins : Bool → List (Mat ℤ) → Bool
joins time_reversal l = time_reversal && not (among inversion l)

abbrev pub with_negatives : Bool → List (Mat ℤ) → List (Mat ℤ)
with_negatives time_reversal l = elim (joins time_reversal l) [ true ↦ l ++ map negate l | false ↦ l ]

-- ---- the list that is told, and the tests
unfoldable pub point_group : List (Mat ℤ) → Bool → Bool → List (Mat ℤ)
point_group l time_reversal transposed = with_negatives time_reversal (transposed_if transposed (unique l))

-- the negatives take half of the room for 48
abbrev pub join_tests : Bool → List (Mat ℤ) → Tested
join_tests time_reversal l = require (not (joins time_reversal l) || leb (length l) 24) TooManyForInversion Accepted

unfoldable pub room_tests : List (Mat ℤ) → Bool → Bool → Tested
room_tests l time_reversal transposed = require (leb (length (unique l)) 48) TooManyRotations (join_tests time_reversal (transposed_if transposed (unique l)))

-- of the input: the list's length, the n places for the group, the limits
unfoldable pub input_tests : List ℤ → ℕ → Tested
input_tests rotations n =
    require (whole_matrices rotations) WrongLength
    (require (eqb n 432) WrongLength
    (require (rotations_fit 100000 rotations) OutsideLimits Accepted))

unfoldable pub group_tests : List ℤ → Bool → Bool → ℕ → Tested
unfolding input_tests room_tests
group_tests rotations time_reversal transposed n = after (input_tests rotations n) (room_tests (matrices rotations) time_reversal transposed)

abbrev pub count_of : Result ℕ Refusal → ℕ
count_of (Ok n) = n
count_of (Err r) = 0

pub record PointGroup : Type 0 where
  pub answer : Result ℕ Refusal
  pub out : List ℤ

-- where the tests t pass: the matrices, then -1
abbrev pub group_outcome : Tested → List (Mat ℤ) → ℕ → PointGroup
group_outcome t l n = record { answer = giving t (length l); out = output_of t n (laid l (replicate n (negsuc 0))) }

unfoldable pub get_reciprocal_point_group : List ℤ → Bool → Bool → ℕ → PointGroup
unfolding group_tests point_group
get_reciprocal_point_group rotations time_reversal transposed n =
    group_outcome (group_tests rotations time_reversal transposed n) (point_group (matrices rotations) time_reversal transposed) n
