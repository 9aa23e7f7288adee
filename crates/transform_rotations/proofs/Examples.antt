-- The points of document 01 that are proved, as rows: what is computed, and what it comes to.
use mathlib.Core.Path.{◌≡◌, refl}
use mathlib.Core.List.{List, [], ◌∷◌}
use lib.IntN.{ℤ, pos, negsuc}
use lib.Ieee.{round, of_bits, of_int, to_signed, add, sub, mul, div, lt, eq}
use lib.ListN.{replicate}
use Rattle.common.specs.Matrix.{identity}
use Rattle.common.specs.Array.{rows}
use Rattle.common.specs.Tested.{answer_of}
use Rattle.float.specs.Rounding.{round_of, abs_of, nint_of}
use Rattle.transform_rotations.specs.Transform.{transform_d, is_whole, rounded}
use Rattle.transform_rotations.specs.TransformRotations.{singular_q, input_tests, transform_tests, transform_rotations}

pub record Row : Type 0 where
  pub computed : List ℤ
  pub stated : List ℤ

abbrev Right : List Row → Type 0
Right [] = Unit {0}
Right (r ∷ rows) = (r.computed ≡ r.stated) × Right rows

-- axes 0 and 1 exchanged
abbrev exchange : List ℤ
exchange = pos 0 ∷ pos 1 ∷ pos 0 ∷ pos 1 ∷ pos 0 ∷ pos 0 ∷ pos 0 ∷ pos 0 ∷ pos 1 ∷ []

-- the answer and the output, with Q the identity
abbrev transformed : List ℤ → List ℤ
transformed d = answer_of (transform_tests exchange d (rows identity) 9) ∷ (transform_rotations exchange d (rows identity) 9).out

abbrev table : List Row
table =
    record { computed = transformed (pos 1 ∷ pos 2 ∷ pos 1 ∷ []); stated = pos 6 ∷ replicate 9 (negsuc 0) }
    ∷ record { computed = transformed (pos 2 ∷ pos 2 ∷ pos 1 ∷ []); stated = pos 0 ∷ exchange }
    ∷ []

points : Right table
unfolding transform_rotations transform_tests input_tests singular_q transform_d is_whole rounded nint_of round_of abs_of round of_bits of_int to_signed add sub mul div lt eq
points = (refl, (refl, tt))
