-- What the tests and the output of the call say of each rotation.
use mathlib.Core.Path.{◌≡◌, ◌∙◌, ap}
use mathlib.Core.Bool.{◌&&◌}
use mathlib.Core.List.{List, map}
use Prim.Native.Nat.{ℕ}
use lib.Dec.{T, leb}
use lib.IntN.{ℤ, pos, nat_abs}
use Rattle.integer.proofs.Test.{and_l, holds, is_true}
use Rattle.common.specs.Matrix.{Axis, X, Y, Z, side, diagonal}
use Rattle.common.specs.Array.{along, vector_of, sides_of, matrix_of, matrices, flat}
use Rattle.common.specs.Limits.{side_fits, diagonal_fits}
use Rattle.common.specs.Tested.{require, output_of, after, Tested, Accepted}
use Rattle.common.specs.declared.Refusal.TheVariants.{SymmetryBroken}
use Rattle.common.proofs.Matrix.{axes-of, same-vector}
use Rattle.common.proofs.Tests.{passed, both-accepted}
use Rattle.common.proofs.Bounds.{side-above}
use Rattle.grgrid.specs.Grid.{size}
use Rattle.grgrid.proofs.Folding.{Sides}
use Rattle.grgrid.proofs.Acting.{grid}
use Rattle.grgrid.proofs.Accepted.{grid-fits}
use Rattle.transform_rotations.specs.Transform.{transform_d, rounded}
use Rattle.transform_rotations.specs.TransformRotations.{all_whole, transformed_list, input_tests, transform_tests, transform_rotations}

-- ---- the diagonal numbers
pub sides-fit : (d : List ℤ) → T (diagonal_fits d) → (k : Axis) → T (side_fits (side (vector_of d) k))
sides-fit d t =
    let s = sides_of d in
    axes-of (λ k. side_fits (side (vector_of d) k)) (and_l (side_fits (along d X) && (side_fits (along d Y) && side_fits (along d Z))) (leb (size s) 65536) t)

pub grid-is : (d : List ℤ) → T (diagonal_fits d) → diagonal (vector_of d) ≡ grid (sides_of d)
grid-is d t = ap diagonal (same-vector {f = side (vector_of d)} {g = λ k. pos (nat_abs (side (vector_of d) k))} (λ k. side-above (side (vector_of d) k) (sides-fit d t k)))

pub sides-positive : (d : List ℤ) → T (diagonal_fits d) → Sides (sides_of d)
sides-positive d t = record { positive = (grid-fits d t).positive }

-- ---- the tests
module _ (rotations d : List ℤ) (q : List (List ℤ)) (n : ℕ) where
  abbrev whole : Tested
  whole = require (all_whole (vector_of d) (matrix_of q) (matrices rotations)) SymmetryBroken Accepted

  -- an accepted call
  pub written-tests : (transform_rotations rotations d q n).answer ≡ Accepted → transform_tests rotations d q n ≡ Accepted
  unfolding transform_rotations
  written-tests e = e

  pub tests-input : transform_tests rotations d q n ≡ Accepted → input_tests rotations d q n ≡ Accepted
  unfolding transform_tests
  tests-input e = (both-accepted (input_tests rotations d q n) whole e).0

  pub tests-whole : transform_tests rotations d q n ≡ Accepted → T (all_whole (vector_of d) (matrix_of q) (matrices rotations))
  unfolding transform_tests
  tests-whole e =
      holds (passed (all_whole (vector_of d) (matrix_of q) (matrices rotations)) SymmetryBroken Accepted (both-accepted (input_tests rotations d q n) whole e).1).0

  pub whole-tests : input_tests rotations d q n ≡ Accepted → T (all_whole (vector_of d) (matrix_of q) (matrices rotations)) → transform_tests rotations d q n ≡ Accepted
  unfolding transform_tests
  whole-tests e t = ap (λ s. after s whole) e ∙ ap (λ b. require b SymmetryBroken Accepted) (is_true (all_whole (vector_of d) (matrix_of q) (matrices rotations)) t)

  -- ---- the output
  pub written-flat : transform_tests rotations d q n ≡ Accepted
      → (transform_rotations rotations d q n).out ≡ flat (map (λ r. rounded (transform_d (vector_of d) (matrix_of q) r)) (matrices rotations))
  unfolding transform_rotations
  written-flat e = ap (λ s. output_of s n (transformed_list (vector_of d) (matrix_of q) (matrices rotations))) e

  pub outcome-by : {t : Tested} → t ≡ transform_tests rotations d q n → {l : List ℤ} → l ≡ output_of t n (transformed_list (vector_of d) (matrix_of q) (matrices rotations))
      → record { answer = t; out = l } ≡ transform_rotations rotations d q n
  unfolding transform_rotations
  outcome-by e f = λ i. record { answer = e i; out = (f ∙ ap (λ t. output_of t n (transformed_list (vector_of d) (matrix_of q) (matrices rotations))) e) i }
