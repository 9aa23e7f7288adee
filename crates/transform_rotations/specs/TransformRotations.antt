-- `transform_rotations`: its tests, and its answer with the output, which has n places, as one outcome.
use Rattle.std.specs.Prelude.{Bool, not, ◌&&◌, List, map, ℕ, leb, eqb, ℤ, pos, length}
use Rattle.std.specs.Float.{binary64}
use Rattle.std.specs.Float.Ieee.{of_int, eq}
use Rattle.common.specs.Matrix.{Vec, Mat, det_over}
use Rattle.common.specs.Array.{vector_of, matrix_of, matrices, flat}
use Rattle.common.specs.Every.{every}
use Rattle.common.specs.FloatMatrix.{floats}
use Rattle.common.specs.Limits.{all_within, matrix_within, whole_matrices, diagonal_fits}
use Rattle.common.specs.Tested.{require, output_of, after, Tested, Accepted}
use Rattle.common.specs.declared.Refusal.TheVariants.{OutsideLimits, SingularQ, SymmetryBroken, WrongLength}
use Rattle.transform_rotations.specs.Transform.{to_d, transform_d, is_whole, rounded}

-- det Q, as f64 has it, is 0
unfoldable pub singular_q : Mat ℤ → Bool
singular_q q = eq (det_over floats (to_d q)) (of_int binary64 (pos 0))

-- every rotation is transformed to whole numbers
abbrev pub all_whole : Vec ℤ → Mat ℤ → List (Mat ℤ) → Bool
all_whole d q l = every (λ r. is_whole (transform_d d q r)) l

-- nine numbers a rotation
abbrev pub transformed_list : Vec ℤ → Mat ℤ → List (Mat ℤ) → List ℤ
transformed_list d q l = flat (map (λ r. rounded (transform_d d q r)) l)

-- the tests before any rotation is transformed
unfoldable pub input_tests : List ℤ → List ℤ → List (List ℤ) → ℕ → Tested
unfolding singular_q
input_tests rotations d q n =
    require (whole_matrices rotations) WrongLength
    (require (leb (length rotations) 1728) OutsideLimits
    (require (eqb n (length rotations)) WrongLength
    (require (all_within 100 rotations && (matrix_within 1000 (matrix_of q) && diagonal_fits d)) OutsideLimits
    (require (not (singular_q (matrix_of q))) SingularQ Accepted))))

unfoldable pub transform_tests : List ℤ → List ℤ → List (List ℤ) → ℕ → Tested
unfolding input_tests
transform_tests rotations d q n =
    after (input_tests rotations d q n) (require (all_whole (vector_of d) (matrix_of q) (matrices rotations)) SymmetryBroken Accepted)

pub record TransformRotations : Type 0 where
  pub answer : Tested
  pub out : List ℤ

unfoldable pub transform_rotations : List ℤ → List ℤ → List (List ℤ) → ℕ → TransformRotations
unfolding transform_tests
transform_rotations rotations d q n =
    let t = transform_tests rotations d q n in
    record { answer = t; out = output_of t n (transformed_list (vector_of d) (matrix_of q) (matrices rotations)) }
