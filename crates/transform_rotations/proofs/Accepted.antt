-- What accepted tests say of the input, and that the lists of the code's steps are the definition's.
use mathlib.Core.Path.{◌≡◌, refl}
use mathlib.Core.Bool.{◌&&◌}
use mathlib.Core.List.{List}
use Prim.Native.Nat.{ℕ}
use lib.Dec.{T, leb, eqb}
use lib.IntN.{ℤ}
use lib.Ieee.{Float, binary64, of_int}
use lib.ListN.{length}
use Rattle.common.specs.Tested.{Accepted}
use Rattle.integer.proofs.Test.{holds, and_l, and_r}
use Rattle.common.specs.Matrix.{Vec, Mat, map_vec}
use Rattle.common.specs.Array.{matrix_of}
use Rattle.common.specs.Limits.{all_within, matrix_within, whole_matrices, diagonal_fits}
use Rattle.common.specs.declared.Refusal.TheVariants.{OutsideLimits, WrongLength}
use Rattle.common.proofs.Tests.{passed}
use Rattle.transform_rotations.specs.Transform.{to_d, inverse_d, transform_d}
use Rattle.transform_rotations.specs.TransformRotations.{input_tests}
use Rattle.transform_rotations.specs.Code.Steps.{transform_over, transform_by}
use borrow.Author.Tests.{eqb-true}

pub record InputAccepted (rotations d : List ℤ) (q : List (List ℤ)) (n : ℕ) : Type 0 where
  pub whole : T (whole_matrices rotations)
  pub places : n ≡ length rotations
  pub entries : T (all_within 100 rotations)
  pub change : T (matrix_within 1000 (matrix_of q))
  pub grid : T (diagonal_fits d)

pub input-accepted : (rotations d : List ℤ) (q : List (List ℤ)) (n : ℕ) → input_tests rotations d q n ≡ Accepted → InputAccepted rotations d q n
unfolding input_tests
input-accepted rotations d q n e =
    let a = passed (whole_matrices rotations) WrongLength _ e in
    let b = passed (leb (length rotations) 1728) OutsideLimits _ a.1 in
    let c = passed (eqb n (length rotations)) WrongLength _ b.1 in
    let f = passed (all_within 100 rotations && (matrix_within 1000 (matrix_of q) && diagonal_fits d)) OutsideLimits _ c.1 in
    let g = and_r (all_within 100 rotations) (matrix_within 1000 (matrix_of q) && diagonal_fits d) (holds f.0) in
    record {
      whole = holds a.0;
      places = eqb-true n (length rotations) c.0;
      entries = and_l (all_within 100 rotations) (matrix_within 1000 (matrix_of q) && diagonal_fits d) (holds f.0);
      change = and_l (matrix_within 1000 (matrix_of q)) (diagonal_fits d) g;
      grid = and_r (matrix_within 1000 (matrix_of q)) (diagonal_fits d) g;
    }

-- ---- with Q, its inverse and D as f64
module _ (d : Vec ℤ) (q : Mat ℤ) where
  abbrev pub ready : Mat ℤ → Mat Float
  ready = transform_by (inverse_d (to_d q)) (to_d q) (map_vec (of_int binary64) d)

  pub same : (r : Mat ℤ) → ready r ≡ transform_d d q r
  unfolding transform_over transform_d
  same r = refl
