-- Vectors and matrices of known sizes, and what products of them come to.
use mathlib.Core.Bool.{◌&&◌}
use mathlib.Core.List.{List}
use Prim.Native.Nat.{ℕ, zero, suc, ◌+◌, ◌*◌, ◌≤◌}
use native.Mathlib.Nat.{le_trans}
use native.Mathlib.Omega.{arith}
use lib.Dec.{T, leb→le, lit≤}
use lib.IntN.{ℤ, pos, negsuc, nat_abs, ◌+ℤ◌, ◌*ℤ◌}
use lib.ListN.{length, get_or, get_or-eq_default}
use lib.Signed.{le_z}
use mathlib.Core.Path.{◌≡◌}
use Rattle.integer.proofs.Test.{and_l, and_r}
use Rattle.common.specs.Matrix.{Axis, X, Y, Z, Vec, Mat, side, entry, integers, dot, ◌▹◌}
use Rattle.common.specs.Array.{axis_index, along, vector_of, items, matrix_at, Sized}
use Rattle.common.specs.IntegerMatrix.{dot_fits, apply_fits}
use Rattle.common.specs.Limits.{all_within, matrix_within, half_fits, shift_fits}
use Rattle.common.proofs.Bounds.{entry-within, matrix-sizes, sizes-within}
use Rattle.common.proofs.Matrix.{all-axes, side-vector, entry-matrix}
use Rattle.common.proofs.Whole.{sized-dot, sum-size, product-size}

-- an array of three
pub sized-items : {k : ℕ} (v : Vec ℤ) → nat_abs v.x ≤ k → nat_abs v.y ≤ k → nat_abs v.z ≤ k → Sized k (items v)
sized-items {k} v x y z = record { each = at }
  where
    at : (n : ℕ) → nat_abs (get_or (items v) n (pos 0)) ≤ k
    at zero = x
    at (suc zero) = y
    at (suc (suc zero)) = z
    at (suc (suc (suc n))) = omega arith

-- a list by a test of its members
pub within-sized : (k : ℕ) (l : List ℤ) → T (all_within k l) → Sized k l
within-sized k l t = record { each = entry-within k l t }

-- a matrix of a list
pub rotation_within : (k : ℕ) (l : List ℤ) → T (all_within k l) → (n : ℕ) → T (matrix_within k (matrix_at l n))
rotation_within k l t n = sizes-within k (matrix_at l n) (λ i j. rw (entry-matrix (λ i j. get_or l (n * 9 + axis_index i * 3 + axis_index j) (pos 0)) i j) (entry-within k l t (n * 9 + axis_index i * 3 + axis_index j)))

-- ---- the shift
pub half-size : (z : ℤ) → T (half_fits z) → nat_abs z ≤ 1
half-size (pos n) t = leb→le n 1 (and_r (le_z (pos 0) (pos n)) (le_z (pos n) (pos 1)) t)
half-size (negsuc n) t = absurd t

pub shift-sized : (ps : List ℤ) → length ps ≡ 3 → T (shift_fits ps) → Sized 1 ps
shift-sized ps e t = record { each = at }
  where
    rest : T (half_fits (get_or ps 1 (pos 0)) && half_fits (get_or ps 2 (pos 0)))
    rest = and_r (half_fits (get_or ps 0 (pos 0))) (half_fits (get_or ps 1 (pos 0)) && half_fits (get_or ps 2 (pos 0))) t

    at : (n : ℕ) → nat_abs (get_or ps n (pos 0)) ≤ 1
    at zero = half-size (get_or ps 0 (pos 0)) (and_l (half_fits (get_or ps 0 (pos 0))) (half_fits (get_or ps 1 (pos 0)) && half_fits (get_or ps 2 (pos 0))) t)
    at (suc zero) = half-size (get_or ps 1 (pos 0)) (and_l (half_fits (get_or ps 1 (pos 0))) (half_fits (get_or ps 2 (pos 0))) rest)
    at (suc (suc zero)) = half-size (get_or ps 2 (pos 0)) (and_r (half_fits (get_or ps 1 (pos 0))) (half_fits (get_or ps 2 (pos 0))) rest)
    at (suc (suc (suc n))) = rw (get_or-eq_default ps (pos 0) {n = suc (suc (suc n))} (omega arith)) (lit≤ tt)

-- ---- a matrix with entries up to x, times a column with entries up to y
module _ (x y : ℕ) (m : Mat ℤ) {v : List ℤ} (f : T (matrix_within x m)) (g : Sized y v) where
  column : (k : Axis) → nat_abs (side (vector_of v) k) ≤ y
  column k = rw (side-vector (along v) k) (g.each (axis_index k))

  -- no step leaves 64 bits
  pub apply-fits : x * y ≤ 3074457345618258602 → T (apply_fits m (vector_of v))
  apply-fits h = all-axes (λ j. dot_fits (entry m j) (side (vector_of v))) (λ j. sized-dot (entry m j) (side (vector_of v)) x y (matrix-sizes x m f j) column h)

  pub apply-sized : {z : ℕ} → x * y + x * y + x * y ≤ z → Sized z (items (m ▹ vector_of v))
  apply-sized {z} h = sized-items (m ▹ vector_of v) (at X) (at Y) (at Z)
    where
      product : (j k : Axis) → nat_abs (entry m j k *ℤ side (vector_of v) k) ≤ x * y
      product j k = product-size (entry m j k) (side (vector_of v) k) (matrix-sizes x m f j k) (column k)

      at : (j : Axis) → nat_abs (dot integers (entry m j) (side (vector_of v))) ≤ z
      at j =
          let two = sum-size (entry m j X *ℤ side (vector_of v) X) (entry m j Y *ℤ side (vector_of v) Y) (product j X) (product j Y) in
          le_trans (sum-size (entry m j X *ℤ side (vector_of v) X +ℤ entry m j Y *ℤ side (vector_of v) Y) (entry m j Z *ℤ side (vector_of v) Z) two (product j Z)) h
