-- The squared length of a sum of three image addresses is a finite number of binary64.
use Prim.Native.Nat.{ℕ, ◌≤◌}
use native.Mathlib.Nat.{le_trans}
use native.Mathlib.Omega.{arith}
use lib.Dec.{T, lit≤}
use lib.IntN.{ℤ, pos, nat_abs, ◌+ℤ◌}
use lib.Ieee.{Float, binary64, add, mul, div, of_int}
use lib.Ieee.Fits.{add-fits}
use Rattle.integer.proofs.Size.{abs-add}
use Rattle.float.specs.Value.{Bounded}
use Rattle.float.proofs.Whole.{of_int-whole}
use Rattle.float.proofs.Bounds.{div-bounded, whole-at-least}
use Rattle.common.specs.Matrix.{Axis, X, Y, Z, Vec, Mat, side, entry, map_vec, map_mat, dot, product_over, apply_over}
use Rattle.common.specs.FloatMatrix.{floats}
use Rattle.common.specs.Limits.{matrix_within}
use Rattle.common.proofs.Matrix.{side-vector, entry-matrix}
use Rattle.common.proofs.Bounds.{matrix-sizes}
use Rattle.grgrid.specs.Sides.{GridFits}
use Rattle.bzsearch.specs.Lattice.{lattice_fits}
use Rattle.bzsearch.proofs.LatticeBounds.{dot-bounded, entry-bounded, whole-small}
use Rattle.bz_triplets.specs.BzTriplets.{lqd_inv, squared_distance, sum_of}
use Rattle.bz_triplets.proofs.Choosing.{Length}

-- each number of a sum of three addresses
pub sum-size : (a b c : Vec ℤ) → ((k : Axis) → nat_abs (side a k) ≤ 10000000000000) → ((k : Axis) → nat_abs (side b k) ≤ 10000000000000) → ((k : Axis) → nat_abs (side c k) ≤ 10000000000000)
    → (k : Axis) → nat_abs (side (sum_of a b c) k) ≤ 30000000000000
sum-size a b c f g h k = rw (side-vector (λ k. side a k +ℤ side b k +ℤ side c k) k) (three (side a k) (side b k) (side c k) (f k) (g k) (h k))
  where
    three : (x y z : ℤ) → nat_abs x ≤ 10000000000000 → nat_abs y ≤ 10000000000000 → nat_abs z ≤ 10000000000000 → nat_abs (x +ℤ y +ℤ z) ≤ 30000000000000
    three x y z f g h = omega (arith, abs-add (x +ℤ y) z, abs-add x y)

module _ (m : Mat Float) (t : T (lattice_fits m)) (q : Mat ℤ) (h : T (matrix_within 1000 q)) (d : Vec ℕ) (f : GridFits d) where
  abbrev product : Mat Float
  product = product_over floats m (map_mat (of_int binary64) q)

  numbers-bounded : (j k : Axis) → Bounded 10 (entry (map_mat (of_int binary64) q) j k)
  numbers-bounded j k = rw (entry-matrix (λ j k. of_int binary64 (entry q j k)) j k) (whole-small 10 (entry q j k) (le_trans (matrix-sizes 1000 q h j k) (lit≤ tt)) (lit≤ tt))

  product-bounded : (j k : Axis) → Bounded 32 (entry product j k)
  product-bounded j k =
      rw (entry-matrix (λ j k. dot floats (entry m j) (λ l. entry (map_mat (of_int binary64) q) l k)) j k)
      (dot-bounded (entry m j) (λ l. entry (map_mat (of_int binary64) q) l k) 20 10 (lit≤ tt) (entry-bounded m t j) (λ l. numbers-bounded l k))

  lqd-bounded : (j k : Axis) → Bounded 32 (entry (lqd_inv m q d) j k)
  unfolding lqd_inv
  lqd-bounded j k =
      rw (entry-matrix (λ j k. div binary64 (entry product j k) (of_int binary64 (pos (side d k)))) j k)
      (div-bounded binary64 0 32 (entry product j k) (of_int binary64 (pos (side d k))) (lit≤ tt) (product-bounded j k)
      (whole-at-least (of_int binary64 (pos (side d k))) (side d k) (f.positive k) (of_int-whole binary64 (pos (side d k)) (le_trans (f.small k) (lit≤ tt)))))

  module _ (g : Vec ℤ) (s : (k : Axis) → nat_abs (side g k) ≤ 30000000000000) where
    abbrev column : Vec Float
    column = map_vec (of_int binary64) g

    abbrev carried : Vec Float
    carried = apply_over floats (lqd_inv m q d) column

    column-bounded : (k : Axis) → Bounded 45 (side column k)
    column-bounded k = rw (side-vector (λ k. of_int binary64 (side g k)) k) (whole-small 45 (side g k) (le_trans (s k) (lit≤ tt)) (lit≤ tt))

    carried-bounded : (k : Axis) → Bounded 79 (side carried k)
    carried-bounded k =
        rw (side-vector (λ j. dot floats (entry (lqd_inv m q d) j) (side column)) k)
        (dot-bounded (entry (lqd_inv m q d) k) (side column) 32 45 (lit≤ tt) (lqd-bounded k) column-bounded)

    pub sum-length : Length (squared_distance (lqd_inv m q d) g)
    unfolding squared_distance
    sum-length = record {
      held = let v = side carried in add-fits binary64 (add binary64 (mul binary64 (v X) (v X)) (mul binary64 (v Y) (v Y))) (mul binary64 (v Z) (v Z));
      number = (dot-bounded (side carried) (side carried) 79 79 (lit≤ tt) carried-bounded carried-bounded).number;
    }
