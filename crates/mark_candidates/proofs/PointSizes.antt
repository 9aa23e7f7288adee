-- Sizes of the scaled coordinates, so that no step leaves 64 bits.
use mathlib.Core.List.{List}
use Prim.Native.Nat.{ℕ, zero, suc, ◌*◌, ◌-◌, ◌/◌, ◌<◌, ◌≤◌, zero-le}
use native.Mathlib.Nat.{div-le_self, mod-le, mul-le-mul, le_of_eq, le_trans}
use native.Mathlib.Omega.{arith}
use lib.Dec.{T, lit≤}
use lib.IntN.{ℤ, pos, nat_abs, ◌+ℤ◌, ◌*ℤ◌}
use lib.ListN.{get_or}
use Rattle.integer.proofs.Size.{abs-mul}
use Rattle.integer.proofs.Plain.{plain, p_atom, plain-within}
use Rattle.common.specs.Matrix.{Axis, X, Y, Z, Vec, Mat, side}
use Rattle.common.specs.Array.{vector_of, items, Sized}
use Rattle.common.specs.Limits.{matrix_within}
use Rattle.common.proofs.Bounds.{p-sized}
use Rattle.common.proofs.Sized.{sized-items, apply-sized}
use Rattle.grgrid.specs.Grid.{size, address, double}
use Rattle.mark_candidates.specs.ScaledCoordinates.{shares, scaled_by, scaled, rest, rests}
use Rattle.mark_candidates.specs.Code.Table.{weights}
use Rattle.mark_candidates.proofs.Rounding.{rest-size}

module _ (d : Vec ℕ) (few : size d ≤ 65536) (p : ℕ) (h : p < size d) where
  address-small : Sized 65536 (items (address d p))
  unfolding address
  address-small =
      sized-items (address d p)
      (omega (arith, mod-le p d.x))
      (omega (arith, div-le_self (p - p / (d.x * d.y) * (d.x * d.y)) d.x))
      (omega (arith, div-le_self p (d.x * d.y)))

  pub doubled-small : {s : List ℤ} → Sized 1 s → Sized 131073 (items (double (address d p) (vector_of s)))
  doubled-small {s} g = sized-items (double (address d p) (vector_of s)) (at 0) (at 1) (at 2)
    where
      twice : (x y : ℤ) → nat_abs x ≤ 65536 → nat_abs y ≤ 1 → nat_abs (x *ℤ pos 2 +ℤ y) ≤ 131073
      twice x y h k = plain-within {v = x *ℤ pos 2 +ℤ y} (search (plain, p_atom) depth 12) tt

      at : (n : ℕ) → nat_abs (get_or (items (address d p)) n (pos 0) *ℤ pos 2 +ℤ get_or s n (pos 0)) ≤ 131073
      at n = twice (get_or (items (address d p)) n (pos 0)) (get_or s n (pos 0)) (address-small.each n) (g.each n)

-- ---- by the shares
module _ (d : Vec ℕ) (f : (k : Axis) → side d k ≤ 512) {a : List ℤ} (g : Sized 131073 a) where
  share : (x y : ℕ) (z : ℤ) → x ≤ 512 → y ≤ 512 → nat_abs z ≤ 131073 → nat_abs (z *ℤ pos (x * y)) ≤ 34360000512
  share x y z h k l = le_trans (le_of_eq (abs-mul z (pos (x * y)))) (mul-le-mul l (mul-le-mul h k))

  pub shared-small : Sized 34360000512 (items (scaled_by (shares d) (vector_of a)))
  shared-small =
      sized-items (scaled_by (shares d) (vector_of a))
      (share d.y d.z (get_or a 0 (pos 0)) (f Y) (f Z) (g.each 0))
      (share d.x d.z (get_or a 1 (pos 0)) (f X) (f Z) (g.each 1))
      (share d.x d.y (get_or a 2 (pos 0)) (f X) (f Y) (g.each 2))

-- ---- by Q
pub scaled_small : (d : Vec ℕ) → ((k : Axis) → side d k ≤ 512) → size d ≤ 65536 → (p : ℕ) → p < size d → {s : List ℤ} → Sized 1 s → (m : Mat ℤ) → T (matrix_within 1000 m)
    → Sized 110000000000000 (items (scaled d (vector_of s) m p))
unfolding scaled
scaled_small d f few p h {s} g m k =
    apply-sized 1000 34360000512 m {v = items (scaled_by (shares d) (double (address d p) (vector_of s)))} k
    (shared-small d f {a = items (double (address d p) (vector_of s))} (doubled-small d few p h g)) (lit≤ tt)

-- ---- what is left
pub rests-small : (d : Vec ℕ) → 0 < size d → size d ≤ 65536 → (ps : Vec ℤ) (q : Mat ℤ) (p : ℕ) → Sized 65536 (items (rests d ps q p))
unfolding rests
rests-small d h few ps q p = sized-items (rests d ps q p) (at X) (at Y) (at Z)
  where
    at : (k : Axis) → nat_abs (rest (size d) (side (scaled d ps q p) k)) ≤ 65536
    at k = le_trans (rest-size (size d) h (side (scaled d ps q p) k)) few

-- ---- the weights of a candidate
pub weights-small : {v : List ℤ} → Sized 327680 v → Sized 214748364800 (weights (vector_of v))
weights-small {v} h = record { each = at }
  where
    one : (j k : ℕ) → nat_abs (get_or v j (pos 0) *ℤ get_or v k (pos 0)) ≤ 214748364800
    one j k = le_trans (plain-within {v = get_or v j (pos 0) *ℤ get_or v k (pos 0)} (search (plain, p-sized)) tt) (lit≤ tt)

    two : (j k : ℕ) → nat_abs (pos 2 *ℤ (get_or v j (pos 0) *ℤ get_or v k (pos 0))) ≤ 214748364800
    two j k = plain-within {v = pos 2 *ℤ (get_or v j (pos 0) *ℤ get_or v k (pos 0))} (search (plain, p-sized)) tt

    at : (n : ℕ) → nat_abs (get_or (weights (vector_of v)) n (pos 0)) ≤ 214748364800
    at zero = one 0 0
    at (suc zero) = two 0 1
    at (suc (suc zero)) = two 0 2
    at (suc (suc (suc zero))) = one 1 1
    at (suc (suc (suc (suc zero)))) = two 1 2
    at (suc (suc (suc (suc (suc zero))))) = one 2 2
    at (suc (suc (suc (suc (suc (suc n)))))) = zero-le
