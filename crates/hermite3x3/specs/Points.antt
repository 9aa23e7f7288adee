-- The points of a matrix, and its Hermite form.
use Rattle.std.specs.Prelude.{◌≡◌, ◌↔◌, ◌<◌, ℤ, pos, nat_abs, ◌≤ℤ◌, ◌<ℤ◌}
use Rattle.integer.specs.Divides.{Divides}
use Rattle.common.specs.Matrix.{Axis, Vec, Mat, side, ◌·◌, ◌▹◌, det}

-- A makes v / m whole
pub record IsPoint (A : Mat ℤ) (m : ℤ) (v : Vec ℤ) : Type 0 where
  pub whole : (k : Axis) → Divides m (side (A ▹ v) k)

unfoldable pub SamePoints : Mat ℤ → Mat ℤ → Type 0
SamePoints A B = (m : ℤ) → 0 < nat_abs m → (v : Vec ℤ) → IsPoint A m v ↔ IsPoint B m v

-- U-as-A is B, where U has a determinant of 1 or -1
pub record LeftMultiple (A B : Mat ℤ) : Type 0 where
  pub by : Mat ℤ
  pub unit : nat_abs (det by) ≡ 1
  pub is : by · A ≡ B

-- from 0 to one less than the pivot p
pub record Reduced (x p : ℤ) : Type 0 where
  pub least : pos 0 ≤ℤ x
  pub below : x <ℤ p

-- lower zero, diagonal positive, entries above a pivot from 0 to one less than it
pub record HermiteForm (m : Mat ℤ) : Type 0 where
  pub d0 : m.d ≡ pos 0
  pub g0 : m.g ≡ pos 0
  pub h0 : m.h ≡ pos 0
  pub a : pos 0 <ℤ m.a
  pub e : pos 0 <ℤ m.e
  pub i : pos 0 <ℤ m.i
  pub b : Reduced m.b m.e
  pub c : Reduced m.c m.i
  pub f : Reduced m.f m.i

-- H is the Hermite form of A, the only one, and has its points
pub record FormOf (A H : Mat ℤ) : Type 0 where
  pub form : HermiteForm H
  pub left : LeftMultiple A H
  pub only : (K : Mat ℤ) → HermiteForm K → LeftMultiple A K → H ≡ K
  pub points : SamePoints A H
