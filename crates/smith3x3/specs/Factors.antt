-- The words of the theorem: invariant factors, and a matrix brought to them.
use Rattle.std.specs.Prelude.{◌≡◌, ℤ, pos, nat_abs, ◌<ℤ◌}
use Rattle.integer.specs.Divides.{Divides}
use Rattle.common.specs.Matrix.{Axis, Vec, Mat, side, ◌·◌, det, diagonal}
use Rattle.snf3x3.specs.Diagonalises.{sign}

-- positive numbers, each of which divides the next
pub record Factors (d : Vec ℤ) : Type 0 where
  pub positive : (k : Axis) → pos 0 <ℤ side d k
  pub first : Divides d.x d.y
  pub second : Divides d.y d.z

-- P·A·Q is B, where P and Q have determinants of 1 or -1
pub record Brings (A P Q B : Mat ℤ) : Type 0 where
  pub product : P · A · Q ≡ B
  pub unit-p : nat_abs (det P) ≡ 1
  pub unit-q : nat_abs (det Q) ≡ 1

-- the Smith form: d with P and Q, and no other d' has P' and Q'
pub record SmithForm (A : Mat ℤ) (d : Vec ℤ) (P Q : Mat ℤ) : Type 0 where
  pub brings : Brings A P Q (diagonal d)
  pub det-p : det P ≡ pos 1
  pub det-q : det Q ≡ sign (det A)
  pub factors : Factors d
  pub only : (d' : Vec ℤ) (P' Q' : Mat ℤ) → Brings A P' Q' (diagonal d') → Factors d' → d' ≡ d
