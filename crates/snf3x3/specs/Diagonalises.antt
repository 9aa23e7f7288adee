-- What an accepted answer of `snf3x3` is.
use Rattle.std.specs.Prelude.{◌≡◌, zero, suc, ℤ, pos, negsuc, ◌<ℤ◌}
use Rattle.common.specs.Matrix.{Axis, Vec, Mat, side, ◌·◌, det, diagonal, Unimodular}

-- 1, 0 or -1
abbrev pub sign : ℤ → ℤ
sign (pos zero) = pos 0
sign (pos (suc n)) = pos 1
sign (negsuc n) = negsuc 0

-- P·A·Q is the diagonal matrix of d; det P is 1, the numbers of d are positive, and so det Q, which is 1 or -1, is the sign of det A
pub record Diagonalises (A : Mat ℤ) (d : Vec ℤ) (P Q : Mat ℤ) : Type 0 where
  pub product : P · A · Q ≡ diagonal d
  pub det-p : det P ≡ pos 1
  pub unimodular-q : Unimodular Q
  pub det-q : det Q ≡ sign (det A)
  pub positive : (k : Axis) → pos 0 <ℤ side d k
