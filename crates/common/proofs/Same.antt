-- Vectors that are the same, by the test.
use mathlib.Core.Path.{◌≡◌}
use mathlib.Core.Bool.{true, ◌&&◌}
use lib.Dec.{T}
use lib.IntN.{ℤ}
use Rattle.integer.specs.Same.{same}
use Rattle.integer.proofs.Same.{same-eq, same_refl}
use Rattle.integer.proofs.Test.{is_true}
use Rattle.common.specs.Matrix.{Vec, side, same_vector}
use Rattle.common.proofs.Matrix.{axes-of, same-vector}

pub same-itself : (v : Vec ℤ) → same_vector v v ≡ true
same-itself v = λ i. equal v.x i && (equal v.y i && equal v.z i)
  where
    equal : (x : ℤ) → same x x ≡ true
    equal x = is_true (same x x) (same_refl x)

pub same-vectors : (v w : Vec ℤ) → T (same_vector v w) → v ≡ w
same-vectors v w t = same-vector {f = side v} {g = side w} (λ k. same-eq (side v k) (side w k) (axes-of (λ k. same (side v k) (side w k)) t k))
