-- Equal matrices, by the definition's test.
use mathlib.Core.Path.{◌≡◌}
use lib.Dec.{T}
use lib.IntN.{ℤ}
use Rattle.integer.specs.Same.{same}
use Rattle.integer.proofs.Same.{same-eq, same_refl}
use Rattle.common.specs.Matrix.{Mat, entry, all_axes}
use Rattle.common.proofs.Matrix.{axes-of, all-axes, same-matrix}
use Rattle.recip_rotations.specs.Unique.{same_matrix}

pub matrix-eq : (m n : Mat ℤ) → T (same_matrix m n) → m ≡ n
matrix-eq m n t =
    same-matrix (λ j k. same-eq (entry m j k) (entry n j k)
    (axes-of (λ k. same (entry m j k) (entry n j k)) (axes-of (λ j. all_axes (λ k. same (entry m j k) (entry n j k))) t j) k))

pub matrix-refl : (m : Mat ℤ) → T (same_matrix m m)
matrix-refl m = all-axes (λ j. all_axes (λ k. same (entry m j k) (entry m j k))) (λ j. all-axes (λ k. same (entry m j k) (entry m j k)) (λ k. same_refl (entry m j k)))
