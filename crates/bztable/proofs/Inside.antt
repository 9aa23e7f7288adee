-- The sizes of a matrix, row by row.
use mathlib.Core.List.{[]}
use Prim.Native.Nat.{ℕ, zero, suc, zero-le}
use lib.Dec.{T}
use lib.IntN.{ℤ}
use lib.ListN.{get_or}
use Rattle.common.specs.Matrix.{Axis, X, Y, Z, Mat, vector, entry}
use Rattle.common.specs.Array.{items, rows, Sized, SizedRows}
use Rattle.common.specs.Limits.{matrix_within}
use Rattle.common.proofs.Bounds.{matrix-sizes}
use Rattle.common.proofs.Sized.{sized-items}

pub within-sized : (k : ℕ) (m : Mat ℤ) → T (matrix_within k m) → SizedRows k (rows m)
within-sized k m t = record { each = at }
  where
    row : (j : Axis) → Sized k (items (vector (entry m j)))
    row j = sized-items (vector (entry m j)) (matrix-sizes k m t j X) (matrix-sizes k m t j Y) (matrix-sizes k m t j Z)

    at : (n : ℕ) → Sized k (get_or (rows m) n [])
    at zero = row X
    at (suc zero) = row Y
    at (suc (suc zero)) = row Z
    at (suc (suc (suc n))) = record { each = λ n. zero-le }
