-- A flat matrix is the nine entries of the matrix that it stands for.
use mathlib.Core.Path.{◌≡◌, ◌∙◌, ap}
use mathlib.Core.List.{List, [], ◌∷◌}
use Prim.Native.Nat.{ℕ, suc, ◌<◌}
use native.Mathlib.Omega.{arith}
use lib.IntN.{ℤ, pos}
use lib.ListN.{length, get_or, drop, drop_of_length-le}
use lib.Seq.{drop-cons}
use Rattle.common.specs.Matrix.{entries}
use Rattle.common.specs.Array.{matrix_at}

pub nine-entries : (l : List ℤ) → length l ≡ 9 → l ≡ entries (matrix_at l 0) []
nine-entries l e =
    from 0 (omega (arith, e)) (from 1 (omega (arith, e)) (from 2 (omega (arith, e)) (from 3 (omega (arith, e)) (from 4 (omega (arith, e))
    (from 5 (omega (arith, e)) (from 6 (omega (arith, e)) (from 7 (omega (arith, e)) (from 8 (omega (arith, e)) (drop_of_length-le l {i = 9} (omega (arith, e)))))))))))
  where
    from : (n : ℕ) {rest : List ℤ} → n < length l → drop (suc n) l ≡ rest → drop n l ≡ get_or l n (pos 0) ∷ rest
    from n h r = drop-cons l n (pos 0) h ∙ ap (λ r. get_or l n (pos 0) ∷ r) r
