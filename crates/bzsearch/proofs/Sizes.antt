-- The limits of what a search is made from, as sizes.
use mir.Syntax.{w64}
use mathlib.Core.Path.{◌≡◌, sym, subst}
use mathlib.Core.List.{List, [], ◌∷◌}
use Prim.Native.Nat.{ℕ, zero, suc, ◌≤◌, zero-le}
use native.Mathlib.Nat.{le_of_eq, le_trans, lt_of_le_of_lt}
use native.Mathlib.Omega.{arith}
use lib.Dec.{T, lit≤, lit<, eqb→eq}
use lib.IntN.{ℤ, pos, nat_abs, ◌*ℤ◌, ◌-ℤ◌}
use lib.ListN.{length, get_or, get_or-eq_default}
use mir.Facts.{to_z-of_z}
use Rattle.integer.proofs.Fits.{held}
use Rattle.integer.proofs.Plain.{plain, p_atom, plain-within}
use Rattle.integer.proofs.Size.{sfits-abs}
use Rattle.common.specs.Matrix.{Axis, X, Y, Z, next, Mat, side, entry, entries, vector, matrix, map_mat, cross, integers, det, adjugate, inverse}
use Rattle.common.specs.Array.{along, vector_of, items, rows, matrix_at, Sized, SizedRows}
use Rattle.common.specs.IntegerMatrix.{det_fits}
use Rattle.common.specs.Limits.{diagonal_fits, matrix_within}
use Rattle.common.proofs.Matrix.{entry-matrix, diagonal-product}
use Rattle.common.proofs.Bounds.{matrix-sizes, sizes-within, p-sized, side-above}
use Rattle.common.proofs.Whole.{sized-det}
use Rattle.grgrid.proofs.Accepted.{side-0, side-1, side-2, side-small}
use Rattle.common.proofs.Sized.{sized-items}
use Rattle.bzsearch.specs.Search.{unimodular}

-- ---- the diagonal numbers
module _ (d : List ℤ) (t : T (diagonal_fits d)) where
  side-sized : (k : Axis) → nat_abs (along d k) ≤ 256
  side-sized X = side-small d t X
  side-sized Y = side-small d t Y
  side-sized Z = side-small d t Z

  pub side-held : (k : Axis) → held (along d k) ≡ along d k
  side-held k = to_z-of_z {w = w64} (sfits-abs (lt_of_le_of_lt (side-sized k) (lit< tt)))

  pub held-sized : (k : Axis) → nat_abs (held (along d k)) ≤ 256
  held-sized k = rw (side-held k) (side-sized k)

  -- the number itself
  pub side-whole : (k : Axis) → along d k ≡ pos (nat_abs (along d k))
  side-whole X = side-above (along d X) (side-0 d t)
  side-whole Y = side-above (along d Y) (side-1 d t)
  side-whole Z = side-above (along d Z) (side-2 d t)

pub sized-up : {j k : ℕ} {l : List ℤ} → j ≤ k → Sized j l → Sized k l
sized-up h f = record { each = λ n. le_trans (f.each n) h }

-- an array of three
pub row_sized : {n : ℕ} (l : List ℤ) → length l ≡ 3 → ((k : Axis) → nat_abs (side (vector_of l) k) ≤ n) → Sized n l
row_sized {n} l e h = record { each = at }
  where
    at : (i : ℕ) → nat_abs (get_or l i (pos 0)) ≤ n
    at zero = h X
    at (suc zero) = h Y
    at (suc (suc zero)) = h Z
    at (suc (suc (suc i))) = rw (get_or-eq_default l (pos 0) {n = suc (suc (suc i))} (omega arith)) zero-le

-- ---- nine numbers, by rows
sized-nil : {n : ℕ} → Sized n []
sized-nil = record { each = λ i. zero-le }

sized-cons : {n : ℕ} {z : ℤ} {l : List ℤ} → nat_abs z ≤ n → Sized n l → Sized n (z ∷ l)
sized-cons {n} {z} {l} h f = record { each = at }
  where
    at : (i : ℕ) → nat_abs (get_or (z ∷ l) i (pos 0)) ≤ n
    at zero = h
    at (suc i) = f.each i

pub entries-sized : {n : ℕ} (m : Mat ℤ) → ((j k : Axis) → nat_abs (entry m j k) ≤ n) → Sized n (entries m [])
entries-sized {n} m h = row X (row Y (row Z sized-nil))
  where
    row : (j : Axis) {l : List ℤ} → Sized n l → Sized n (entry m j X ∷ entry m j Y ∷ entry m j Z ∷ l)
    row j f = sized-cons (h j X) (sized-cons (h j Y) (sized-cons (h j Z) f))

pub nested-sized : {n : ℕ} {l : List ℤ} → Sized n l → SizedRows n (rows (matrix_at l 0))
nested-sized {n} {l} h = record { each = at }
  where
    at : (j : ℕ) → Sized n (get_or (rows (matrix_at l 0)) j [])
    at zero = sized-items _ (h.each 0) (h.each 1) (h.each 2)
    at (suc zero) = sized-items _ (h.each 3) (h.each 4) (h.each 5)
    at (suc (suc zero)) = sized-items _ (h.each 6) (h.each 7) (h.each 8)
    at (suc (suc (suc j))) = sized-nil

-- ---- Q and its inverse
module _ (m : Mat ℤ) (t : T (matrix_within 1000 m)) where
  pub det-fits : T (det_fits m)
  det-fits = sized-det m (λ j k. le_trans (matrix-sizes 1000 m t j k) (lit≤ tt))

  pub column-sized : (k : Axis) → Sized 1000 (items (vector (λ j. entry m j k)))
  column-sized k = sized-items _ (matrix-sizes 1000 m t X k) (matrix-sizes 1000 m t Y k) (matrix-sizes 1000 m t Z k)

pub unit_size : (m : Mat ℤ) → T (unimodular m) → nat_abs (det m) ≤ 1
unit_size m t = le_of_eq (eqb→eq (nat_abs (det m)) 1 t)

-- the cofactors times the determinant
pub inverse-entries : (m : Mat ℤ) → inverse m ≡ map_mat (λ z. det m *ℤ z) (adjugate m)
inverse-entries m = diagonal-product (λ k. det m) (adjugate m)

cofactor-size : (a b c d u : ℤ) → nat_abs a ≤ 1000 → nat_abs b ≤ 1000 → nat_abs c ≤ 1000 → nat_abs d ≤ 1000 → nat_abs u ≤ 1 → nat_abs (u *ℤ cross integers a b c d) ≤ 2000000
cofactor-size a b c d u p q r s t = plain-within {v = u *ℤ cross integers a b c d} (search (plain, p_atom) depth 12) tt

pub inverse_within : (m : Mat ℤ) → T (matrix_within 1000 m) → T (unimodular m) → T (matrix_within 2000000 (inverse m))
inverse_within m t u = subst (λ n. T (matrix_within 2000000 n)) (sym (inverse-entries m)) (sizes-within 2000000 (map_mat (λ z. det m *ℤ z) (adjugate m)) at)
  where
    size : (j k : Axis) → nat_abs (entry m j k) ≤ 1000
    size = matrix-sizes 1000 m t

    cofactor : Axis → Axis → ℤ
    cofactor j k = det m *ℤ entry (adjugate m) j k

    at : (j k : Axis) → nat_abs (entry (matrix cofactor) j k) ≤ 2000000
    at j k =
        rw (entry-matrix cofactor j k, entry-matrix (λ j k. cross integers (entry m (next k) (next j)) (entry m (next k) (next (next j))) (entry m (next (next k)) (next j)) (entry m (next (next k)) (next (next j)))) j k)
        (cofactor-size (entry m (next k) (next j)) (entry m (next k) (next (next j))) (entry m (next (next k)) (next j)) (entry m (next (next k)) (next (next j))) (det m)
        (size (next k) (next j)) (size (next k) (next (next j))) (size (next (next k)) (next j)) (size (next (next k)) (next (next j))) (unit_size m u))

-- ---- a candidate less the whole part
pub difference-sized : {m n : List ℤ} → Sized 16 m → Sized 4096 n → Sized 4112 (items (vector (λ k. along m k -ℤ along n k)))
difference-sized {m} {n} f g = sized-items _ (at 0) (at 1) (at 2)
  where
    at : (k : ℕ) → nat_abs (get_or m k (pos 0) -ℤ get_or n k (pos 0)) ≤ 4112
    at k = plain-within {v = get_or m k (pos 0) -ℤ get_or n k (pos 0)} (search (plain, p-sized) depth 12) tt
