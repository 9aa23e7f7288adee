-- Matrices laid into a list and read from it.
use mathlib.Core.Path.{◌≡◌, refl, sym, ◌∙◌, ap, ap₂, subst}
use mathlib.Core.Logic.{⊎_elim}
use mathlib.Core.List.Memᴰ.{cases_cons as cases}
use mathlib.Core.List.Memᴰ.{not-nil}
use mathlib.Core.List.{List, [], ◌∷◌, ◌++◌, append-nil, Memᴰ as Mem}
use Prim.Native.Nat.{ℕ, zero, suc, ◌+◌, ◌*◌, ◌/◌, ◌≤◌, ◌<◌}
use native.Mathlib.Nat.{not-suc-le-zero, le_of_suc-le-suc}
use native.Mathlib.Omega.{arith}
use lib.Dec.{T}
use lib.IntN.{ℤ, pos, nat_abs}
use lib.ListN.{length, get_or}
use Rattle.common.specs.Matrix.{Axis, Mat, entry, entries}
use Rattle.common.specs.Array.{axis_index, matrix_at, matrices_from, matrices, flat}
use Rattle.common.specs.Limits.{all_within}
use Rattle.common.proofs.Matrix.{same-matrix, entry-matrix}
use Rattle.common.proofs.Bounds.{entry-within}

pub length-flat : (l : List (Mat ℤ)) → length (flat l) ≡ length l * 9
length-flat [] = refl
length-flat (m ∷ l) = ap (λ n. suc (suc (suc (suc (suc (suc (suc (suc (suc n))))))))) (length-flat l) ∙ nine (length l)
  where
    nine : (k : ℕ) → suc (suc (suc (suc (suc (suc (suc (suc (suc (k * 9))))))))) ≡ suc k * 9
    nine k = omega arith

-- what is laid is read again
pub read-flat : (l : List (Mat ℤ)) (r : List ℤ) → matrices_from (flat l ++ r) 0 (length l) ≡ l
read-flat [] r = refl
read-flat (m ∷ l) r = ap (λ t. m ∷ t) (after 0 (length l) ∙ read-flat l r)
  where
    at : (n a b : ℕ) → get_or (entries m (flat l ++ r)) (suc n * 9 + a + b) (pos 0) ≡ get_or (flat l ++ r) (n * 9 + a + b) (pos 0)
    at n a b = ap (λ k. get_or (entries m (flat l ++ r)) k (pos 0)) (nine n a b)
      where
        nine : (n a b : ℕ) → suc n * 9 + a + b ≡ suc (suc (suc (suc (suc (suc (suc (suc (suc (n * 9 + a + b)))))))))
        nine n a b = omega arith

    after : (n k : ℕ) → matrices_from (entries m (flat l ++ r)) (suc n) k ≡ matrices_from (flat l ++ r) n k
    after n zero = refl
    after n (suc k) = ap₂ ◌∷◌ (same-matrix (λ i j. at n (axis_index i * 3) (axis_index j))) (after (suc n) k)

pub matrices-flat : (l : List (Mat ℤ)) → matrices (flat l) ≡ l
matrices-flat l =
    let count : length (flat l) / 9 ≡ length l = omega (arith, length-flat l) in
    ap₂ (λ s k. matrices_from s 0 k) (sym (append-nil (flat l))) count ∙ read-flat l []

-- as many as are read, and each by its place
module _ (l : List ℤ) where
  pub length_from : (n k : ℕ) → length (matrices_from l n k) ≡ k
  length_from n zero = refl
  length_from n (suc k) = ap suc (length_from (suc n) k)

  pub from_at : (n k i : ℕ) (z : Mat ℤ) → i < k → get_or (matrices_from l n k) i z ≡ matrix_at l (n + i)
  from_at n zero i z h = absurd (not-suc-le-zero h)
  from_at n (suc k) zero z h = ap (matrix_at l) (nought n)
    where
      nought : (n : ℕ) → n ≡ n + 0
      nought n = omega arith
  from_at n (suc k) (suc i) z h = from_at (suc n) k i z (le_of_suc-le-suc h) ∙ ap (matrix_at l) (later n i)
    where
      later : (n i : ℕ) → suc n + i ≡ n + suc i
      later n i = omega arith

-- entries within a limit
pub read_small : (b : ℕ) (s : List ℤ) → T (all_within b s) → (n k : ℕ) (m : Mat ℤ) → Mem m (matrices_from s n k) → (i j : Axis) → nat_abs (entry m i j) ≤ b
read_small b s t n zero m p = absurd (not-nil p)
read_small b s t n (suc k) m p = ⊎_elim (λ e. subst (λ m. (i j : Axis) → nat_abs (entry m i j) ≤ b) (sym e) at) (read_small b s t (suc n) k m) (cases p)
  where
    at : (i j : Axis) → nat_abs (entry (matrix_at s n) i j) ≤ b
    at i j = rw (entry-matrix (λ i j. get_or s (n * 9 + axis_index i * 3 + axis_index j) (pos 0)) i j) (entry-within b s t (n * 9 + axis_index i * 3 + axis_index j))
