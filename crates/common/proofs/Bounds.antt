-- The loops and tests of limits.
use mathlib.Core.Path.{◌≡◌, ◌∙◌, ap₂, refl}
use mathlib.Core.List.{List, [], ◌∷◌}
use Prim.Native.Nat.{ℕ, zero, suc, ◌<◌, ◌≤◌, zero-le}
use native.Mathlib.Nat.{lt_of_le_of_lt}
use lib.Dec.{T, ltb, leb→le, le→leb, ltb→lt}
use lib.IntN.{ℤ, pos, negsuc, nat_abs}
use lib.Signed.{le_z, mag}
use lib.ListN.{get_or}
use mir.Facts.{to_z-of_z}
use mir.Syntax.{w64}
use Rattle.integer.proofs.Test.{and_l, and_r}
use Rattle.integer.proofs.Size.{sfits-abs}
use Rattle.integer.proofs.Fits.{held, held-is}
use Rattle.integer.proofs.Plain.{Plain, p_atom}
use Rattle.common.proofs.Matrix.{axes-of, all-axes}
use Rattle.common.specs.Matrix.{Axis, Mat, entry, all_axes}
use Rattle.common.specs.Array.{Sized}
use Rattle.common.specs.Limits.{within, all_within, matrix_within, side_fits}

-- a side of a grid is its size
pub side-above : (z : ℤ) → T (side_fits z) → z ≡ pos (nat_abs z)
side-above (pos n) t = refl
side-above (negsuc n) t = absurd t

pub entry-within : (k : ℕ) (l : List ℤ) → T (all_within k l) → (n : ℕ) → nat_abs (get_or l n (pos 0)) ≤ k
entry-within k [] t n = zero-le
entry-within k (z ∷ l) t zero = leb→le (nat_abs z) k (and_l (within k z) (all_within k l) t)
entry-within k (z ∷ l) t (suc n) = entry-within k l (and_r (within k z) (all_within k l) t) n

pub matrix-sizes : (n : ℕ) (m : Mat ℤ) → T (matrix_within n m) → (j k : Axis) → nat_abs (entry m j k) ≤ n
matrix-sizes n m t j k = leb→le (nat_abs (entry m j k)) n (axes-of (λ k. within n (entry m j k)) (axes-of (λ j. all_axes (λ k. within n (entry m j k))) t j) k)

pub sizes-within : (n : ℕ) (m : Mat ℤ) → ((j k : Axis) → nat_abs (entry m j k) ≤ n) → T (matrix_within n m)
sizes-within n m h = all-axes (λ j. all_axes (λ k. within n (entry m j k))) (λ j. all-axes (λ k. within n (entry m j k)) (λ k. le→leb (nat_abs (entry m j k)) n (h j k)))

-- a diagonal number is 1 to 256
pub side-positive : (z : ℤ) → T (side_fits z) → 0 < nat_abs z
side-positive (pos n) t = leb→le 1 n (and_l (le_z (pos 1) (pos n)) (le_z (pos n) (pos 256)) t)
side-positive (negsuc n) t = absurd t

pub side-size : (z : ℤ) → T (side_fits z) → nat_abs z ≤ 256
side-size (pos n) t = leb→le n 256 (and_r (le_z (pos 1) (pos n)) (le_z (pos n) (pos 256)) t)
side-size (negsuc n) t = absurd t

-- an entry's size, for overflow needs: `search (plain, p-sized)`
abbrev pub p-sized : {k : ℕ} {l : List ℤ} (n : ℕ) → Sized k l → Plain (get_or l n (pos 0))
p-sized n h = p_atom (h.each n)

-- an entry of known size is what a local holds of it
module _ {k : ℕ} {l : List ℤ} (h : Sized k l) (n : ℕ) (t : T (ltb k 0x8000000000000000)) where
  pub entry-held : held (get_or l n (pos 0)) ≡ get_or l n (pos 0)
  entry-held = to_z-of_z {w = w64} (sfits-abs (lt_of_le_of_lt (h.each n) (ltb→lt k 0x8000000000000000 t)))

  pub held-size : nat_abs (held (get_or l n (pos 0))) ≤ k
  held-size = rw entry-held (h.each n)

-- and so what a call returned of entry n of two arrays is what it is of the entries
pub entry-result : {j k : ℕ} {a b : List ℤ} → Sized j a → Sized k b → T (ltb j 0x8000000000000000) → T (ltb k 0x8000000000000000) → (n : ℕ) (g : ℤ → ℤ → ℤ) {r : ℤ}
    → mag r < 0x8000000000000000 → r ≡ g (held (get_or a n (pos 0))) (held (get_or b n (pos 0))) → held r ≡ g (get_or a n (pos 0)) (get_or b n (pos 0))
entry-result f h s t n g {r} ok e = held-is r ok ∙ e ∙ ap₂ g (entry-held f n s) (entry-held h n t)
