-- Walks over rows of candidates: a turn, the end, and the sizes of a candidate.
use mathlib.Core.Path.{◌≡◌, sym, ◌∙◌, ap, subst}
use mathlib.Core.List.{List, ◌++◌, foldl, foldl-append}
use Prim.Native.Nat.{ℕ, ◌+◌, ◌<◌, ◌≤◌}
use native.Mathlib.Nat.{le_antisymm}
use native.Mathlib.Numerals.{add-one}
use lib.IntN.{ℤ, nat_abs}
use lib.Signed.{mag}
use Rattle.integer.proofs.Fits.{held, held-is}
use Rattle.grgrid.specs.Build.{concat}

pub joined : {A S : Type 0} (f : S → A → S) (a : S) (l m : List A) {b e : S} → b ≡ foldl f a l → e ≡ foldl f b m → e ≡ foldl f a (l ++ m)
joined f a l m p q = q ∙ ap (λ x. foldl f x m) p ∙ sym (foldl-append f a l m)

module _ {A S : Type 0} (f : S → A → S) (g : ℕ → List A) (k : ℕ) (a : S) where
  -- the rows passed, and then the next
  pub turn : {b e : S} {l : List A} → b ≡ foldl f a (concat g k) → e ≡ foldl f b l → l ≡ g k → e ≡ foldl f a (concat g (k + 1))
  turn {b} p q r =
      joined f a (concat g k) (g k) p (q ∙ ap (foldl f b) r) ∙ ap (λ n. foldl f a (concat g n)) (sym (add-one k))

  pub finished : {b : S} {n : ℕ} → b ≡ foldl f a (concat g k) → k ≤ n → n ≤ k → b ≡ foldl f a (concat g n)
  finished p l h = p ∙ ap (λ n. foldl f a (concat g n)) (le_antisymm l h)

-- as the code holds a number
pub held-small : {n : ℕ} (z : ℤ) → mag z < 0x8000000000000000 → nat_abs z ≤ n → nat_abs (held z) ≤ n
held-small {n} z g = subst (λ (w : ℤ). nat_abs w ≤ n) (sym (held-is z g))
