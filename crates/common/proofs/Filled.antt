-- A loop that stores v from the front: after n turns the list is n times v, and then d from place n on.
use mathlib.Core.Path.{◌≡◌, refl, sym, ◌∙◌, ap}
use mathlib.Core.List.{List, [], ◌∷◌, ◌++◌}
use Prim.Native.Nat.{ℕ, zero, suc, ◌+◌, ◌<◌, ◌≤◌}
use native.Mathlib.Nat.{not-suc-le-zero, le_of_suc-le-suc, le_antisymm}
use native.Mathlib.Numerals.{add-one}
use lib.ListN.{length, set, drop, replicate}

module _ {A : Type 0} (v : A) where
  abbrev pub filled : ℕ → List A → List A
  filled n d = replicate n v ++ drop n d

  step : (n : ℕ) (d : List A) → n < length d → set (filled n d) n v ≡ filled (suc n) d
  step n [] l = absurd (not-suc-le-zero l)
  step zero (x ∷ d) l = refl
  step (suc n) (x ∷ d) l = ap (λ t. v ∷ t) (step n d (le_of_suc-le-suc l))

  pub filled_more : (n : ℕ) (d : List A) {e : List A} → e ≡ filled n d → n < length d → set e n v ≡ filled (n + 1) d
  filled_more n d p l = ap (λ t. set t n v) p ∙ step n d l ∙ ap (λ k. filled k d) (sym (add-one n))

  all : (d : List A) → filled (length d) d ≡ replicate (length d) v
  all [] = refl
  all (x ∷ d) = ap (λ t. v ∷ t) (all d)

  pub filled-end : (n : ℕ) (d : List A) {e : List A} → e ≡ filled n d → n ≤ length d → length d ≤ n → e ≡ replicate (length d) v
  filled-end n d p a b = p ∙ ap (λ k. filled k d) (le_antisymm a b) ∙ all d
