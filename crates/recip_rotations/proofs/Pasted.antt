-- What stores s from place `at` on: a loop after k turns, and a copy.
use mathlib.Core.Path.{◌≡◌, sym, ◌∙◌, ap, ap₂}
use mathlib.Core.List.{List, ◌++◌, append_assoc}
use Prim.Native.Nat.{ℕ, ◌+◌, ◌-◌, ◌<◌}
use native.Mathlib.Numerals.{add-one}
use native.Mathlib.Omega.{arith}
use lib.ListN.{length, get_or, set, take, drop}
use borrow.Rule.Slice.PartMut.{put_mid}
use lib.Seq.{paste, paste-suc, drop-drop}

pub paste_more : {A : Type 0} (d : List A) (at : ℕ) (s : List A) (k : ℕ) (z : A) {e : List A} {v : A} → e ≡ paste d at s k → v ≡ get_or s k z
    → at + k < length d → k < length s → set e (at + k) v ≡ paste d at s (k + 1)
paste_more d at s k z p q h g = ap₂ (λ l x. set l (at + k) x) p q ∙ paste-suc d at s k z h g ∙ ap (paste d at s) (sym (add-one k))

-- nine of them
pub copied : {A : Type 0} (d : List A) (at : ℕ) (s : List A) (i : ℕ) → put_mid at (at + 9 - at) d (take (i + 9 - i) (drop i s)) ≡ paste d at (drop i s) 9
copied d at s i = ap₂ (λ k n. put_mid at k d (take n (drop i s))) (nine at) (nine i) ∙ ap (λ t. take at d ++ (take 9 (drop i s) ++ t)) (drop-drop 9 at d) ∙ sym (append_assoc (take at d) (take 9 (drop i s)) (drop (at + 9) d))
  where
    nine : (i : ℕ) → i + 9 - i ≡ 9
    nine i = omega arith
