-- Laws of membership and of lists with no repeats, and the pigeonhole: a list with no repeats inside one that is no longer fills it.
use mathlib.Core.Path.{◌≡◌, refl, sym, ◌∙◌, ap}
use mathlib.Core.Logic.{◌⊎◌, inl, inr, ⊎_elim}
use mathlib.Core.List.Memᴰ.{append_cases}
use mathlib.Core.List.Memᴰ.{cases_cons as cases}
use mathlib.Core.List.Memᴰ.{cast}
use mathlib.Core.List.Memᴰ.{head as here}
use mathlib.Core.List.Memᴰ.{of_map}
use mathlib.Core.List.Memᴰ.{tail as there}
use mathlib.Core.List.{List, [], ◌∷◌, ◌++◌, map}
use Prim.Native.Nat.{ℕ, zero, suc, ◌≤◌, ◌<◌, zero-le, suc-le-suc}
use native.Mathlib.Nat.{le_of_eq, le_trans, le_of_suc-le-suc, not-suc-le-zero}
use lib.ListN.{length, get_or, length-map}
pub use Rattle.grgrid.specs.Lists.{◌∈◌, Distinct}

module _ {A : Type 0} where
  infix 4 ◌⊆◌
  abbrev pub ◌⊆◌ : List A → List A → Type 0
  xs ⊆ ys = (z : A) → z ∈ xs → z ∈ ys

  pub distinct_append : (xs ys : List A) → Distinct xs → Distinct ys → ((z : A) → z ∈ xs → ¬ (z ∈ ys)) → Distinct (xs ++ ys)
  distinct_append [] ys d e n = e
  distinct_append (x ∷ xs) ys d e n = (λ m. ⊎_elim d.0 (n x (here refl)) (append_cases xs m), distinct_append xs ys d.1 e (λ z m. n z (there m)))

  -- ---- the list without one member
  abbrev without : {x : A} {l : List A} → x ∈ l → List A
  without (here {xs = xs} e) = xs
  without (there {x = y} m) = y ∷ without m

  without-length : {x : A} {l : List A} (m : x ∈ l) → length l ≡ suc (length (without m))
  without-length (here e) = refl
  without-length (there m) = ap suc (without-length m)

  without-cases : {x z : A} {l : List A} (m : x ∈ l) → z ∈ l → (z ≡ x) ⊎ (z ∈ without m)
  without-cases (here e) k = ⊎_elim (λ p. inl (p ∙ sym e)) inr (cases k)
  without-cases (there m) k = ⊎_elim (λ p. inr (here p)) (λ j. ⊎_elim inl (λ i. inr (there i)) (without-cases m j)) (cases k)

  sub-without : {x : A} {xs ys : List A} → ¬ (x ∈ xs) → x ∷ xs ⊆ ys → (m : x ∈ ys) → xs ⊆ without m
  sub-without n s m z k = ⊎_elim (λ p. absurd (n (cast (sym p) k))) (λ j. j) (without-cases m (s z (there k)))

  -- a list with no repeats is no longer than one that it lies in, and fills one that is no longer
  pub shorter : (xs ys : List A) → Distinct xs → xs ⊆ ys → length xs ≤ length ys
  shorter [] ys d s = zero-le
  shorter (x ∷ xs) ys d s = let m = s x (here refl) in le_trans (suc-le-suc (shorter xs (without m) d.1 (sub-without d.0 s m))) (le_of_eq (sym (without-length m)))

  pub fills : (xs ys : List A) → Distinct xs → xs ⊆ ys → length ys ≤ length xs → ys ⊆ xs
  fills [] [] d s h z k = k
  fills [] (y ∷ ys) d s h z k = absurd (not-suc-le-zero h)
  fills (x ∷ xs) ys d s h z k =
      let m = s x (here refl) in
      ⊎_elim here (λ j. there (fills xs (without m) d.1 (sub-without d.0 s m) (le_of_suc-le-suc (le_trans (le_of_eq (sym (without-length m))) h)) z j)) (without-cases m k)

  -- ---- items by their place
  pub item_in : (z : A) (l : List A) (i : ℕ) → i < length l → get_or l i z ∈ l
  item_in z [] i h = absurd (not-suc-le-zero h)
  item_in z (x ∷ l) zero h = here refl
  item_in z (x ∷ l) (suc i) h = there (item_in z l i (le_of_suc-le-suc h))

-- ---- maps
abbrev pub Injective : {A B : Type 0} → (A → B) → List A → Type 0
Injective {A} f l = (x y : A) → x ∈ l → y ∈ l → f x ≡ f y → x ≡ y

pub distinct-map : {A B : Type 0} (f : A → B) (l : List A) → Injective f l → Distinct l → Distinct (map f l)
distinct-map f [] i d = tt
distinct-map f (x ∷ l) i d = (
  λ m. let r = of_map f l m in d.0 (cast (sym (i r.0 x (there r.1) (here refl) r.2)) r.1),
  distinct-map f l (λ y z p q. i y z (there p) (there q)) d.1,
)

-- an injective map of a list with no repeats into itself reaches every member
pub onto : {A : Type 0} (f : A → A) (l : List A) → Distinct l → ((x : A) → x ∈ l → f x ∈ l) → Injective f l → {y : A} → y ∈ l → (x : A) × (x ∈ l) × (f x ≡ y)
onto f l d into i {y} m = of_map f l (fills (map f l) l (distinct-map f l i d) (λ z k. let r = of_map f l k in cast (sym r.2) (into r.0 r.1)) (le_of_eq (sym (length-map l f))) y m)
