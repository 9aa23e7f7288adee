-- Reading each of a list: one more at the end, and the first that is refused. What a walk has read stands in the front of its outputs.
use mathlib.Core.Path.{◌≡◌, refl, sym, ◌∙◌, ap, ap₂, subst}
use mathlib.Core.Logic.{⊎_elim}
use mathlib.Core.List.Memᴰ.{cases_cons as cases}
use mathlib.Core.List.Memᴰ.{head as here}
use mathlib.Core.List.Memᴰ.{not-nil}
use mathlib.Core.List.Memᴰ.{tail as there}
use mathlib.Core.List.{List, [], ◌∷◌, ◌++◌, map, map-append, append-nil, append_assoc}
use Prim.Native.Nat.{ℕ, zero, suc, ◌+◌, ◌<◌, ◌≤◌}
use native.Mathlib.Nat.{not-suc-le-zero, le_of_suc-le-suc}
use native.Mathlib.Omega.{arith}
use native.Mathlib.Numerals.{add-one}
use lib.IntN.{ℤ}
use lib.ListN.{length, get_or, set, take, length-append}
use lib.Seq.{length-take-le, take_at, take-suc-set}
use Rattle.std.specs.Prelude.{Ok, Err}
use Rattle.common.specs.Tested.{◌then◌}
use Rattle.common.specs.declared.Refusal.{Refusal}
use Rattle.common.proofs.Tests.{same-ok, same-refusal, refused-not-ok}
use Rattle.grgrid.specs.Lists.{◌∈◌}
use Rattle.bzgrid.specs.Table.{listed}
use Rattle.bzgrid.proofs.Accepted.{passes-first}
use Rattle.bzgrid.proofs.Mapped.{listed_more}
use Rattle.bztable.specs.Reading.{Read, got, read_each}
use Rattle.bztable.specs.Neighbours.{joined, read_rows}

module _ {A B : Type 0} (f : A → Read B) where
  pub each_append : (l m : List A) → read_each f (l ++ m) ≡ (read_each f l then λ r. read_each f m then λ s. got (r ++ s))
  each_append [] m = whole (read_each f m)
    where
      whole : (x : Read (List B)) → x ≡ (x then λ s. got s)
      whole (Ok s) = refl
      whole (Err e) = refl
  each_append (p ∷ l) m = ap (λ x. f p then λ a. x then λ r. got (a ∷ r)) (each_append l m) ∙ grouped (f p) (read_each f l) (read_each f m)
    where
      grouped : (x : Read B) (y z : Read (List B))
          → (x then λ a. (y then λ r. z then λ s. got (r ++ s)) then λ r. got (a ∷ r)) ≡ ((x then λ a. y then λ r. got (a ∷ r)) then λ r. z then λ s. got (r ++ s))
      grouped (Err e) y z = refl
      grouped (Ok a) (Err e) z = refl
      grouped (Ok a) (Ok r) (Err e) = refl
      grouped (Ok a) (Ok r) (Ok s) = refl

  pub each_more : (l : List A) (p : A) {r : List B} {a : B} → read_each f l ≡ got r → f p ≡ got a → read_each f (l ++ (p ∷ [])) ≡ got (r ++ (a ∷ []))
  each_more l p e h = each_append l (p ∷ []) ∙ (λ i. e i then λ r. (h i then λ a. got (a ∷ [])) then λ s. got (r ++ s))

  -- the first that is refused, and all is refused
  pub each-refused : (l : List A) (p : A) (m : List A) {r : List B} {e : Refusal} → read_each f l ≡ got r → f p ≡ Err e → Err e ≡ read_each f (l ++ (p ∷ m))
  each-refused l p m {e = e} g h = sym (each_append l (p ∷ m) ∙ (λ i. g i then λ r. (h i then λ a. read_each f m then λ r. got (a ∷ r)) then λ s. got (r ++ s)))

-- ---- what was read of each of a list
module _ {A B : Type 0} (f : A → Read B) where
  pub each_in : (l : List A) {r : List B} → read_each f l ≡ got r → {a : A} → a ∈ l → (b : B) × (f a ≡ got b) × (b ∈ r)
  each_in [] e m = absurd (not-nil m)
  each_in (p ∷ l) e {a} m =
      let s = passes-first (f p) _ e in
      let u = passes-first (read_each f l) _ s.2 in
      subst (λ r. (b : B) × (f a ≡ got b) × (b ∈ r)) (same-ok u.2)
      (⊎_elim (λ q. (s.0, ap f q ∙ s.1, here refl)) (λ k. let v = each_in l u.1 k in (v.0, v.1, there v.2)) (cases m))

  -- and is what h tells of it
  pub each-map : (h : A → B) → ((a : A) (b : B) → f a ≡ got b → h a ≡ b) → (l : List A) {r : List B} → read_each f l ≡ got r → map h l ≡ r
  each-map h k [] e = same-ok e
  each-map h k (p ∷ l) e =
      let s = passes-first (f p) _ e in
      let u = passes-first (read_each f l) _ s.2 in
      ap₂ ◌∷◌ (k p s.0 s.1) (each-map h k l u.1) ∙ same-ok u.2

  -- where each can be read, and v of it is what h tells
  module _ {C : Type 0} (v : B → C) (h : A → C) where
    pub each-got : (l : List A) → ((a : A) → a ∈ l → (b : B) × (f a ≡ got b) × (v b ≡ h a)) → (r : List B) × (read_each f l ≡ got r) × (map v r ≡ map h l)
    each-got [] e = ([], refl, refl)
    each-got (p ∷ l) e =
        let s = e p (here refl) in
        let u = each-got l (λ a k. e a (there k)) in
        (s.0 ∷ u.0, (λ i. s.1 i then λ b. u.1 i then λ r. got (b ∷ r)), ap₂ ◌∷◌ s.2 u.2)

-- ---- where none is refused there is one for each; else there is a first
module _ {A B : Type 0} (d : A) (e : B) (f : A → Read B) where
  pub each-read : (l : List A) {r : List B} → read_each f l ≡ got r
      → (length r ≡ length l) × ((j : ℕ) → j < length l → f (get_or l j d) ≡ got (get_or r j e))
  each-read [] h = subst (λ r. (length r ≡ 0) × ((j : ℕ) → j < 0 → f d ≡ got (get_or r j e))) (same-ok h) (refl, λ j k. absurd (not-suc-le-zero k))
  each-read (p ∷ l) h =
      let s = passes-first (f p) _ h in
      let u = passes-first (read_each f l) _ s.2 in
      let k = each-read l u.1 in
      subst (λ r. (length r ≡ suc (length l)) × ((j : ℕ) → j < suc (length l) → f (get_or (p ∷ l) j d) ≡ got (get_or r j e))) (same-ok u.2)
      (ap suc k.0, at s.0 u.0 s.1 k.1)
    where
      at : (s : B) (r : List B) → f p ≡ got s → ((j : ℕ) → j < length l → f (get_or l j d) ≡ got (get_or r j e))
          → (j : ℕ) → j < suc (length l) → f (get_or (p ∷ l) j d) ≡ got (get_or (s ∷ r) j e)
      at s r h k zero n = h
      at s r h k (suc j) n = k j (le_of_suc-le-suc n)

  abbrev pub First : List A → Refusal → Type 0
  First l x = (j : ℕ) × (j < length l) × (f (get_or l j d) ≡ Err x) × ((i : ℕ) → i < j → (b : B) × (f (get_or l i d) ≡ got b))

  first-later : (p : A) (l : List A) {b : B} {x : Refusal} → f p ≡ got b → First l x → First (p ∷ l) x
  first-later p l {b} n k = (suc k.0, omega (arith, k.1), k.2, before k.3)
    where
      before : {j : ℕ} → ((i : ℕ) → i < j → (c : B) × (f (get_or l i d) ≡ got c)) → (i : ℕ) → i < suc j → (c : B) × (f (get_or (p ∷ l) i d) ≡ got c)
      before m zero h = (b, n)
      before m (suc i) h = m i (le_of_suc-le-suc h)

  pub first-refused : (l : List A) {x : Refusal} → read_each f l ≡ Err x → First l x
  first-refused [] h = absurd (refused-not-ok (sym h))
  first-refused (p ∷ l) {x} h = go (λ x. first-refused l) (f p) (read_each f l) refl refl h
    where
      go : ((x : Refusal) → read_each f l ≡ Err x → First l x) → (y : Read B) (z : Read (List B)) → f p ≡ y → read_each f l ≡ z → (y then λ b. z then λ r. got (b ∷ r)) ≡ Err x → First (p ∷ l) x
      go later (Err y) z n m h = (0, omega arith, n ∙ ap Err (same-refusal h), λ i k. absurd (not-suc-le-zero k))
      go later (Ok b) (Ok r) n m h = absurd (refused-not-ok (sym h))
      go later (Ok b) (Err y) n m h = first-later p l n (later x (m ∙ ap Err (same-refusal h)))

-- ---- one more at the end of what was written
pub taken : {A : Type 0} (out l rest : List A) (at : ℕ) → at ≤ length out → take (at + length l) (take at out ++ (l ++ rest)) ≡ take at out ++ l
taken out l rest at h =
    ap (take (at + length l)) (sym (append_assoc (take at out) l rest))
    ∙ take_at (take at out ++ l) rest (at + length l) (length-append (take at out) l ∙ ap (λ n. n + length l) (length-take-le at out h))

pub mapped-more : {A B : Type 0} (g : A → B) (out : List B) (at : ℕ) (r : List A) (a : A) → at < length out → take at out ≡ map g r → take (at + 1) (set out at (g a)) ≡ map g (r ++ (a ∷ []))
mapped-more g out at r a h e = ap (λ n. take n (set out at (g a))) (add-one at) ∙ take-suc-set out at (g a) h ∙ ap (λ l. l ++ (g a ∷ [])) e ∙ sym (map-append g r (a ∷ []))

-- ---- rows one behind the other
module _ (g : ℕ → Read (List ℤ)) where
  abbrev pub appended : Read (List ℤ) → Read (List ℤ) → Read (List ℤ)
  appended l r = l then λ xs. r then λ ys. got (xs ++ ys)

  joined-append : (l m : List (List ℤ)) → joined (l ++ m) ≡ joined l ++ joined m
  joined-append [] m = refl
  joined-append (a ∷ l) m = ap (λ r. a ++ r) (joined-append l m) ∙ sym (append_assoc a (joined l) (joined m))

  pub rows-more : (n : ℕ) → read_rows g (suc n) ≡ appended (read_rows g n) (g n)
  rows-more n =
      ap (λ l. read_each g l then λ r. got (joined r)) (sym (listed_more (λ i. i) n))
      ∙ ap (λ x. x then λ r. got (joined r)) (each_append g (listed (λ i. i) n) (n ∷ []))
      ∙ grouped (read_each g (listed (λ i. i) n)) (g n)
    where
      grouped : (x : Read (List (List ℤ))) (y : Read (List ℤ))
          → ((x then λ r. (y then λ a. got (a ∷ [])) then λ s. got (r ++ s)) then λ r. got (joined r)) ≡ appended (x then λ r. got (joined r)) y
      grouped (Err e) y = refl
      grouped (Ok r) (Err e) = refl
      grouped (Ok r) (Ok a) = ap got (joined-append r (a ∷ []) ∙ ap (λ l. joined r ++ l) (append-nil a))
