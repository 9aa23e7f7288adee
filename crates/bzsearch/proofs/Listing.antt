-- Laws of lists: rows one after the other, what is kept of a list, numbers in a row, and the places of a part.
use mathlib.Core.Path.{◌≡◌, refl, sym, ◌∙◌, ap, ap₂, subst}
use mathlib.Core.Logic.{◌⊎◌, inl, inr, ⊎_elim}
use mathlib.Core.Bool.{Bool, true, false, cond}
use mathlib.Core.List.Memᴰ.{append_cases}
use mathlib.Core.List.Memᴰ.{append_left}
use mathlib.Core.List.Memᴰ.{append_right}
use mathlib.Core.List.Memᴰ.{cases_cons as cases}
use mathlib.Core.List.Memᴰ.{cast}
use mathlib.Core.List.Memᴰ.{head as here}
use mathlib.Core.List.Memᴰ.{map as map-in}
use mathlib.Core.List.Memᴰ.{not-nil}
use mathlib.Core.List.Memᴰ.{tail as there}
use mathlib.Core.List.{List, [], ◌∷◌, ◌++◌, map, append_assoc, append-nil}
use Prim.Native.Nat.{ℕ, zero, suc, ◌+◌, ◌*◌, ◌-◌, ◌≤◌, ◌<◌}
use native.Mathlib.Nat.{le_refl, le_of_suc-le-suc, not-suc-le-zero, eq-or-lt_of_le, add-zero}
use native.Mathlib.Omega.{arith}
use lib.Dec.{T}
use lib.ListN.{length, get_or, length-append}
use lib.Seq.{append_snoc}
use Rattle.grgrid.proofs.Lists.{◌∈◌, Distinct, distinct_append, item_in, Injective}
use Rattle.grgrid.specs.Build.{concat}
use Rattle.bzsearch.specs.Search.{kept_by, numbers_from}

-- ---- rows
module _ {A : Type 0} (g : ℕ → List A) where
  pub rows_in : (n i : ℕ) → i < n → {a : A} → a ∈ g i → a ∈ concat g n
  rows_in zero i h m = absurd (not-suc-le-zero h)
  rows_in (suc n) i h {a} m = ⊎_elim (λ e. append_right (concat g n) (subst (λ (j : ℕ). a ∈ g j) e m)) (λ l. append_left (g n) (rows_in n i l m)) (eq-or-lt_of_le (le_of_suc-le-suc h))

  pub rows-of : (n : ℕ) {a : A} → a ∈ concat g n → (i : ℕ) × (i < n) × (a ∈ g i)
  rows-of zero m = absurd (not-nil m)
  rows-of (suc n) {a} m = ⊎_elim (λ k. up (rows-of n k)) (λ k. (n, le_refl (suc n), k)) (append_cases (concat g n) m)
    where
      up : (i : ℕ) × (i < n) × (a ∈ g i) → (i : ℕ) × (i < suc n) × (a ∈ g i)
      up r = let h = r.1 in (r.0, omega arith, r.2)

  pub length-rows : (n : ℕ) → length (concat g (suc n)) ≡ length (concat g n) + length (g n)
  length-rows n = length-append (concat g n) (g n)

  pub rows_few : (k n : ℕ) → ((i : ℕ) → i < n → length (g i) ≤ k) → length (concat g n) ≤ n * k
  rows_few k zero h = omega arith
  rows_few k (suc n) h = omega (arith, length-rows n, rows_few k n (λ i l. h i (omega arith)), h n (le_refl (suc n)))

  -- row p and what stands before it
  pub rows-part : (n p : ℕ) → p < n → (after : List A) × (concat g n ≡ concat g p ++ (g p ++ after))
  rows-part zero p h = absurd (not-suc-le-zero h)
  rows-part (suc n) p h = ⊎_elim (λ e. ([], ap (λ (i : ℕ). concat g i ++ g i) (sym e) ∙ ap (λ l. concat g p ++ l) (sym (append-nil (g p))))) (λ l. more (rows-part n p l)) (eq-or-lt_of_le (le_of_suc-le-suc h))
    where
      more : (after : List A) × (concat g n ≡ concat g p ++ (g p ++ after)) → (after : List A) × (concat g (suc n) ≡ concat g p ++ (g p ++ after))
      more r = (r.0 ++ g n, ap (λ l. l ++ g n) r.1 ∙ append_assoc (concat g p) (g p ++ r.0) (g n) ∙ ap (λ l. concat g p ++ l) (append_assoc (g p) r.0 (g n)))

  -- rows told apart by a key
  pub rows-distinct : {B : Type 0} (key : A → B) (f : ℕ → B) (n : ℕ) → ((i : ℕ) → i < n → (a : A) → a ∈ g i → key a ≡ f i)
      → ((i j : ℕ) → i < n → j < n → f i ≡ f j → i ≡ j) → ((i : ℕ) → i < n → Distinct (g i)) → Distinct (concat g n)
  rows-distinct key f zero k inj d = tt
  rows-distinct key f (suc n) k inj d =
      distinct_append (concat g n) (g n) (rows-distinct key f n (λ i l. k i (omega arith)) (λ i j l m. inj i j (omega arith) (omega arith)) (λ i l. d i (omega arith)))
      (d n (le_refl (suc n))) apart
    where
      apart : (z : A) → z ∈ concat g n → ¬ (z ∈ g n)
      apart z p q =
          let r = rows-of n p in
          let h = r.1 in
          let e = inj r.0 n (omega arith) (le_refl (suc n)) (sym (k r.0 (omega arith) z r.2) ∙ k n (le_refl (suc n)) z q) in
          omega arith

-- ---- what is kept
-- the next of a list, by its test
one_in : {B : Type 0} {b c : B} {r : List B} (t : Bool) → ((b ≡ c) × T t) ⊎ (b ∈ r) → b ∈ cond t (c ∷ r) r
one_in true (inl e) = here e.0
one_in true (inr m) = there m
one_in false (inl e) = absurd e.1
one_in false (inr m) = m

one_of : {B : Type 0} {b : B} (c : B) (r : List B) (t : Bool) → b ∈ cond t (c ∷ r) r → ((b ≡ c) × T t) ⊎ (b ∈ r)
one_of c r true m = ⊎_elim (λ e. inl (e, tt)) inr (cases m)
one_of c r false m = inr m

module _ {A B : Type 0} (q : A → Bool) (h : A → B) where
  pub kept_in : {a : A} {l : List A} → a ∈ l → T (q a) → h a ∈ kept_by q h l
  kept_in {a = a} (here {x = x} {xs = l} e) t = one_in (q x) (inl (ap h e, subst (λ x. T (q x)) e t))
  kept_in (there {x = x} m) t = one_in (q x) (inr (kept_in m t))

  pub kept_of : (l : List A) {b : B} → b ∈ kept_by q h l → (a : A) × (a ∈ l) × T (q a) × (h a ≡ b)
  kept_of [] m = absurd (not-nil m)
  kept_of (a ∷ l) {b} m = ⊎_elim (λ e. (a, here refl, e.1, sym e.0)) (λ k. let r = kept_of l k in (r.0, there r.1, r.2, r.3)) (one_of (h a) (kept_by q h l) (q a) m)

  pub kept-few : (l : List A) → length (kept_by q h l) ≤ length l
  kept-few [] = le_refl 0
  kept-few (a ∷ l) = go (q a) (kept-few l)
    where
      go : (t : Bool) → length (kept_by q h l) ≤ length l → length {A = B} (cond t (h a ∷ kept_by q h l) (kept_by q h l)) ≤ suc (length l)
      go true k = omega arith
      go false k = omega arith

  pub kept-distinct : (l : List A) → Injective h l → Distinct l → Distinct (kept_by q h l)
  kept-distinct [] i d = tt
  kept-distinct (a ∷ l) i d = go (q a) (kept-distinct l (λ x y m n. i x y (there m) (there n)) d.1)
    where
      new : ¬ (h a ∈ kept_by q h l)
      new m = let r = kept_of l m in d.0 (cast (sym (i r.0 a (there r.1) (here refl) r.3)) r.1)

      go : (t : Bool) → Distinct (kept_by q h l) → Distinct {A = B} (cond t (h a ∷ kept_by q h l) (kept_by q h l))
      go true k = (new, k)
      go false k = k

-- where no two items look alike, an item is known by its looks
pub map-apart : {A B : Type 0} (f : A → B) (l : List A) → Distinct (map f l) → Injective f l
map-apart f [] d x y p q e = absurd (not-nil p)
map-apart f (z ∷ l) d x y p q e =
    ⊎_elim (λ i. ⊎_elim (λ j. i ∙ sym j) (λ n. absurd (d.0 (cast (ap f (sym i) ∙ e) (map-in f n)))) (cases q))
    (λ m. ⊎_elim (λ j. absurd (d.0 (cast (ap f (sym j) ∙ sym e) (map-in f m)))) (λ n. map-apart f l d.1 x y m n e) (cases q)) (cases p)

-- ---- numbers in a row
module _ {A : Type 0} (g : ℕ → A) where
  pub length-numbers : (i n : ℕ) → length (numbers_from g i n) ≡ n
  length-numbers i zero = refl
  length-numbers i (suc n) = ap suc (length-numbers (suc i) n)

  pub number-item : (z : A) (i n k : ℕ) → k < n → get_or (numbers_from g i n) k z ≡ g (i + k)
  number-item z i zero k h = absurd (not-suc-le-zero h)
  number-item z i (suc n) zero h = ap g (sym (add-zero i))
  number-item z i (suc n) (suc k) h = number-item z (suc i) n k (le_of_suc-le-suc h) ∙ ap g (next i k)
    where
      next : (i k : ℕ) → suc i + k ≡ i + suc k
      next i k = omega arith

pub number-in : (i n k : ℕ) → i ≤ k → k < i + n → k ∈ numbers_from (λ j. j) i n
number-in i n k h l =
    cast (sym (number-item (λ j. j) 0 i n (k - i) (omega arith) ∙ back)) (item_in 0 (numbers_from (λ j. j) i n) (k - i) (omega (arith, length-numbers (λ j. j) i n)))
  where
    back : i + (k - i) ≡ k
    back = omega arith

pub number_of : (i n : ℕ) {k : ℕ} → k ∈ numbers_from (λ j. j) i n → (i ≤ k) × (k < i + n)
number_of i zero m = absurd (not-nil m)
number_of i (suc n) {k} m = ⊎_elim (λ e. (omega arith, omega arith)) (λ t. let r = number_of (suc i) n t in (omega arith, omega arith)) (cases m)

-- ---- a list that is read by places: `at` tells f of the item at each
module _ {A B : Type 0} (at : ℕ → B) (f : A → B) where
  abbrev pub Reads : List A → Type 0
  Reads l = (us : List A) (x : A) (ws : List A) → l ≡ us ++ x ∷ ws → at (length us) ≡ f x

  -- the places of a part
  pub read-part : (l : List A) → Reads l → (us vs ws : List A) → l ≡ us ++ (vs ++ ws) → map at (numbers_from (λ i. i) (length us) (length vs)) ≡ map f vs
  read-part l r us [] ws e = refl
  read-part l r us (v ∷ vs) ws e =
      ap₂ ◌∷◌ (r us v (vs ++ ws) e)
      (ap (λ i. map at (numbers_from (λ i. i) i (length vs))) (sym longer) ∙ read-part l r (us ++ (v ∷ [])) vs ws (e ∙ sym (append_snoc us v (vs ++ ws))))
    where
      longer : length (us ++ (v ∷ [])) ≡ suc (length us)
      longer = omega (arith, length-append us (v ∷ []))
