-- What passes a test: which numbers and members these are, that the numbers rise, and how many there are.
use mathlib.Core.Path.{◌≡◌, refl, sym, ◌∙◌, ap, ap₂, subst}
use mathlib.Core.Logic.{◌⊎◌, inl, inr, ⊎_elim, ◌↔◌}
use mathlib.Core.Bool.{Bool, true, false, cond}
use mathlib.Core.List.Memᴰ.{append_cases}
use mathlib.Core.List.Memᴰ.{append_left}
use mathlib.Core.List.Memᴰ.{append_right}
use mathlib.Core.List.Memᴰ.{cases_cons as cases}
use mathlib.Core.List.Memᴰ.{head as here}
use mathlib.Core.List.Memᴰ.{not-nil}
use mathlib.Core.List.Memᴰ.{tail as there}
use mathlib.Core.List.{List, [], ◌∷◌, ◌++◌, append-nil}
use Prim.Native.Nat.{ℕ, zero, suc, ◌+◌, ◌<◌, ◌≤◌}
use native.Mathlib.Nat.{le_refl, le_of_suc-le-suc, not-suc-le-zero, eq-or-lt_of_le}
use native.Mathlib.Numerals.{add-one}
use native.Mathlib.Omega.{arith}
use lib.Dec.{T}
use lib.ListN.{length, get_or, length-append}
use Rattle.grgrid.specs.Picked.{picked, passing, Rising}
use Rattle.grgrid.proofs.Lists.{◌∈◌, Distinct}

-- ---- rising lists
rising_snoc : (l : List ℕ) (n : ℕ) → ((y : ℕ) → y ∈ l → y < n) → Rising l → Rising (l ++ (n ∷ []))
rising_snoc [] n h r = (λ y m. absurd (not-nil m), tt)
rising_snoc (x ∷ l) n h r = (
  λ y m. ⊎_elim (r.0 y) (λ k. ⊎_elim (λ e. rw e (h x (here refl))) (λ k. absurd (not-nil k)) (cases k)) (append_cases l m),
  rising_snoc l n (λ y m. h y (there m)) r.1,
)

rising-distinct : (l : List ℕ) → Rising l → Distinct l
rising-distinct [] r = tt
rising-distinct (x ∷ l) r = (λ m. let h = r.0 x m in omega arith, rising-distinct l r.1)

-- ---- numbers
-- 1 for what passes
abbrev pub mark : Bool → ℕ
mark b = cond b 1 0

module _ (t : ℕ → Bool) where
  pub in-picked : (n p : ℕ) → (p ∈ picked t n) ↔ ((p < n) × T (t p))
  in-picked zero p = (λ m. absurd (not-nil m), λ k. absurd (not-suc-le-zero k.0))
  in-picked (suc n) p = (
    λ m. ⊎_elim (λ k. let r = (in-picked n p).0 k in (omega (arith, r.0), r.1)) (last (t n) (λ h. h)) (append_cases (picked t n) m),
    λ k. ⊎_elim
        (λ e. append_right (picked t n) (put (t n) (subst (λ (i : ℕ). T (t i)) e k.1) e))
        (λ h. append_left (cond (t n) (n ∷ []) []) ((in-picked n p).1 (h, k.1)))
        (eq-or-lt_of_le (le_of_suc-le-suc k.0)),
  )
    where
      last : (b : Bool) → (T b → T (t n)) → p ∈ cond b (n ∷ []) [] → (p < suc n) × T (t p)
      last true h m = ⊎_elim (λ e. (omega arith, rw e (h tt))) (λ k. absurd (not-nil k)) (cases m)
      last false h m = absurd (not-nil m)

      put : (b : Bool) → T b → p ≡ n → p ∈ cond b (n ∷ []) []
      put true h e = here e
      put false h e = absurd h

  pub picked-rising : (n : ℕ) → Rising (picked t n)
  picked-rising zero = tt
  picked-rising (suc n) = step (t n) (picked-rising n)
    where
      step : (b : Bool) → Rising (picked t n) → Rising (picked t n ++ cond b (n ∷ []) [])
      step true r = rising_snoc (picked t n) n (λ y m. ((in-picked n y).0 m).0) r
      step false r = rw (append-nil (picked t n)) r

  pub picked-distinct : (n : ℕ) → Distinct (picked t n)
  picked-distinct n = rising-distinct (picked t n) (picked-rising n)

  -- one more number
  module _ (n : ℕ) where
    next : (b : Bool) → t n ≡ b → picked t (n + 1) ≡ picked t n ++ cond b (n ∷ []) []
    next b e = ap (picked t) (add-one n) ∙ ap (λ (b : Bool). picked t n ++ cond b (n ∷ []) []) e

    pub picked_more : t n ≡ true → picked t (n + 1) ≡ picked t n ++ (n ∷ [])
    picked_more e = next true e

    pub picked_same : t n ≡ false → picked t (n + 1) ≡ picked t n
    picked_same e = next false e ∙ append-nil (picked t n)

  pub picked-length : (n : ℕ) → length (picked t (suc n)) ≡ length (picked t n) + mark (t n)
  picked-length n = length-append (picked t n) (cond (t n) (n ∷ []) []) ∙ ap (λ k. length (picked t n) + k) (one (t n))
    where
      one : (b : Bool) → length (cond b (n ∷ []) []) ≡ mark b
      one true = refl
      one false = refl

  pub picked-few : (n : ℕ) → length (picked t n) ≤ n
  picked-few zero = le_refl 0
  picked-few (suc n) = rw (picked-length n) (step (t n) (picked-few n))
    where
      step : (b : Bool) {k : ℕ} → k ≤ n → k + mark b ≤ suc n
      step true h = omega arith
      step false h = omega arith

  pub picked-grows : (n m : ℕ) → n ≤ m → length (picked t n) ≤ length (picked t m)
  picked-grows n zero h = let e : n ≡ 0 = omega arith in rw e (le_refl (length (picked t 0)))
  picked-grows n (suc m) h =
      ⊎_elim (λ e. rw e (le_refl (length (picked t (suc m))))) (λ k. let g = picked-grows n m (le_of_suc-le-suc k) in omega (arith, picked-length m)) (eq-or-lt_of_le h)

-- tests that agree below n
pub picked-agree : (t u : ℕ → Bool) (n : ℕ) → ((p : ℕ) → p < n → t p ≡ u p) → picked t n ≡ picked u n
picked-agree t u zero h = refl
picked-agree t u (suc n) h = ap₂ (λ l b. l ++ cond b (n ∷ []) []) (picked-agree t u n (λ p k. h p (omega arith))) (h n (le_refl (suc n)))

-- the numbers below n
abbrev pub up_to : ℕ → List ℕ
up_to n = picked (λ p. true) n

pub up_to-length : (n : ℕ) → length (up_to n) ≡ n
up_to-length zero = refl
up_to-length (suc n) = picked-length (λ p. true) n ∙ add-one (length (up_to n)) ∙ ap suc (up_to-length n)

-- ---- members of a list
module _ {A : Type 0} (t : A → Bool) where
  pub in-passing : (l : List A) {x : A} → x ∈ l → T (t x) → x ∈ passing t l
  in-passing [] m k = absurd (not-nil m)
  in-passing (y ∷ l) {x} m k = step (t y) (λ e. subst (λ z. T (t z)) e k) (λ j. in-passing l j k) (cases m)
    where
      step : (b : Bool) → (x ≡ y → T b) → (x ∈ l → x ∈ passing t l) → (x ≡ y) ⊎ (x ∈ l) → x ∈ cond b (y ∷ passing t l) (passing t l)
      step true h r (inl i) = here i
      step true h r (inr j) = there (r j)
      step false h r (inl i) = absurd (h i)
      step false h r (inr j) = r j

  pub of-passing : (l : List A) {x : A} → x ∈ passing t l → (x ∈ l) × T (t x)
  of-passing [] m = absurd (not-nil m)
  of-passing (y ∷ l) {x} m = step (t y) (λ h. h) (of-passing l) m
    where
      up : (x ∈ l) × T (t x) → (x ∈ y ∷ l) × T (t x)
      up k = (there k.0, k.1)

      step : (b : Bool) → (T b → T (t y)) → (x ∈ passing t l → (x ∈ l) × T (t x)) → x ∈ cond b (y ∷ passing t l) (passing t l) → (x ∈ y ∷ l) × T (t x)
      step true h r k = ⊎_elim (λ i. (here i, subst (λ z. T (t z)) (sym i) (h tt))) (λ j. up (r j)) (cases k)
      step false h r k = up (r k)

  pub passing-distinct : (l : List A) → Distinct l → Distinct (passing t l)
  passing-distinct [] d = tt
  passing-distinct (x ∷ l) d = step (t x) (passing-distinct l d.1)
    where
      step : (b : Bool) → Distinct (passing t l) → Distinct (cond b (x ∷ passing t l) (passing t l))
      step true r = (λ m. d.0 (of-passing l m).0, r)
      step false r = r

  pub passing-append : (a b : List A) → passing t (a ++ b) ≡ passing t a ++ passing t b
  passing-append [] b = refl
  passing-append (x ∷ a) b = step (t x) (passing-append a b)
    where
      step : (c : Bool) → passing t (a ++ b) ≡ passing t a ++ passing t b
          → cond c (x ∷ passing t (a ++ b)) (passing t (a ++ b)) ≡ cond c (x ∷ passing t a) (passing t a) ++ passing t b
      step true e = ap (λ l. x ∷ l) e
      step false e = e

  pub passing-length : (x : A) (l : List A) → length (passing t (x ∷ l)) ≡ mark (t x) + length (passing t l)
  passing-length x l = step (t x)
    where
      step : (b : Bool) → length (cond b (x ∷ passing t l) (passing t l)) ≡ mark b + length (passing t l)
      step true = omega arith
      step false = omega arith

  pub passing-few : (l : List A) → length (passing t l) ≤ length l
  passing-few [] = le_refl 0
  passing-few (x ∷ l) = rw (passing-length x l) (step (t x) (passing-few l))
    where
      step : (b : Bool) {k : ℕ} → k ≤ length l → mark b + k ≤ suc (length l)
      step true h = omega arith
      step false h = omega arith

-- as many as the places of the list at which they stand
pub places-many : {A : Type 0} (t : A → Bool) (l : List A) (z : A) → length (picked (λ i. t (get_or l i z)) (length l)) ≡ length (passing t l)
places-many t [] z = refl
places-many t (x ∷ l) z = first (λ i. t (get_or (x ∷ l) i z)) (length l) ∙ ap (λ n. mark (t x) + n) (places-many t l z) ∙ sym (passing-length t x l)
  where
    -- a test of the first number and of those after it
    first : (t : ℕ → Bool) (n : ℕ) → length (picked t (suc n)) ≡ mark (t 0) + length (picked (λ i. t (suc i)) n)
    first t zero = let e = picked-length t 0 in omega arith
    first t (suc n) =
        let e = picked-length t (suc n) in
        let f = picked-length (λ i. t (suc i)) n in
        let g = first t n in
        omega arith
