-- Laws of `build`: its length, each place, what holds at every place; and of a slice that a counted loop writes by it.
use mathlib.Core.Path.{◌≡◌, refl, sym, ◌∙◌, ap, ap₂}
use mathlib.Core.Logic.{⊎_elim}
use mathlib.Core.List.{List, [], ◌∷◌, ◌++◌, map, map-append, append-nil}
use Prim.Native.Nat.{ℕ, zero, suc, ◌+◌, ◌<◌, ◌≤◌}
use native.Mathlib.Nat.{le_of_eq, le_of_suc-le-suc, not-suc-le-zero, eq-or-lt_of_le}
use native.Mathlib.Numerals.{add-one}
use native.Mathlib.Omega.{arith}
use lib.ListN.{length, get_or, set, take, drop, length-append, length-map, get_or-append, get_or-map, drop_of_length-le}
use lib.Seq.{get_or_at, set_at, drop-cons, append_snoc, take-suc, take_all}
use Rattle.grgrid.specs.Build.{build}

module _ {A : Type 0} (f : ℕ → List A → A) where
  pub length-build : (n : ℕ) → length (build f n) ≡ n
  length-build zero = refl
  length-build (suc n) = length-append (build f n) (f n (build f n) ∷ []) ∙ add-one (length (build f n)) ∙ ap suc (length-build n)

  module _ (z : A) where
    -- each place from those before it
    pub build-at : (n p : ℕ) → p < n → get_or (build f n) p z ≡ f p (build f p)
    build-at zero p h = absurd (not-suc-le-zero h)
    build-at (suc n) p h =
        ⊎_elim (λ e. rw e (get_or_at (build f n) (f n (build f n)) [] z n (length-build n)))
        (λ l. get_or-append (build f n) (f n (build f n) ∷ []) z p (omega (arith, length-build n)) ∙ build-at n p l)
        (eq-or-lt_of_le (le_of_suc-le-suc h))

    -- what holds at each place because it holds at those before it
    pub build-all : (P : ℕ → A → Type 0) (N : ℕ) → ((n : ℕ) → n < N → ((p : ℕ) → p < n → P p (get_or (build f n) p z)) → P n (f n (build f n))) → (p : ℕ) → p < N → P p (get_or (build f N) p z)
    build-all P N step p h = rw (build-at N p h) (all N p h h)
      where
        all : (n p : ℕ) → p < n → p < N → P p (f p (build f p))
        all zero p k h = absurd (not-suc-le-zero k)
        all (suc n) p k h = step p h (λ q l. rw (build-at p q l) (all n q (omega arith) (omega arith)))

-- reading a list place by place gives it again
pub build-list : {A : Type 0} (l : List A) (z : A) (n : ℕ) → length l ≡ n → build (λ p done. get_or l p z) n ≡ l
build-list l z n e = front n (le_of_eq (sym e)) ∙ take_all n l (le_of_eq e)
  where
    front : (n : ℕ) → n ≤ length l → build (λ p done. get_or l p z) n ≡ take n l
    front zero h = refl
    front (suc n) h = ap (λ t. t ++ (get_or l n z ∷ [])) (front n (omega arith)) ∙ sym (take-suc l n z h)

-- ---- the loop: the first i places of a slice written, as g shows them (`pos`, for a slice of i64), the rest as it was
module _ {A B : Type 0} (f : ℕ → List A → A) (g : A → B) where
  abbrev pub written : ℕ → List B → List B
  written i out = map g (build f i) ++ drop i out

  length-shown : (i : ℕ) → length (map g (build f i)) ≡ i
  length-shown i = length-map (build f i) g ∙ length-build f i

  written_step : (i : ℕ) (out : List B) (z : B) → i < length out → set (written i out) i (g (f i (build f i))) ≡ written (suc i) out
  written_step i out z h =
      ap (λ l. set (map g (build f i) ++ l) i (g (f i (build f i)))) (drop-cons out i z h)
      ∙ set_at (map g (build f i)) (get_or out i z) (drop (suc i) out) (g (f i (build f i))) i (length-shown i)
      ∙ sym (append_snoc (map g (build f i)) (g (f i (build f i))) (drop (suc i) out))
      ∙ ap (λ l. l ++ drop (suc i) out) (sym (map-append g (build f i) (f i (build f i) ∷ [])))

  -- a turn
  pub written-more : (i : ℕ) (before : List B) {out : List B} {z : B} → out ≡ written i before → i < length before → z ≡ g (f i (build f i)) → set out i z ≡ written (i + 1) before
  written-more i before {out} {z} e h r = ap₂ (λ l v. set l i v) e r ∙ written_step i before z h ∙ ap (λ n. written n before) (sym (add-one i))

  pub written-end : (n : ℕ) (out : List B) → length out ≡ n → written n out ≡ map g (build f n)
  written-end n out h = ap (λ l. map g (build f n) ++ l) (drop_of_length-le out (le_of_eq h)) ∙ append-nil (map g (build f n))

  pub written_read : (i j : ℕ) (out : List B) (z : A) → j < i → get_or (written i out) j (g z) ≡ g (get_or (build f i) j z)
  written_read i j out z h = get_or-append (map g (build f i)) (drop i out) (g z) j (omega (arith, length-shown i)) ∙ get_or-map g (build f i) j z
