-- Counted walks over images: one step more, and a state that no step changes stays to the end. So do the three nested walks;
-- and such walks go beside others.
use mathlib.Core.Path.{◌≡◌, refl, sym, ◌∙◌, ap, ap₂}
use mathlib.Core.Logic.{⊎_elim}
use mathlib.Core.Bool.{true, false, true≢false}
use mathlib.Core.List.Memᴰ.{head as here}
use mathlib.Core.List.Memᴰ.{tail as there}
use mathlib.Core.List.{List, [], ◌∷◌, map, foldl}
use Prim.Native.Nat.{ℕ, zero, suc, ◌+◌, ◌-◌, ◌<◌, ◌≤◌}
use native.Mathlib.Nat.{le_antisymm, not-suc-le-zero, le_of_suc-le-suc, eq-or-lt_of_le}
use native.Mathlib.Numerals.{add-one}
use native.Mathlib.Omega.{arith}
use Rattle.std.specs.Prelude.{Err}
use Rattle.common.specs.Matrix.{Vec, map_vec}
use Rattle.common.specs.declared.Refusal.{Refusal}
use Rattle.grgrid.specs.Lists.{◌∈◌}
use Rattle.bztable.specs.Reading.{Read, got}
use Rattle.bzgrid.specs.Table.{listed}
use Rattle.bzsearch.specs.Search.{numbers_from}
use Rattle.bz_triplets.specs.declared.choices.Step.{Step}
use Rattle.bz_triplets.specs.declared.choices.Step.TheVariants as step
use Rattle.bz_triplets.specs.declared.choices.Triplet.{Triplet}
use Rattle.bz_triplets.specs.Choosing.{nested}
use Rattle.bz_triplets.specs.BzTriplets.{State, Walk, try_at}
use Rattle.bz_triplets.specs.Code.TripletsView.{found_by, summed, state_of, is_closed}

-- ---- one walk
module _ {A S : Type 0} (f : S → A → S) where
  -- a state that no step changes
  pub stays : {s : S} → ((a : A) → f s a ≡ s) → (l : List A) → foldl f s l ≡ s
  stays h [] = refl
  stays h (a ∷ l) = ap (λ t. foldl f t l) (h a) ∙ stays h l

  module _ (g : ℕ → A) where
    numbers_more : (i n : ℕ) (s : S) → foldl f s (numbers_from g i (suc n)) ≡ f (foldl f s (numbers_from g i n)) (g (i + n))
    numbers_more i zero s = ap (λ k. f s (g k)) {x = i} {y = i + 0} (omega arith)
    numbers_more i (suc n) s = numbers_more (suc i) n (f s (g i)) ∙ ap (λ k. f (foldl f s (numbers_from g i (suc n))) (g k)) {x = suc i + n} {y = i + suc n} (omega arith)

    one_more : (s : S) (n : ℕ) → foldl f s (listed g (suc n)) ≡ f (foldl f s (listed g n)) (g n)
    one_more s n = numbers_more 0 n s ∙ ap (λ k. f (foldl f s (listed g n)) (g k)) {x = 0 + n} {y = n} (omega arith)

    -- after the last turn
    pub complete : (s : S) {k n : ℕ} {r : S} → r ≡ foldl f s (listed g k) → k ≤ n → n ≤ k → r ≡ foldl f s (listed g n)
    complete s e h l = e ∙ ap (λ n. foldl f s (listed g n)) (le_antisymm h l)

    -- turn k takes state t to r
    module _ (s : S) (k : ℕ) {r t : S} {a : A} (e : r ≡ f t a) (before : t ≡ foldl f s (listed g k)) (at : a ≡ g k) where
      pub turned : r ≡ foldl f s (listed g (k + 1))
      turned = e ∙ ap₂ f before at ∙ sym (one_more s k) ∙ ap (λ n. foldl f s (listed g n)) (sym (add-one k))

      -- and no step changes r
      pub ended : (n : ℕ) → k < n → ((a : A) → f r a ≡ r) → r ≡ foldl f s (listed g n)
      ended zero h keeps = absurd (not-suc-le-zero h)
      ended (suc n) h keeps =
          ⊎_elim (λ q. turned ∙ ap (λ n. foldl f s (listed g n)) (add-one k ∙ ap suc q))
          (λ l. sym (keeps (g n)) ∙ ap (λ r. f r (g n)) (ended n l keeps) ∙ sym (one_more s n))
          (eq-or-lt_of_le (le_of_suc-le-suc h))

-- ---- the three levels of nested walks
module _ {X S : Type 0} (step : S → Vec X → S) where
  abbrev pub inner : X → X → S → X → S
  inner a b s c = step s (record { x = a; y = b; z = c })

  abbrev pub middle : List X → X → S → X → S
  middle z a s b = foldl (inner a b) s z

  abbrev pub outer : (y z : List X) → S → X → S
  outer y z s a = foldl (middle z a) s y

  -- a state that no choice changes
  module _ {s : S} (keeps : (p : Vec X) → step s p ≡ s) where
    pub inner-stays : (a b c : X) → inner a b s c ≡ s
    inner-stays a b c = keeps (record { x = a; y = b; z = c })

    pub middle-stays : (z : List X) (a b : X) → middle z a s b ≡ s
    middle-stays z a b = stays (inner a b) (inner-stays a b) z

    pub outer-stays : (y z : List X) (a : X) → outer y z s a ≡ s
    outer-stays y z a = stays (middle z a) (middle-stays z a) y

  -- where one of the three lists is empty
  module _ (g h k : ℕ → X) (a b c : ℕ) (s : S) where
    abbrev walked : S
    walked = nested step s (record { x = listed g a; y = listed h b; z = listed k c })

    pub none-first : a ≡ 0 → s ≡ walked
    none-first e = ap (λ a. nested step s (record { x = listed g a; y = listed h b; z = listed k c })) (sym e)

    pub none-second : b ≡ 0 → s ≡ walked
    none-second e = sym (ap (λ b. nested step s (record { x = listed g a; y = listed h b; z = listed k c })) e ∙ stays (outer [] (listed k c)) (λ x. refl) (listed g a))

    pub none-third : c ≡ 0 → s ≡ walked
    none-third e = sym (ap (λ c. nested step s (record { x = listed g a; y = listed h b; z = listed k c })) e ∙ stays (outer (listed h b) []) (λ x. stays (middle [] x) (λ y. refl) (listed h b)) (listed g a))

-- ---- a walk beside another, over what A tells of its steps: R stays where each step keeps it
module _ {S U X Y : Type 0} (R : S → U → Type 0) (A : X → Y) where
  beside : (f : S → X → S) (h : U → Y → U) (l : List X) → ((s : S) (u : U) (x : X) → x ∈ l → R s u → R (f s x) (h u (A x)))
      → (s : S) (u : U) → R s u → R (foldl f s l) (foldl h u (map A l))
  beside f h [] e s u r = r
  beside f h (x ∷ l) e s u r = beside f h l (λ s u y m. e s u y (there m)) (f s x) (h u (A x)) (e s u x (here refl) r)

  pub nested-beside : (f : S → Vec X → S) (h : U → Vec Y → U) (l : Vec (List X))
      → ((s : S) (u : U) (c : Vec X) → c.x ∈ l.x → c.y ∈ l.y → c.z ∈ l.z → R s u → R (f s c) (h u (map_vec A c)))
      → (s : S) (u : U) → R s u → R (nested f s l) (nested h u (map_vec (map A) l))
  nested-beside f h l e =
      beside (outer f l.y l.z) (outer h (map A l.y) (map A l.z)) l.x
      (λ s u a m. beside (middle f l.z a) (middle h (map A l.z) (A a)) l.y
      (λ s u b n. beside (inner f a b) (inner h (A a) (A b)) l.z
      (λ s u c k. e s u (record { x = a; y = b; z = c }) m n k) s u) s u)

-- ---- what was found
module _ (w : Walk) where
  -- a closed triplet stays as it is
  pub closed-stays : (t : Triplet) → is_closed t.step ≡ true → (p : Vec ℕ) → try_at w (got (state_of t)) p ≡ got (state_of t)
  unfolding try_at
  closed-stays t e p = go t.step e
    where
      go : (s : Step) → is_closed s ≡ true → try_at w (got (found_by s (summed t))) p ≡ got (found_by s (summed t))
      go step.Closed e = refl
      go step.Empty e = absurd (true≢false (sym e))
      go (step.Left x) e = absurd (true≢false (sym e))

  -- so does a refusal
  pub refusal-stays : (r : Refusal) (p : Vec ℕ) → try_at w (Err r) p ≡ Err r
  unfolding try_at
  refusal-stays r p = refl

-- ---- the walk has reached s, goes on, and holds t
pub record Reached (s : Read State) (t : Triplet) : Type 0 where
  pub on : is_closed t.step ≡ false
  pub is : got (state_of t) ≡ s

-- at the end of a walk inside turn k of another
module _ (f : Read State → ℕ → Read State) (g : ℕ → ℕ) (s : Read State) where
  pub reached-end : {k n : ℕ} {t : Triplet} → Reached (foldl f s (listed g k)) t → k ≤ n → n ≤ k → Reached (foldl f s (listed g n)) t
  reached-end v h l = record { on = v.on; is = complete f g s v.is h l }

  pub reached-next : (k : ℕ) {r : Read State} {a : ℕ} {t : Triplet} → r ≡ foldl f s (listed g k) → a ≡ g k → Reached (f r a) t → Reached (foldl f s (listed g (k + 1))) t
  reached-next k e at v = record { on = v.on; is = turned f g s k v.is e at }
