-- Tests of the items of a list that is listed by its places, and of what is read at each.
use mathlib.Core.Path.{◌≡◌, refl, sym, ◌∙◌, ap}
use mathlib.Core.Bool.{Bool, true, false, not, ◌&&◌}
use mathlib.Core.List.{List, [], ◌∷◌, ◌++◌, map}
use mathlib.Core.List.Memᴰ.{head as here}
use mathlib.Core.List.Memᴰ.{tail as there}
use Prim.Native.Nat.{ℕ, zero, suc}
use lib.Dec.{T}
use lib.IntN.{ℤ}
use Rattle.std.proofs.lemmas.List.Recursion.{and_push}
use Rattle.std.specs.Prelude.{Ok, Err}
use Rattle.common.specs.Every.{every}
use Rattle.common.specs.Matrix.{Vec, same_vector}
use Rattle.common.specs.Tested.{◌then◌}
use Rattle.common.proofs.Tests.{same-ok}
use Rattle.grgrid.specs.Lists.{◌∈◌}
use Rattle.bzgrid.specs.Table.{listed}
use Rattle.bzgrid.proofs.Accepted.{passes-first}
use Rattle.bzgrid.proofs.Mapped.{listed_more}
use Rattle.bztable.specs.Reading.{Read, got, read_each}
use Rattle.bzconvert.specs.Layout.{all_below, no_repeats}
use Rattle.bzconvert.specs.Code.ByPlaces.{if_read, pairwise}

-- ---- a test of each of g 0, .., g (n - 1)
regrouped : (a b c e : Bool) → (a && b) && (c && e) ≡ (a && c) && (b && e)
regrouped true true c e = refl
regrouped true false true e = refl
regrouped true false false e = refl
regrouped false b c e = refl

module _ {A : Type 0} where
  every-more : (f : A → Bool) (l : List A) (a : A) → every f (l ++ (a ∷ [])) ≡ every f l && f a
  every-more f = and_push (every f) f refl (λ a l. refl)

  pub every-listed : (f : A → Bool) (g : ℕ → A) (n : ℕ) → all_below (λ k. f (g k)) n ≡ every f (listed g n)
  every-listed f g zero = refl
  every-listed f g (suc n) = ap (λ t. t && f (g n)) (every-listed f g n) ∙ sym (every-more f (listed g n) (g n)) ∙ ap (every f) (listed_more g n)

  pairwise-more : (f : A → A → Bool) (l : List A) (a : A) → pairwise f (l ++ (a ∷ [])) ≡ pairwise f l && every (λ b. f b a) l
  pairwise-more f [] a = refl
  pairwise-more f (b ∷ l) a =
      (λ i. every-more (f b) l a i && pairwise-more f l a i) ∙ regrouped (every (f b) l) (f b a) (pairwise f l) (every (λ b. f b a) l)

  pub pairwise-listed : (f : A → A → Bool) (g : ℕ → A) (n : ℕ) → all_below (λ k. all_below (λ j. f (g j) (g k)) k) n ≡ pairwise f (listed g n)
  pairwise-listed f g zero = refl
  pairwise-listed f g (suc n) =
      (λ i. pairwise-listed f g n i && every-listed (λ b. f b (g n)) g n i) ∙ sym (pairwise-more f (listed g n) (g n)) ∙ ap (pairwise f) (listed_more g n)

-- ---- what a test of a read says
pub passes-read : {A : Type 0} (f : A → Bool) (x : Read A) → T (if_read f x) → (a : A) × (x ≡ got a) × T (f a)
passes-read f (Ok a) t = (a, refl, t)
passes-read f (Err r) t = absurd t

module _ {A B : Type 0} (h : A → Read B) where
  pub every-read : (f : B → Bool) (l : List A) {r : List B} → read_each h l ≡ got r → every (λ a. if_read f (h a)) l ≡ every f r
  every-read f [] e = ap (every f) (same-ok e)
  every-read f (a ∷ l) e =
      let s = passes-first (h a) _ e in
      let u = passes-first (read_each h l) _ s.2 in
      (λ i. if_read f (s.1 i) && every-read f l u.1 i) ∙ ap (every f) (same-ok u.2)

  pub pairwise-read : (f : B → B → Bool) (l : List A) {r : List B} → read_each h l ≡ got r
      → pairwise (λ i j. if_read (λ a. if_read (f a) (h j)) (h i)) l ≡ pairwise f r
  pairwise-read f [] e = ap (pairwise f) (same-ok e)
  pairwise-read f (a ∷ l) e =
      let s = passes-first (h a) _ e in
      let u = passes-first (read_each h l) _ s.2 in
      (λ i. every (λ j. if_read (λ a. if_read (f a) (h j)) (s.1 i)) l && pairwise-read f l u.1 i)
      ∙ ap (λ t. t && pairwise f u.0) (every-read (f s.0) l u.1)
      ∙ ap (pairwise f) (same-ok u.2)

  pub all-read : (l : List A) → ((a : A) → a ∈ l → (b : B) × (h a ≡ got b)) → (r : List B) × (read_each h l ≡ got r)
  all-read [] k = ([], refl)
  all-read (a ∷ l) k =
      let s = k a (here refl) in
      let u = all-read l (λ a m. k a (there m)) in
      (s.0 ∷ u.0, λ i. s.1 i then λ b. u.1 i then λ r. got (b ∷ r))

  -- one for each
  pub each-is : (f : A → B) → ((a : A) (b : B) → h a ≡ got b → f a ≡ b) → (l : List A) {r : List B} → read_each h l ≡ got r → map f l ≡ r
  each-is f k [] e = same-ok e
  each-is f k (a ∷ l) e =
      let s = passes-first (h a) _ e in
      let u = passes-first (read_each h l) _ s.2 in
      (λ i. k a s.0 s.1 i ∷ each-is f k l u.1 i) ∙ same-ok u.2

pub repeats : (l : List (Vec ℤ)) → pairwise (λ a b. not (same_vector a b)) l ≡ no_repeats l
repeats [] = refl
repeats (a ∷ l) = ap (λ t. every (λ b. not (same_vector a b)) l && t) (repeats l)
