-- The walk over a class map that lists its numbers; what a search among rising numbers finds; and the weights, counted point by point.
use mathlib.Core.Path.{◌≡◌, refl, sym, ◌∙◌, ap, ap₂, subst}
use mathlib.Core.Logic.{⊎_elim}
use mathlib.Core.Bool.{Bool, true, false}
use mathlib.Core.List.{List, [], ◌∷◌, ◌++◌, map, map-append}
use Prim.Native.Nat.{ℕ, zero, suc, ◌+◌, ◌≤◌, ◌<◌}
use native.Mathlib.Nat.{le_of_suc-le-suc, not-suc-le-zero}
use native.Mathlib.Numerals.{add-one}
use native.Mathlib.Omega.{arith}
use lib.IntN.{ℤ, pos, negsuc, ◌+ℤ◌}
use lib.ListN.{length, get_or, set, take, replicate, length-map, length-set, get_or-map}
use lib.Seq.{take-suc-set}
use borrow.Author.Tests.{ne_eqb}
use Rattle.std.specs.Prelude.{Result, Ok, Err}
use Rattle.std.specs.Ordering.{int_cmp, ordering_index}
use Rattle.std.proofs.Common.{Equal}
use Rattle.std.specs.Result.{MatchResult}
use Rattle.std.specs.List.Sorted.{IsBinarySearchResult}
use Rattle.std.proofs.lemmas.Cmp.{int_ranked, int_cmp_total, tied_itself}
use Rattle.std.proofs.lemmas.Bool.{cases_lt}
use Rattle.std.proofs.lemmas.Int.{ints}
use Rattle.std.proofs.lemmas.List.Sorted.{IsNonDecreasingBy-from_default}
use Rattle.grgrid.specs.Own.{is_place, own_places, own_points}
use Rattle.grgrid.specs.Picked.{Rising}
use Rattle.grgrid.proofs.Lists.{item_in}
use Rattle.grgrid.proofs.Picked.{mark, picked-length, picked-few}
use Rattle.grgrid.proofs.Own.{own-rises, own-rising, points_more, points_same}
use Rattle.grgrid.proofs.Numbers.{own-more, own_same, entry_place}
use Rattle.class_sheet.specs.ClassSheet.{bearing, class_numbers, class_count}

-- ---- the numbers, listed: those of the first p points stand in the first k places
pub record Listed (classes : List ℤ) (p k : ℕ) (out : List ℤ) : Type 0 where
  pub count : k ≡ own_places classes p
  pub stands : take k out ≡ map pos (own_points classes p)
  pub room : length out ≡ class_count classes

pub listed-as : {classes : List ℤ} {p k k' : ℕ} {out out' : List ℤ} → k' ≡ k → out' ≡ out → Listed classes p k out → Listed classes p k' out'
listed-as e f d = rw (e, f) d

module _ {classes : List ℤ} {p k : ℕ} {out : List ℤ} (d : Listed classes p k out) where
  pub listed_on : is_place (get_or classes p (pos 0)) p ≡ false → Listed classes (p + 1) k out
  listed_on e = record { count = d.count ∙ own_same classes p e; stands = d.stands ∙ ap (map pos) (sym (points_same classes p e)); room = d.room }

  module _ (h : p < length classes) (e : get_or classes p (pos 0) ≡ pos p) where
    own : is_place (get_or classes p (pos 0)) p ≡ true
    own = entry_place (get_or classes p (pos 0)) p e

    pub listed-room : k < length out
    listed-room = let r = own-rises classes (p + 1) (length classes) (omega arith) in omega (arith, r, d.count, d.room, own-more classes p own)

    pub listed_more : {z : ℤ} → z ≡ pos p → Listed classes (p + 1) (k + 1) (set out k z)
    listed_more {z} f = record {
      count = ap (λ n. n + 1) d.count ∙ own-more classes p own;
      stands = ap (λ n. take n (set out k z)) (add-one k) ∙ take-suc-set out k z listed-room ∙ ap₂ (λ a b. a ++ (b ∷ [])) d.stands f
          ∙ sym (ap (map pos) (points_more classes p own) ∙ map-append pos (own_points classes p) (p ∷ []));
      room = length-set out k z ∙ d.room;
    }

-- ---- rising numbers
rises : (l : List ℕ) → Rising l → (i j : ℕ) → i ≤ j → j < length l → get_or l i 0 ≤ get_or l j 0
rises [] r i j h k = absurd (not-suc-le-zero k)
rises (x ∷ l) r zero zero h k = omega arith
rises (x ∷ l) r zero (suc j) h k = let below = r.0 (get_or l j 0) (item_in 0 l j (le_of_suc-le-suc k)) in omega arith
rises (x ∷ l) r (suc i) zero h k = absurd (not-suc-le-zero h)
rises (x ∷ l) r (suc i) (suc j) h k = rises l r.1 i j (le_of_suc-le-suc h) (le_of_suc-le-suc k)

-- z is at none of the places of a list
abbrev Missing : ℤ → List ℕ → Type 0
Missing z l = (i : ℕ) → i < length l → z ≡ pos (get_or l i 0) → ⊥

-- what a search for z among rising numbers finds: its place, or that it has none
searched : (l : List ℕ) → Rising l → (z : ℤ) (r : Result ℕ ℕ) → IsBinarySearchResult (λ y. int_cmp y z) (map pos l) r → MatchResult r (λ i. z ≡ pos (get_or l i 0)) (λ i. Missing z l)
searched l up z (Ok i) h = let same : int_cmp (pos (get_or l i 0)) z ≡ Equal = ap (λ y. int_cmp y z) (sym (get_or-map pos l i 0)) ∙ h (pos 0) in sym (int_ranked (pos (get_or l i 0)) z Equal (sym same))
searched l up z (Err m) h = λ i k e.
    let parted = h (IsNonDecreasingBy-from_default rank (map pos l) (pos 0) rising) in
    let same : int_cmp (get_or (map pos l) i (pos 0)) z ≡ Equal = ap (λ y. int_cmp y z) (get_or-map pos l i 0 ∙ sym e) ∙ tied_itself int_cmp_total z in
    ⊎_elim (λ b. let below = parted.0 i (pos 0) (omega arith) b in cc) (λ b. let above = parted.1 i (pos 0) b (rw (length-map l pos) k) in cc) (cases_lt i m)
  where
    rank : ℤ → ℕ
    rank y = ordering_index (int_cmp y z)

    higher : (a b : ℕ) → a ≤ b → rank (pos a) ≤ rank (pos b)
    higher a b h = grind (arith, ints)

    rising : (i j : ℕ) → i ≤ j → j < length (map pos l) → rank (get_or (map pos l) i (pos 0)) ≤ rank (get_or (map pos l) j (pos 0))
    rising i j h k = rw (get_or-map pos l i 0, get_or-map pos l j 0) (higher (get_or l i 0) (get_or l j 0) (rises l up i j h (rw (length-map l pos) at k)))

-- ---- how many of the first n points bear each of the numbers
abbrev pub counts : List ℤ → ℕ → List ℕ → List ℤ
counts classes n l = map (λ p. pos (bearing classes p n)) l

counts_none : (classes : List ℤ) (l : List ℕ) → counts classes 0 l ≡ replicate (length l) (pos 0)
counts_none classes [] = refl
counts_none classes (p ∷ l) = ap (λ m. pos 0 ∷ m) (counts_none classes l)

counts-at : (classes : List ℤ) (n : ℕ) (l : List ℕ) (r : ℕ) → r < length l → get_or (counts classes n l) r (pos 0) ≡ pos (bearing classes (get_or l r 0) n)
counts-at classes n [] r h = absurd (not-suc-le-zero h)
counts-at classes n (p ∷ l) zero h = refl
counts-at classes n (p ∷ l) (suc r) h = counts-at classes n l r (le_of_suc-le-suc h)

module _ (classes : List ℤ) (n : ℕ) where
  abbrev number : ℤ
  number = get_or classes n (pos 0)

  next : (p : ℕ) (b : Bool) → is_place number p ≡ b → bearing classes p (n + 1) ≡ bearing classes p n + mark b
  next p b e = ap (bearing classes p) (add-one n) ∙ picked-length (λ q. is_place (get_or classes q (pos 0)) p) n ∙ ap (λ b. bearing classes p n + mark b) e

  bears : (p : ℕ) → number ≡ pos p → bearing classes p (n + 1) ≡ bearing classes p n + 1
  bears p e = next p true (entry_place number p e)

  bears_not : (p : ℕ) → (number ≡ pos p → ⊥) → bearing classes p (n + 1) ≡ bearing classes p n
  bears_not p h = let e = next p false (other number h) in omega arith
    where
      other : (z : ℤ) → (z ≡ pos p → ⊥) → is_place z p ≡ false
      other (pos m) h = ne_eqb m p (λ e. h (ap pos e))
      other (negsuc m) h = refl

  counts_on : (l : List ℕ) → Missing number l → counts classes (n + 1) l ≡ counts classes n l
  counts_on [] h = refl
  counts_on (p ∷ l) h = ap₂ (λ a m. pos a ∷ m) (bears_not p (h 0 (omega arith))) (counts_on l (λ i k. h (suc i) (omega arith)))

  -- one more at place r
  counts_more : (l : List ℕ) → Rising l → (r : ℕ) → r < length l → number ≡ pos (get_or l r 0) → set (counts classes n l) r (pos (bearing classes (get_or l r 0) n + 1)) ≡ counts classes (n + 1) l
  counts_more [] up r h e = absurd (not-suc-le-zero h)
  counts_more (p ∷ l) up zero h e = ap₂ (λ a m. pos a ∷ m) (sym (bears p e)) (sym (counts_on l (λ i k f. let a = up.0 (get_or l i 0) (item_in 0 l i k) in omega (arith, ints))))
  counts_more (p ∷ l) up (suc r) h e =
      ap₂ (λ a m. pos a ∷ m) (sym (bears_not p (λ f. let a = up.0 (get_or l r 0) (item_in 0 l r (le_of_suc-le-suc h)) in omega (arith, ints)))) (counts_more l up.1 r (le_of_suc-le-suc h) e)

-- ---- the weights so far, of numbers in a slice
pub record Counted (classes numbers : List ℤ) (n : ℕ) (weights : List ℤ) : Type 0 where
  pub listed : numbers ≡ map pos (class_numbers classes)
  pub stands : weights ≡ counts classes n (class_numbers classes)

pub counted_none : {classes numbers weights : List ℤ} → numbers ≡ map pos (class_numbers classes) → weights ≡ replicate (length numbers) (pos 0) → Counted classes numbers 0 weights
counted_none {classes} e f = let l = class_numbers classes in record { listed = e; stands = f ∙ ap (λ n. replicate n (pos 0)) (ap length e ∙ length-map l pos) ∙ sym (counts_none classes l) }

pub counted-as : {classes numbers weights weights' : List ℤ} {n : ℕ} → weights' ≡ weights → Counted classes numbers n weights → Counted classes numbers n weights'
counted-as e d = rw e d

module _ {classes numbers weights : List ℤ} {n : ℕ} (d : Counted classes numbers n weights) where
  found : (r : Result ℕ ℕ) → IsBinarySearchResult (λ y. int_cmp y (get_or classes n (pos 0))) numbers r
      → MatchResult r (λ i. get_or classes n (pos 0) ≡ pos (get_or (class_numbers classes) i 0)) (λ i. Missing (get_or classes n (pos 0)) (class_numbers classes))
  found r h = searched (class_numbers classes) (own-rising classes (length classes)) (get_or classes n (pos 0)) r (subst (λ l. IsBinarySearchResult (λ y. int_cmp y (get_or classes n (pos 0))) l r) d.listed h)

  -- a point of no class
  pub counted_on : (m : ℕ) → IsBinarySearchResult (λ y. int_cmp y (get_or classes n (pos 0))) numbers (Err m) → Counted classes numbers (n + 1) weights
  counted_on m h = record { listed = d.listed; stands = d.stands ∙ sym (counts_on classes n (class_numbers classes) (found (Err m) h)) }

  module _ (r : ℕ) (h : r < length numbers) where
    inside : r < length (class_numbers classes)
    inside = omega (arith, ap length d.listed, length-map (class_numbers classes) pos)

    before : get_or weights r (pos 0) ≡ pos (bearing classes (get_or (class_numbers classes) r 0) n)
    before = ap (λ w. get_or w r (pos 0)) d.stands ∙ counts-at classes n (class_numbers classes) r inside

    pub weight-few : (b : ℕ) × (b ≤ n) × (get_or weights r (pos 0) ≡ pos b)
    weight-few = let p = get_or (class_numbers classes) r 0 in (bearing classes p n, picked-few (λ q. is_place (get_or classes q (pos 0)) p) n, before)

    -- a point of the class whose number stands at r
    pub counted_more : IsBinarySearchResult (λ y. int_cmp y (get_or classes n (pos 0))) numbers (Ok r) → {y : ℤ} → y ≡ get_or weights r (pos 0) +ℤ pos 1 → Counted classes numbers (n + 1) (set weights r y)
    counted_more f e = record {
      listed = d.listed;
      stands = ap₂ (λ w y. set w r y) d.stands (e ∙ ap (λ z. z +ℤ pos 1) before) ∙ counts_more classes n (class_numbers classes) (own-rising classes (length classes)) r inside (found (Ok r) f);
    }
