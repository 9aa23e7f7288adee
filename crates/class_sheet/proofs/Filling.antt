-- The walk over the classes: the lines of those that it has passed stand in the front of the sheet, the weights of the others at its end.
use mathlib.Core.Path.{◌≡◌, refl, sym, ◌∙◌, ap, ap₂, subst}
use mathlib.Core.Logic.{⊎_elim}
use mathlib.Core.Bool.{Bool, true, false, ◌&&◌, cond}
use mathlib.Core.List.{List, [], ◌∷◌, ◌++◌, map, map-append, append_assoc, append-nil}
use Prim.Native.Nat.{ℕ, zero, suc, ◌+◌, ◌*◌, ◌-◌, ◌≤◌, ◌<◌}
use native.Mathlib.Nat.{eq-or-lt_of_le}
use native.Mathlib.Numerals.{add-one}
use native.Mathlib.Omega.{arith}
use lib.IntN.{ℤ, pos}
use lib.ListN.{length, get_or, take, drop, length-map, drop_of_length-le, get_or-append}
use lib.Seq.{take_at, drop-append-add, drop-drop, get_or-append-add, get_or-drop, get_or_at}
use Rattle.integer.proofs.Test.{holds}
use Rattle.std.specs.Prelude.{Err}
use Rattle.common.specs.Array.{row_at}
use Rattle.common.specs.Tested.{Tested, Accepted}
use Rattle.common.specs.declared.Refusal.{Refusal}
use Rattle.common.proofs.Tests.{not-accepted}
use Rattle.grgrid.specs.Own.{is_place, own_places, own_points}
use Rattle.grgrid.proofs.Numbers.{own-more, own_same}
use Rattle.grgrid.proofs.Own.{length-own, own-rises, points_more}
use Rattle.class_sheet.specs.Sheet.{line, line_fits, row_widths, page_line, page_fits, lined, text, text_fits, place_count}
use Rattle.class_sheet.specs.ClassSheet.{weight, class_numbers, class_count, row}
use Rattle.class_sheet.specs.Code.SheetView.{fitting, PutClass, Ready, PutSheet}
use Rattle.class_sheet.proofs.Placing.{fits-told}
use Rattle.class_sheet.proofs.ReadBack.{row-five, text-length}

-- ---- the class number of the next class
module _ (classes : List ℤ) where
  early : (n m i : ℕ) → n ≤ m → i < own_places classes n → get_or (own_points classes m) i 0 ≡ get_or (own_points classes n) i 0
  early n zero i h l = let e : n ≡ 0 = omega arith in ap (λ n. get_or (own_points classes n) i 0) (sym e)
  early n (suc m) i h l =
      ⊎_elim (λ e. ap (λ n. get_or (own_points classes n) i 0) (sym e))
      (λ k. get_or-append (own_points classes m) (cond (is_place (get_or classes m (pos 0)) m) (m ∷ []) []) 0 i (omega (arith, length-own classes m, own-rises classes n m (omega arith))) ∙ early n m i (omega arith) l)
      (eq-or-lt_of_le h)

  module _ (q : ℕ) (h : q < length classes) (e : is_place (get_or classes q (pos 0)) q ≡ true) where
    pub class-below : own_places classes q < class_count classes
    class-below = omega (arith, own-rises classes (q + 1) (length classes) (omega arith), own-more classes q e)

    pub class_is : get_or (class_numbers classes) (own_places classes q) 0 ≡ q
    class_is =
        early (q + 1) (length classes) (own_places classes q) (omega arith) (omega (arith, own-more classes q e))
        ∙ ap (λ l. get_or l (own_places classes q) 0) (points_more classes q e) ∙ get_or_at (own_points classes q) q [] 0 (own_places classes q) (length-own classes q)

-- ---- a row that does not fit, and all does not fit
fits-never : (row : ℕ → List ℤ) (r k : ℕ) → r < k → (page_fits r && line_fits row_widths (row r)) ≡ false → text_fits row k ≡ false
fits-never row r zero h e = absurd (omega arith)
fits-never row r (suc k) h e =
    ⊎_elim (λ f. subst (λ (n : ℕ). text_fits row (suc n) ≡ false) f (last (text_fits row r))) (λ l. ap (λ t. t && (page_fits k && line_fits row_widths (row k))) (fits-never row r k (omega arith) e)) (eq-or-lt_of_le low)
  where
    low : r ≤ k
    low = omega arith

    last : (t : Bool) → (t && (page_fits r && line_fits row_widths (row r))) ≡ false
    last true = e
    last false = refl

-- ---- the lines of the classes among the first q points, r of them, stand in front of what was there
pub record Filling (classes triplets start : List ℤ) (q r : ℕ) (sheet : List ℤ) : Type 0 where
  pub count : r ≡ own_places classes q
  pub fits : text_fits (row classes triplets) r ≡ true
  pub size : length sheet ≡ length start
  pub stands : sheet ≡ map pos (text (row classes triplets) r) ++ drop (place_count r) start

pub filling-none : (classes triplets start : List ℤ) → Filling classes triplets start 0 0 start
filling-none classes triplets start = record { count = refl; fits = refl; size = refl; stands = refl }

pub filling-as : {classes triplets start : List ℤ} {q r r' : ℕ} {sheet sheet' : List ℤ} → r' ≡ r → sheet' ≡ sheet → Filling classes triplets start q r sheet → Filling classes triplets start q r' sheet'
filling-as e f d = rw (e, f) d

module _ {classes triplets start : List ℤ} (ready : Ready classes triplets start) {q r : ℕ} {sheet : List ℤ} (d : Filling classes triplets start q r sheet) where
  abbrev at : ℕ → List ℤ
  at = row classes triplets

  abbrev front : List ℤ
  front = map pos (text at r)

  front-size : length front ≡ place_count r
  front-size = length-map (text at r) pos ∙ text-length at (row-five classes triplets) r (holds d.fits)

  pub filling-on : is_place (get_or classes q (pos 0)) q ≡ false → Filling classes triplets start (q + 1) r sheet
  filling-on e = record { count = d.count ∙ own_same classes q e; fits = d.fits; size = d.size; stands = d.stands }

  module _ (h : q < length classes) (e : is_place (get_or classes q (pos 0)) q ≡ true) where
    pub next-below : r < class_count classes
    next-below = omega (arith, class-below classes q h e, d.count)

    pub next-room : place_count (suc r) ≤ length sheet
    next-room = omega (arith, next-below, d.size, ready.size)

    -- class r is that of q
    number-is : get_or (class_numbers classes) r 0 ≡ q
    number-is = ap (λ r. get_or (class_numbers classes) r 0) d.count ∙ class_is classes q h e

    -- the weight still stands where it stood
    pub next-weight : get_or sheet (length start - class_count classes + r) (pos 0) ≡ pos (weight classes q)
    next-weight =
        let n = length start - class_count classes in
        let far : place_count r + (n + r - place_count r) ≡ n + r = omega (arith, next-below, ready.size) in
        ap (λ l. get_or l (n + r) (pos 0)) d.stands
        ∙ ap (λ n. get_or (front ++ drop (place_count r) start) n (pos 0)) (sym far ∙ ap (λ m. m + (n + r - place_count r)) (sym front-size))
        ∙ get_or-append-add front (drop (place_count r) start) (n + r - place_count r) (pos 0) ∙ get_or-drop (place_count r) start (n + r - place_count r) (pos 0)
        ∙ ap (λ m. get_or start m (pos 0)) far ∙ sym (get_or-drop n start r (pos 0))
        ∙ ap (λ l. get_or l r (pos 0)) ready.weights ∙ weight-of (class_numbers classes) (omega (arith, next-below, length-own classes (length classes))) ∙ ap (λ p. pos (weight classes p)) number-is
      where
        weight-of : (l : List ℕ) → r < length l → get_or (map (λ p. pos (weight classes p)) l) r (pos 0) ≡ pos (weight classes (get_or l r 0))
        weight-of l b = at-place l r b
          where
            at-place : (l : List ℕ) (i : ℕ) → i < length l → get_or (map (λ p. pos (weight classes p)) l) i (pos 0) ≡ pos (weight classes (get_or l i 0))
            at-place [] i b = absurd (omega arith)
            at-place (p ∷ l) zero b = refl
            at-place (p ∷ l) (suc i) b = at-place l i (omega arith)

    pub next-row : {p w x y z : ℤ} → p ≡ pos q → w ≡ pos (weight classes q) → x ≡ get_or triplets (3 * r) (pos 0) → y ≡ get_or triplets (3 * r + 1) (pos 0) → z ≡ get_or triplets (3 * r + 2) (pos 0)
        → p ∷ w ∷ x ∷ y ∷ z ∷ [] ≡ at r
    unfolding row
    next-row ep ew ex ey ez = (λ i. ep i ∷ ew i ∷ ex i ∷ ey i ∷ ez i ∷ []) ∙ ap (λ n. pos n ∷ pos (weight classes n) ∷ row_at triplets (3 * r)) (sym number-is)

    pub filling-refused : {l out : List ℤ} → l ≡ at r → {told : Tested} {x : Refusal} → told ≡ Err x → PutClass sheet l r told out → PutSheet classes triplets told out
    filling-refused {l} f {told} {x = x} n p = record {
      told-is = p.told-is ∙ ap fitting (lost (page_fits r && line_fits row_widths l) (sym p.told-is ∙ n) (λ e. fits-never at r (class_count classes) next-below (ap (λ l. page_fits r && line_fits row_widths l) (sym f) ∙ e)));
      stands = λ a. absurd (not-accepted (sym n ∙ a));
    }
      where
        lost : (b : Bool) → fitting b ≡ Err x → (b ≡ false → text_fits at (class_count classes) ≡ false) → b ≡ text_fits at (class_count classes)
        lost true e g = absurd (not-accepted (sym e))
        lost false e g = sym (g refl)

    pub filling-more : {l out : List ℤ} → l ≡ at r → {told : Tested} → told ≡ Accepted → length out ≡ length sheet → PutClass sheet l r told out → Filling classes triplets start (q + 1) (r + 1) out
    unfolding lined
    filling-more {l} {out} f n s p = record {
      count = ap (λ n. n + 1) d.count ∙ own-more classes q e;
      fits = ap (text_fits at) (add-one r) ∙ ap₂ ◌&&◌ d.fits (ap (λ l. page_fits r && line_fits row_widths l) (sym f) ∙ fits-told (sym p.told-is ∙ n));
      size = s ∙ d.size;
      stands = p.stands n
          ∙ ap₂ (λ a b. a ++ (map pos (page_line r ++ line row_widths l) ++ b)) (ap (take (place_count r)) d.stands ∙ take_at front (drop (place_count r) start) (place_count r) front-size) after
          ∙ ap (λ l. front ++ (map pos (page_line r ++ line row_widths l) ++ drop (place_count (suc r)) start)) f
          ∙ sym (append_assoc front (map pos (page_line r ++ line row_widths (at r))) (drop (place_count (suc r)) start))
          ∙ ap (λ x. x ++ drop (place_count (suc r)) start) (sym (map-append pos (text at r) (page_line r ++ line row_widths (at r))))
          ∙ ap (λ n. map pos (text at n) ++ drop (place_count n) start) (sym (add-one r));
    }
      where
        after : drop (place_count (suc r)) sheet ≡ drop (place_count (suc r)) start
        after =
            let m = place_count (suc r) - place_count r in
            let far : place_count r + m ≡ place_count (suc r) = omega arith in
            ap₂ drop (sym far ∙ ap (λ n. n + m) (sym front-size)) d.stands ∙ drop-append-add front (drop (place_count r) start) m ∙ drop-drop m (place_count r) start ∙ ap (λ n. drop n start) far

  pub filling-end : q ≡ length classes → PutSheet classes triplets Accepted sheet
  filling-end e =
      let f : r ≡ class_count classes = d.count ∙ ap (own_places classes) e in
      record {
        told-is = ap fitting (sym (ap (text_fits at) (sym f) ∙ d.fits));
        stands = λ _. d.stands ∙ ap (λ x. front ++ x) (ap (λ n. drop (place_count n) start) f ∙ drop_of_length-le start {i = place_count (class_count classes)} (omega (arith, ready.size))) ∙ append-nil front ∙ ap (λ n. map pos (text at n)) f;
      }
