-- Laws of a sheet's length, and of the lines of a class within it.
use mathlib.Core.Path.{◌≡◌, refl, sym, ◌∙◌, ap, ap₂, subst}
use mathlib.Core.Bool.{Bool, true, false, ◌&&◌, cond}
use mathlib.Core.List.{List, [], ◌∷◌, ◌++◌, map, map-append, append_assoc, append-nil}
use Prim.Native.Nat.{ℕ, zero, suc, ◌+◌, ◌*◌, ◌/◌, ◌%◌, ◌≤◌, ◌<◌}
use native.Mathlib.Nat.{add-zero}
use native.Mathlib.Omega.{arith}
use lib.Dec.{eqb}
use lib.IntN.{ℤ, pos}
use lib.ListN.{length, take, drop, length-append, length-map}
use lib.Seq.{length-take-le, take_at, drop-append-add, drop-drop}
use borrow.Author.Tests.{eq-eqb, ne_eqb, eqb-true, eqb-false}
use borrow.Rule.Slice.PartMut.{put_mid}
use Rattle.std.proofs.lemmas.List.{take-append-drop}
use Rattle.integer.proofs.Test.{holds}
use Rattle.common.specs.Tested.{Tested, Accepted}
use Rattle.common.specs.declared.Refusal.TheVariants.{OutsideLimits}
use Rattle.common.proofs.Tests.{passed}
use Rattle.class_sheet.specs.Sheet.{line, line_fits, row_widths, page_widths, page_number, page_line, page_fits, place_count}
use Rattle.class_sheet.specs.Code.SheetView.{fitting, PutLine, PutClass}
use Rattle.class_sheet.proofs.Fields.{length-line}

-- ---- where the lines of class r stand
abbrev pub row_place : ℕ → ℕ
row_place r = 46 * (r + r / 40 + 1)

pub next-places : (r : ℕ) → row_place r + 46 ≡ place_count (suc r)
next-places r = omega arith

pub page-place : (r : ℕ) → r % 40 ≡ 0 → place_count r + 46 ≡ row_place r
page-place r e = omega arith

pub no-page-place : (r : ℕ) → (r % 40 ≡ 0 → ⊥) → place_count r ≡ row_place r
no-page-place r h = let f : 0 < r % 40 = positive (r % 40) h in omega arith
  where
    positive : (n : ℕ) → (n ≡ 0 → ⊥) → 0 < n
    positive zero h = absurd (h refl)
    positive (suc n) h = omega arith

-- ---- a test that refuses
pub fits-told : {b : Bool} → fitting b ≡ Accepted → b ≡ true
fits-told {b} e = (passed b OutsideLimits Accepted e).0

-- ---- a part of a slice was written
put-within : (l part : List ℤ) (a k : ℕ) {e : ℕ} → a + k ≡ e → put_mid a k l part ≡ take a l ++ (part ++ drop e l)
put-within l part a k h = ap (λ r. take a l ++ (part ++ r)) (drop-drop k a l ∙ ap (λ n. drop n l) h)

-- ---- the line of a page was put where one begins, and what fits is told
pub record Headed (before : List ℤ) (r : ℕ) (out : List ℤ) : Type 0 where
  pub fits : page_fits r ≡ true
  pub stands : out ≡ (take (place_count r) before ++ map pos (page_line r)) ++ drop (row_place r) before

module _ (l : List ℤ) (r : ℕ) where
  abbrev line_by : Bool → List ℕ
  line_by t = cond t (line page_widths (page_number r)) []

  abbrev fits_by : Bool → Bool
  fits_by t = cond t (line_fits page_widths (page_number r)) true

  abbrev Laid_by : List ℤ → Bool → Type 0
  Laid_by out t = out ≡ (take (place_count r) l ++ map pos (line_by t)) ++ drop (row_place r) l

  pub no-heading : (r % 40 ≡ 0 → ⊥) → Headed l r l
  no-heading n =
      let e = ne_eqb (r % 40) 0 n in
      record {
        fits = ap fits_by e;
        stands = subst (Laid_by l) (sym e) (sym (take-append-drop (place_count r) l) ∙ ap₂ (λ a n. a ++ drop n l) (sym (append-nil (take (place_count r) l))) (no-page-place r n));
      }

  module _ (e : r % 40 ≡ 0) {y : ℤ} (n : y ≡ pos (r / 40 + 1)) {told : Tested} {part : List ℤ} (d : PutLine page_widths (y ∷ []) told part) where
    numbered : PutLine page_widths (page_number r) told part
    numbered = subst (λ y. PutLine page_widths (y ∷ []) told part) n d

    pub heading-put : told ≡ Accepted → (a k : ℕ) → a ≡ place_count r → a + k ≡ row_place r → Headed l r (put_mid a k l part)
    heading-put f a k g h =
        let t = eq-eqb (r % 40) 0 e in
        let d = numbered in
        record {
          fits = ap fits_by t ∙ fits-told (sym d.told-is ∙ f);
          stands = subst (Laid_by (put_mid a k l part)) (sym t)
              (put-within l part a k h ∙ ap₂ (λ a p. take a l ++ (p ++ drop (row_place r) l)) g (d.stands f) ∙ sym (append_assoc (take (place_count r) l) (map pos (line page_widths (page_number r))) (drop (row_place r) l)));
        }

-- ---- and then the line of the class
module _ (l nums : List ℤ) (r : ℕ) (room : place_count (suc r) ≤ length l) {m : List ℤ} (d : Headed l r m) where
  abbrev head : List ℤ
  head = take (place_count r) l ++ map pos (page_line r)

  head-size : length head ≡ row_place r
  head-size = length-append (take (place_count r) l) (map pos (page_line r)) ∙ ap₂ ◌+◌ (length-take-le (place_count r) l (omega (arith, next-places r))) (length-map (page_line r) pos) ∙ begins (eqb (r % 40) 0) refl d.fits
    where
      begins : (b : Bool) → eqb (r % 40) 0 ≡ b → cond b (line_fits page_widths (page_number r)) true ≡ true → place_count r + length (cond b (line page_widths (page_number r)) []) ≡ row_place r
      begins true e t = omega (arith, length-line page_widths (page_number r) refl (holds t), page-place r (eqb-true (r % 40) 0 e))
      begins false e t = add-zero (place_count r) ∙ no-page-place r (eqb-false (r % 40) 0 e)

  pub class-put : {told : Tested} {part : List ℤ} → PutLine row_widths nums told part → (k : ℕ) → k ≡ 46 → PutClass l nums r told (put_mid (row_place r) k m part)
  class-put {told} {part} p k f = record {
    told-is = p.told-is ∙ ap (λ t. fitting (t && line_fits row_widths nums)) (sym d.fits);
    stands = λ a.
        put-within m part (row_place r) k (ap (λ k. row_place r + k) f) ∙ ap₂ (λ a b. a ++ (part ++ b)) (ap (take (row_place r)) d.stands ∙ take_at head (drop (row_place r) l) (row_place r) head-size) after
        ∙ ap (λ x. head ++ (x ++ drop (place_count (suc r)) l)) (p.stands a)
        ∙ append_assoc (take (place_count r) l) (map pos (page_line r)) (map pos (line row_widths nums) ++ drop (place_count (suc r)) l)
        ∙ ap (λ x. take (place_count r) l ++ x) (sym (append_assoc (map pos (page_line r)) (map pos (line row_widths nums)) (drop (place_count (suc r)) l)) ∙ ap (λ x. x ++ drop (place_count (suc r)) l) (sym (map-append pos (page_line r) (line row_widths nums))));
  }
    where
      after : drop (row_place r + 46) m ≡ drop (place_count (suc r)) l
      after =
          ap (drop (row_place r + 46)) d.stands ∙ ap (λ n. drop n (head ++ drop (row_place r) l)) (ap (λ n. n + 46) (sym head-size))
          ∙ drop-append-add head (drop (row_place r) l) 46 ∙ drop-drop 46 (row_place r) l ∙ ap (λ n. drop n l) (next-places r)
