-- The call, once its tests are known; and the sheet after its weights were counted.
use mathlib.Core.Path.{◌≡◌, refl, sym, ◌∙◌, ap, ap₂}
use mathlib.Core.Bool.{Bool, true, false, ◌&&◌}
use mathlib.Core.List.{List, ◌++◌, map, append_assoc, append-nil}
use Prim.Native.Nat.{ℕ, ◌+◌, ◌*◌, ◌-◌, ◌≤◌}
use native.Mathlib.Omega.{arith}
use lib.Dec.{eqb}
use lib.IntN.{ℤ, pos, negsuc}
use lib.ListN.{length, take, drop, replicate, length-append, length-map}
use lib.Seq.{length-take-le, drop_at, drop-drop}
use borrow.Rule.Slice.PartMut.{put_mid}
use Rattle.std.proofs.lemmas.List.{drop_all}
use Rattle.std.specs.Prelude.{Ok, Err, is_err}
use Rattle.common.specs.Tested.{require, output_of, Tested, Accepted}
use Rattle.common.specs.declared.Refusal.TheVariants.{WrongLength}
use Rattle.common.proofs.Tests.{not-accepted}
use Rattle.grgrid.proofs.Own.{length-own}
use Rattle.class_sheet.specs.Sheet.{text, text_fits, place_count}
use Rattle.class_sheet.specs.ClassSheet.{weight, class_numbers, class_count, row, sheet_tests, outcome_of, class_sheet}
use Rattle.class_sheet.specs.Code.SheetView.{fitting, weights_of, weighed, Ready, PutSheet, Laid}

module _ (classes triplets : List ℤ) (n : ℕ) where
  abbrev k : ℕ
  k = class_count classes

  abbrev tests : Bool → Tested
  tests lengths = require lengths WrongLength (fitting (text_fits (row classes triplets) k))

  pub wrong-length : eqb (length triplets) (k * 3) && eqb n (place_count k) ≡ false → (l : List ℤ) → Laid classes triplets n (Err WrongLength) l
  unfolding sheet_tests
  wrong-length e l = record { told-is = sym (ap tests e); stands = λ a. absurd (not-accepted a) }

  pub lengths-known : eqb (length triplets) (k * 3) ≡ true → eqb n (place_count k) ≡ true → {told : Tested} {l : List ℤ} → PutSheet classes triplets told l → Laid classes triplets n told l
  unfolding sheet_tests
  lengths-known e f p = record { told-is = p.told-is ∙ sym (ap₂ (λ a b. tests (a && b)) e f); stands = p.stands }

  -- ---- the whole call
  module _ {l : List ℤ} where
    pub sheet-put : {told : Tested} → Laid classes triplets n told l → told ≡ Accepted → outcome_of told l ≡ class_sheet classes triplets n
    unfolding class_sheet
    sheet-put d a = ap₂ outcome_of d.told-is (d.stands a ∙ sym (ap (λ t. output_of t n (map pos (text (row classes triplets) k))) (sym d.told-is ∙ a)))

    pub sheet-refused : (told : Tested) → Laid classes triplets n told l → is_err told ≡ true → outcome_of told (replicate n (negsuc 0)) ≡ class_sheet classes triplets n
    unfolding class_sheet
    sheet-refused (Ok _) d e = let z : ◌≡◌ {A = ℕ} 0 1 = cc in absurd (omega arith)
    sheet-refused (Err r) d e = ap₂ outcome_of d.told-is (sym (ap (λ t. output_of t n (map pos (text (row classes triplets) k))) (sym d.told-is)))

-- ---- the weights at the end of a sheet
module _ (classes triplets : List ℤ) (thrice : length triplets ≡ class_count classes * 3) (l : List ℤ) (size : length l ≡ place_count (class_count classes)) where
  abbrev m : ℕ
  m = class_count classes

  abbrev numbers : List ℤ
  numbers = map pos (class_numbers classes)

  many : length numbers ≡ m
  many = length-map (class_numbers classes) pos ∙ length-own classes (length classes)

  weights-many : length (weights_of classes) ≡ m
  weights-many = length-map (class_numbers classes) (λ p. pos (weight classes p)) ∙ length-own classes (length classes)

  pub ready : (a k : ℕ) → a + 2 * m ≡ length l → length l ≤ a + k → {part : List ℤ} → part ≡ weighed classes → Ready classes triplets (put_mid a k l part)
  ready a k e h {part} f = record {
    thrice = thrice;
    size = ap length put ∙ long ∙ size;
    weights = ap (drop (length (put_mid a k l part) - m)) put ∙ ap (λ n. drop n (front ++ weights_of classes)) place ∙ drop_at front (weights_of classes) (length front) refl;
  }
    where
      front : List ℤ
      front = take a l ++ numbers

      put : put_mid a k l part ≡ front ++ weights_of classes
      put =
          ap (λ r. take a l ++ (part ++ r)) (drop-drop k a l ∙ drop_all (a + k) l h) ∙ ap (λ r. take a l ++ r) (append-nil part ∙ f)
          ∙ sym (append_assoc (take a l) numbers (weights_of classes))

      long : length (front ++ weights_of classes) ≡ length l
      long = length-append front (weights_of classes) ∙ omega (arith, length-append (take a l) numbers, length-take-le a l (omega arith), many, weights-many)

      place : length (put_mid a k l part) - m ≡ length front
      place = omega (arith, ap length put, length-append front (weights_of classes), weights-many)
