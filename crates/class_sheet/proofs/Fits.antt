-- When every field fits: bounds on the numbers, page numbers, weights; and then a call of the right lengths is accepted.
use mathlib.Core.Path.{◌≡◌, refl, ◌∙◌, ap, ap₂}
use mathlib.Core.Bool.{Bool, true, false, ◌&&◌, cond}
use mathlib.Core.List.{List, [], ◌∷◌}
use Prim.Native.Nat.{ℕ, zero, suc, ◌+◌, ◌*◌, ◌/◌, ◌%◌, ◌≤◌, ◌<◌}
use native.Mathlib.Nat.{lt_of_le_of_lt}
use native.Mathlib.Omega.{arith}
use lib.Dec.{T, eqb, lit<}
use lib.IntN.{ℤ, pos}
use lib.ListN.{length}
use borrow.Author.Tests.{eq-eqb}
use Rattle.integer.proofs.Test.{and_in, is_true}
use Rattle.common.specs.Tested.{require, Accepted}
use Rattle.common.specs.declared.Refusal.TheVariants.{OutsideLimits, WrongLength}
use Rattle.class_sheet.specs.Sheet.{field_fits, line_fits, row_widths, page_widths, page_number, page_fits, text_fits, place_count}
use Rattle.class_sheet.specs.ClassSheet.{row, class_count, class_sheet}
use Rattle.class_sheet.proofs.Fields.{field_holds}

-- six places for a class and a weight, eleven for an image index
pub row-fits : {p w x y z : ℕ} → p < 1000000 → w < 1000000 → x < 100000000000 → y < 100000000000 → z < 100000000000
    → T (line_fits row_widths (pos p ∷ pos w ∷ pos x ∷ pos y ∷ pos z ∷ []))
row-fits {p} {w} {x} {y} {z} a b c d e =
    and_in (field_fits 6 (pos p)) _ ((field_holds 5 p).1 a)
    (and_in (field_fits 6 (pos w)) _ ((field_holds 5 w).1 b)
    (and_in (field_fits 11 (pos x)) _ ((field_holds 10 x).1 c) (and_in (field_fits 11 (pos y)) _ ((field_holds 10 y).1 d) (and_in (field_fits 11 (pos z)) true ((field_holds 10 z).1 e) tt))))

-- the page number of every row that a slice of 64 bits can hold
pub page-fits : (r : ℕ) → r < 0x10000000000000000 → T (page_fits r)
page-fits r h = go (eqb (r % 40) 0)
  where
    go : (b : Bool) → T (cond b (line_fits page_widths (page_number r)) true)
    go true = and_in (field_fits 45 (pos (r / 40 + 1))) true ((field_holds 44 (r / 40 + 1)).1 (lt_of_le_of_lt {m = 0x10000000000000000} (omega arith) (lit< tt))) tt
    go false = tt

pub text-fits : (row : ℕ → List ℤ) (n : ℕ) → n ≤ 0x10000000000000000 → ((r : ℕ) → r < n → T (line_fits row_widths (row r))) → T (text_fits row n)
text-fits row zero s h = tt
text-fits row (suc n) s h =
    and_in (text_fits row n) _ (text-fits row n (omega arith) (λ r l. h r (omega arith))) (and_in (page_fits n) (line_fits row_widths (row n)) (page-fits n (omega arith)) (h n (omega arith)))

-- ---- a call of the right lengths
module _ (classes triplets : List ℤ) where
  pub fitting-accepted : length triplets ≡ class_count classes * 3 → T (text_fits (row classes triplets) (class_count classes))
      → (class_sheet classes triplets (place_count (class_count classes))).answer ≡ Accepted
  unfolding class_sheet
  fitting-accepted e t =
      ap₂ (λ a b. require (a && b) WrongLength (require (text_fits (row classes triplets) (class_count classes)) OutsideLimits Accepted)) (eq-eqb (length triplets) (class_count classes * 3) e) (eq-eqb (place_count (class_count classes)) (place_count (class_count classes)) refl)
      ∙ ap (λ b. require b OutsideLimits Accepted) (is_true (text_fits (row classes triplets) (class_count classes)) t)
