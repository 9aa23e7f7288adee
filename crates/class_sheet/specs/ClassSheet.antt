-- The call: its tests, and its answer with the sheet, which has n places, as one outcome. The class map and the triplets may hold anything.
use Rattle.std.specs.Prelude.{◌≡◌, ◌&&◌, List, ◌∷◌, map, ℕ, ◌*◌, eqb, ℤ, pos, nat_abs, length, get_or}
use Rattle.common.specs.Array.{row_at}
use Rattle.common.specs.Tested.{require, output_of, Tested, Accepted}
use Rattle.common.specs.declared.Refusal.TheVariants.{OutsideLimits, WrongLength}
use Rattle.decimal.specs.Decimal.{decimal}
use Rattle.grgrid.specs.Build.{build}
use Rattle.grgrid.specs.Own.{is_place, own_places, own_points}
use Rattle.grgrid.specs.Picked.{picked}
use Rattle.class_sheet.specs.Sheet.{lined, text, text_fits, place_count}
use Rattle.class_sheet.specs.ReadSheet.{read_sheet}

-- ---- the rows, of a class map and its triplets
-- how many of the first n points bear the number p
abbrev pub bearing : List ℤ → ℕ → ℕ → ℕ
bearing classes p n = length (picked (λ q. is_place (get_or classes q (pos 0)) p) n)

-- the weight counts all points that do
abbrev pub weight : List ℤ → ℕ → ℕ
weight classes p = bearing classes p (length classes)

-- the numbers of the classes, from the lowest up
abbrev pub class_numbers : List ℤ → List ℕ
class_numbers classes = own_points classes (length classes)

abbrev pub class_count : List ℤ → ℕ
class_count classes = own_places classes (length classes)

-- class r of the sheet: its number, its weight, three image indices
unfoldable pub row : (classes triplets : List ℤ) → ℕ → List ℤ
row classes triplets r = let p = get_or (class_numbers classes) r 0 in pos p ∷ pos (weight classes p) ∷ row_at triplets (3 * r)

abbrev pub sheet_rows : (classes triplets : List ℤ) → List (List ℤ)
sheet_rows classes triplets = build (λ r done. row classes triplets r) (class_count classes)

-- ---- the call
unfoldable pub sheet_tests : (classes triplets : List ℤ) → ℕ → Tested
unfolding row decimal
sheet_tests classes triplets n =
    let k = class_count classes in
    require (eqb (length triplets) (k * 3) && eqb n (place_count k)) WrongLength
    (require (text_fits (row classes triplets) k) OutsideLimits Accepted)

pub record Outcome : Type 0 where
  pub answer : Tested
  pub sheet : List ℤ

abbrev pub outcome_of : Tested → List ℤ → Outcome
outcome_of answer sheet = record { answer = answer; sheet = sheet }

-- a code a place
unfoldable pub class_sheet : (classes triplets : List ℤ) → ℕ → Outcome
unfolding sheet_tests lined row
class_sheet classes triplets n =
    let t = sheet_tests classes triplets n in
    outcome_of t (output_of t n (map pos (text (row classes triplets) (class_count classes))))

-- ---- what holds of an accepted call: the sheet read back gives of each class its number, its weight and its triplet
abbrev pub ReadsBack : (classes triplets : List ℤ) → Outcome → Type 0
ReadsBack classes triplets o = o.answer ≡ Accepted → read_sheet (map nat_abs o.sheet) ≡ sheet_rows classes triplets
