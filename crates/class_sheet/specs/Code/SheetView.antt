-- How the contracts of the inner functions say what stands in a slice.
use Rattle.std.specs.Prelude.{◌≡◌, Bool, true, false, ◌&&◌, List, [], ◌∷◌, ◌++◌, map, ℕ, suc, ◌+◌, ◌*◌, ◌-◌, leb, ℤ, pos, length, take, drop}
use Rattle.common.specs.Tested.{require, Tested, Accepted}
use Rattle.common.specs.declared.Refusal.TheVariants.{OutsideLimits}
use Rattle.decimal.specs.Decimal.{decimal}
use Rattle.class_sheet.specs.Sheet.{right, line, line_fits, row_widths, page_line, page_fits, text, text_fits, place_count}
use Rattle.class_sheet.specs.ClassSheet.{weight, class_numbers, class_count, row, sheet_tests}

abbrev pub sign : Bool → List ℕ
sign true = 45 ∷ []
sign false = []

abbrev pub signed : Bool → ℕ → List ℕ
signed negative n = sign negative ++ decimal n

-- refused if it does not fit
abbrev pub fitting : Bool → Tested
fitting b = require b OutsideLimits Accepted

-- a text was put right into w places, if it fits there
pub record PutRight (t : List ℕ) (w : ℕ) (told : Tested) (out : List ℤ) : Type 0 where
  pub told-is : told ≡ fitting (leb (length t) w)
  pub stands : told ≡ Accepted → out ≡ map pos (right w t)

-- numbers were put into fields of these widths, if they fit there
pub record PutLine (ws : List ℕ) (l : List ℤ) (told : Tested) (out : List ℤ) : Type 0 where
  pub told-is : told ≡ fitting (line_fits ws l)
  pub stands : told ≡ Accepted → out ≡ map pos (line ws l)

abbrev pub total : List ℕ → ℕ
total [] = 0
total (w ∷ ws) = w + total ws

-- the line of class r was put, and that of a page before it where one begins, if its numbers l fit there
pub record PutClass (before l : List ℤ) (r : ℕ) (told : Tested) (out : List ℤ) : Type 0 where
  pub told-is : told ≡ fitting (page_fits r && line_fits row_widths l)
  pub stands : told ≡ Accepted → out ≡ take (place_count r) before ++ (map pos (page_line r ++ line row_widths l) ++ drop (place_count (suc r)) before)

-- the numbers of the classes, and after them their weights
abbrev pub weights_of : List ℤ → List ℤ
weights_of classes = map (λ p. pos (weight classes p)) (class_numbers classes)

abbrev pub weighed : List ℤ → List ℤ
weighed classes = map pos (class_numbers classes) ++ weights_of classes

-- a sheet of the right length whose last places hold the weights
pub record Ready (classes triplets sheet : List ℤ) : Type 0 where
  pub thrice : length triplets ≡ class_count classes * 3
  pub size : length sheet ≡ place_count (class_count classes)
  pub weights : drop (length sheet - class_count classes) sheet ≡ weights_of classes

-- the whole sheet was put, if every number fits
pub record PutSheet (classes triplets : List ℤ) (told : Tested) (out : List ℤ) : Type 0 where
  pub told-is : told ≡ fitting (text_fits (row classes triplets) (class_count classes))
  pub stands : told ≡ Accepted → out ≡ map pos (text (row classes triplets) (class_count classes))

-- the call, but for what a refusal leaves
pub record Laid (classes triplets : List ℤ) (n : ℕ) (told : Tested) (out : List ℤ) : Type 0 where
  pub told-is : told ≡ sheet_tests classes triplets n
  pub stands : told ≡ Accepted → out ≡ map pos (text (row classes triplets) (class_count classes))
