-- What the export of class_sheet answers and leaves in its output.
use Rattle.std.specs.Prelude.{List, ℕ, ℤ}
use Rattle.common.specs.Tested.{answer_of}
use Rattle.class_sheet.specs.ClassSheet.{class_sheet}

pub record ZoneClassSheet : Type 0 where
  pub answer : ℤ
  pub sheet : List ℤ

-- the output has n places
abbrev pub zone_class_sheet : (classes triplets : List ℤ) → ℕ → ZoneClassSheet
zone_class_sheet classes triplets n = let o = class_sheet classes triplets n in record { answer = answer_of o.answer; sheet = o.sheet }
