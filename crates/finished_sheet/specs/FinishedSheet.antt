-- The class sheet of every accepted chain, whatever its list of rotations: every number fits its field, so that a sheet of the right length is never
-- refused, and read back it gives the numbers. The theorem is `finished-sheet` of proofs/FinishedSheet.
use Rattle.std.specs.Prelude.{◌≡◌, List, [], ◌∷◌, map, ℕ, ◌<◌, ◌≤◌, ℤ, pos, nat_abs}
use Rattle.common.specs.Tested.{Accepted}
use Rattle.class_sheet.specs.Sheet.{place_count}
use Rattle.class_sheet.specs.ReadSheet.{read_sheet}
use Rattle.class_sheet.specs.ClassSheet.{row, class_count, sheet_rows, class_sheet}
use Rattle.demand3.specs.FinishedList.{Calls}

-- a class number of five digits, a weight, three image indices of at most ten digits
pub record SmallRow (l : List ℤ) : Type 0 where
  pub class : ℕ
  pub weight : ℕ
  pub x : ℕ
  pub y : ℕ
  pub z : ℕ
  pub numbers : l ≡ pos class ∷ pos weight ∷ pos x ∷ pos y ∷ pos z ∷ []
  pub class-low : class < 65536
  pub weight-low : weight ≤ 65536
  pub x-low : x < 10000000000
  pub y-low : y < 10000000000
  pub z-low : z < 10000000000

pub record FinishedSheet (c : Calls) : Type 0 where
  pub small : (r : ℕ) → r < class_count c.classes → SmallRow (row c.classes c.triplets r)
  pub accepted : (class_sheet c.classes c.triplets (place_count (class_count c.classes))).answer ≡ Accepted
  pub reads-back : read_sheet (map nat_abs (class_sheet c.classes c.triplets (place_count (class_count c.classes))).sheet) ≡ sheet_rows c.classes c.triplets

abbrev pub EverySheet : Type 0
EverySheet = (c : Calls) → FinishedSheet c
