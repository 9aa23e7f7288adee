-- What the steps of print_sheet rely on and leave, as their contracts say it.
use Rattle.std.specs.Prelude.{◌≡◌, List, ◌*◌, ℤ, nat_abs, length, take}
use Rattle.common.specs.Array.{sides_of}
use Rattle.common.specs.Tested.{Accepted}
use Rattle.grgrid.specs.Grid.{size}
use Rattle.class_sheet.specs.Sheet.{place_count}
use Rattle.class_sheet.specs.ClassSheet.{class_count, class_sheet}
use Rattle.zone.specs.declared.Finished.{Finished}
use Rattle.zone_list.specs.List.{Whole}

-- a whole list with k classes, whose sheet no field refuses
pub record Sheeted (f : Finished) (classes triplets : List ℤ) : Type 0 where
  pub whole : Whole f (length classes) (length triplets)
  pub counted : class_count (take (size (sides_of f.d)) classes) ≡ nat_abs f.num_ir
  pub fits : (class_sheet (take (size (sides_of f.d)) classes) (take (nat_abs f.num_ir * 3) triplets) (place_count (nat_abs f.num_ir))).answer ≡ Accepted
