-- The sheet of an accepted chain's list: no field refuses it.
use mathlib.Core.Path.{◌≡◌, sym, ◌∙◌, ap}
use mathlib.Core.List.{List}
use Prim.Native.Nat.{ℕ, ◌*◌}
use lib.IntN.{ℤ, nat_abs}
use lib.ListN.{length, take}
use Rattle.std.specs.Prelude.{Ok}
use Rattle.common.specs.Array.{sides_of}
use Rattle.common.specs.Tested.{Accepted}
use Rattle.grgrid.specs.Grid.{size}
use Rattle.class_sheet.specs.Sheet.{place_count}
use Rattle.class_sheet.specs.ClassSheet.{row, class_count, sheet_rows, class_sheet}
use Rattle.class_sheet.specs.ReadSheet.{read_sheet}
use Rattle.class_sheet.proofs.ReadBack.{row-five, accepted-fits, read_back}
use Rattle.finished_sheet.proofs.FinishedSheet.{finished-sheet}
use Rattle.zone.specs.declared.Finished.{Finished}
use Rattle.zone_steps.specs.Steps.{Rooms, Lists}
use Rattle.zone.specs.Chain.{chain_tests, chain_finished, finished_list}
use Rattle.zone.proofs.ChainNumbers.{Told, chain-told}
use Rattle.zone.proofs.Outcomes.{leaving}
use Rattle.zone_list.specs.List.{chain_job, run_job}
use Rattle.zone_list.proofs.Listed.{chain-answered, whole-job, lists-are}
use Rattle.sheet_print.specs.SheetText.{sheet_of, job_sheet}
use Rattle.sheet_print.specs.SheetView.{Sheeted}

-- ---- what its lists tell
module _ (b : List ℕ) (r : Rooms) (e : chain_tests (chain_job b) r ≡ Accepted) where
  abbrev F : Finished
  F = chain_finished (chain_job b)

  abbrev L : Lists
  L = (finished_list (chain_job b) r).lists

  abbrev classes : List ℤ
  classes = take (size (sides_of F.d)) L.classes

  abbrev triplets : List ℤ
  triplets = take (nat_abs F.num_ir * 3) L.triplets

  told : Told F.d (nat_abs F.num_ir) L r.grg
  told = chain-told (chain_job b) r e

  counted : class_count classes ≡ nat_abs F.num_ir
  counted = ap class_count told.classes-are ∙ told.count-is

  fits : (class_sheet classes triplets (place_count (nat_abs F.num_ir))).answer ≡ Accepted
  fits = (λ i. (class_sheet (told.classes-are i) (told.triplets-are i) (place_count ((sym told.count-is) i))).answer) ∙ (finished-sheet told.calls).accepted

  -- read back, the sheet gives of each class its number, its weight and its triplet
  pub sheet-tells : read_sheet (job_sheet b r) ≡ sheet_rows classes triplets
  unfolding job_sheet sheet_of
  sheet-tells = read_back (row classes triplets) (row-five classes triplets) (class_count classes) (accepted-fits classes triplets (place_count (nat_abs F.num_ir)) fits)

-- ---- as the job leaves them
pub sheeted : (b : List ℕ) (r : Rooms) {f : Finished} {x y z : List ℤ} {l : Lists} → leaving (Ok f) x y z l ≡ run_job b r → length l.classes ≡ r.classes → length l.triplets ≡ r.triplets → Sheeted f l.classes l.triplets
sheeted b r o ec et =
    let a = chain-answered b r o in
    let p = a.0 in
    let q = lists-are b r o in
    record {
      whole = whole-job b r o ec et;
      counted = (λ i. class_count (take (size (sides_of (p i).d)) (q i).classes)) ∙ counted b r a.1 ∙ sym (ap (λ f. nat_abs f.num_ir) p);
      fits = (λ i. (class_sheet (take (size (sides_of (p i).d)) (q i).classes) (take (nat_abs (p i).num_ir * 3) (q i).triplets) (place_count (nat_abs (p i).num_ir))).answer) ∙ fits b r a.1;
    }
