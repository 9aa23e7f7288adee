-- What the program sheet prints of the bytes that it read, and what its arrays then hold: the class sheet of the finished list, or the line of the
-- refusal.
use Rattle.std.specs.Prelude.{List, map, ℕ, ◌*◌, ℤ, pos, nat_abs, length, take, Result}
use Rattle.common.specs.declared.Refusal.{Refusal}
use Rattle.common.specs.Array.{sides_of}
use Rattle.common.specs.Tested.{output_of, after, Tested, without_value}
use Rattle.grgrid.specs.Grid.{size}
use Rattle.bzgrid.specs.BzGridAddresses.{padded}
use Rattle.class_sheet.specs.Sheet.{lined, text}
use Rattle.class_sheet.specs.ClassSheet.{row, class_count}
use Rattle.zone.specs.declared.Finished.{Finished}
use Rattle.zone_steps.specs.Steps.{Rooms, Lists}
use Rattle.zone.specs.Chain.{chain_finished, finished_list}
use Rattle.zone_list.specs.List.{chain_job, room_tests, run_job, after_job}
use Rattle.zone_print.specs.JobText.{text_or_refusal, printed_text}

-- the codes of a finished list's sheet
unfoldable pub sheet_of : Finished → (classes triplets : List ℤ) → List ℕ
unfolding lined row
sheet_of f classes triplets = let c = take (size (sides_of f.d)) classes in text (row c (take (nat_abs f.num_ir * 3) triplets)) (class_count c)

-- room for a sheet in m places, a code a place, and for its text in n
abbrev pub both_rooms : List ℕ → ℕ → ℕ → Tested
both_rooms t m n = after (room_tests t m) (room_tests t n)

-- the sheet in m places
abbrev pub sheet_for : Tested → List ℕ → ℕ → List ℤ
sheet_for s t m = output_of s m (padded (map pos t) m)

-- how many codes, and every array
pub record LaidSheet : Type 0 where
  pub answer : Result ℕ Refusal
  pub addresses : List ℤ
  pub map : List ℤ
  pub grg : List ℤ
  pub lists : Lists
  pub sheet : List ℤ

-- the number of bytes to print, and every array
pub record PrintedSheet : Type 0 where
  pub bytes : ℕ
  pub text : List ℕ
  pub addresses : List ℤ
  pub map : List ℤ
  pub grg : List ℤ
  pub lists : Lists
  pub sheet : List ℤ

-- ---- a job
module _ (b : List ℕ) (r : Rooms) where
  -- of an accepted chain
  unfoldable pub job_sheet : List ℕ
  unfolding chain_job chain_finished finished_list sheet_of
  job_sheet = let l = (finished_list (chain_job b) r).lists in sheet_of (chain_finished (chain_job b)) l.classes l.triplets

  -- in m places, and its text in n
  module _ (m n : ℕ) where
    unfoldable pub lay_job : LaidSheet
    unfolding run_job job_sheet
    lay_job =
        let o = after_job (both_rooms job_sheet m n) (length job_sheet) r (run_job b r) in
        let s = sheet_for (without_value o.answer) job_sheet m in
        record { answer = o.answer; addresses = o.addresses; map = o.map; grg = o.grg; lists = o.lists; sheet = s }

    unfoldable pub printed_sheet : PrintedSheet
    unfolding lay_job printed_text
    printed_sheet =
        let o = lay_job in
        let t = printed_text (text_or_refusal (without_value o.answer) job_sheet) n in
        record { bytes = t.bytes; text = t.text; addresses = o.addresses; map = o.map; grg = o.grg; lists = o.lists; sheet = o.sheet }
