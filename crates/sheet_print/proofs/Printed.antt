-- What the call prints: the sheet as bytes, or the line of the refusal.
use mathlib.Core.Path.{◌≡◌, refl, sym, ◌∙◌, ap, ap₂, subst}
use mathlib.Core.List.{List, ◌++◌, map, map-map, map-id}
use Prim.Native.Nat.{ℕ, ◌-◌, ◌<◌, ◌≤◌}
use lib.Dec.{leb, leb→le}
use lib.IntN.{ℤ, pos, negsuc, nat_abs}
use lib.ListN.{length, get_or, take, replicate, length-map}
use lib.Seq.{take_at}
use Rattle.std.specs.Prelude.{Result, Ok}
use Rattle.std.specs.List.{All}
use Rattle.std.proofs.lemmas.List.{drop-replicate}
use Rattle.std.proofs.lemmas.List.Elements.{All-map, All-same}
use Rattle.integer.proofs.Test.{holds}
use Rattle.common.specs.Tested.{Accepted, without_value}
use Rattle.common.specs.declared.Refusal.{Refusal}
use Rattle.common.specs.declared.Refusal.TheVariants.{WrongLength}
use Rattle.common.proofs.Tests.{passed, both-accepted}
use Rattle.grgrid.proofs.Built.{written, build-list}
use Rattle.zone.specs.Chain.{chain_finished, finished_list}
use Rattle.zone_steps.specs.Steps.{Rooms, Lists}
use Rattle.zone_list.specs.List.{chain_job, room_tests}
use Rattle.zone_list.proofs.Listed.{step-given}
use Rattle.zone_print.specs.JobText.{text_or_refusal, PrintedText, printed_text}
use Rattle.zone_print.proofs.JobText.{whole-printed, bytes-inside}
use Rattle.sheet_print.specs.SheetText.{both_rooms, sheet_for, LaidSheet, PrintedSheet, job_sheet, lay_job, printed_sheet}
use Rattle.sheet_print.proofs.Codes.{sheet-bytes}

-- codes that were written over zeros
pub codes-printed : (codes : List ℤ) (n : ℕ) → length codes ≤ n → {i : ℕ} → i ≡ length codes → {before out : List ℕ} → before ≡ replicate n 0 → out ≡ written (λ p done. get_or codes p (pos 0)) nat_abs i before
    → out ≡ (printed_text (map nat_abs codes) n).text
codes-printed codes n h ei eb eo =
    eo ∙ ap₂ (written (λ p done. get_or codes p (pos 0)) nat_abs) ei eb
    ∙ ap₂ (λ l r. map nat_abs l ++ r) (build-list codes (pos 0) (length codes) refl) (drop-replicate (length codes) n 0)
    ∙ ap (λ k. map nat_abs codes ++ replicate (n - k) 0) (sym (length-map codes nat_abs))
    ∙ ap (λ p. p.text) (whole-printed (map nat_abs codes) n (subst (λ k. k ≤ n) (sym (length-map codes nat_abs)) h))

-- ---- a job
abbrev all-of : PrintedText → LaidSheet → PrintedSheet
all-of p o = record { bytes = p.bytes; text = p.text; addresses = o.addresses; map = o.map; grg = o.grg; lists = o.lists; sheet = o.sheet }

module _ (b : List ℕ) (r : Rooms) (m n : ℕ) {x y z : List ℤ} {l : Lists} {s : List ℤ} where
  -- as printed, with every array
  pub all-printed : {a : Result ℕ Refusal} → record { answer = a; addresses = x; map = y; grg = z; lists = l; sheet = s } ≡ lay_job b r m n
      → {p : PrintedText} → p ≡ printed_text (text_or_refusal (without_value a) (job_sheet b r)) n → record { bytes = p.bytes; text = p.text; addresses = x; map = y; grg = z; lists = l; sheet = s } ≡ printed_sheet b r m n
  unfolding printed_sheet
  all-printed o e = λ i. all-of ((e ∙ ap (λ o. printed_text (text_or_refusal (without_value o.answer) (job_sheet b r)) n) o) i) (o i)

  -- its sheet
  module _ {k : ℕ} (o : record { answer = Ok k; addresses = x; map = y; grg = z; lists = l; sheet = s } ≡ lay_job b r m n) where
    given : (both_rooms (job_sheet b r) m n ≡ Accepted) × (k ≡ length (job_sheet b r))
    unfolding lay_job
    given = step-given b r (both_rooms (job_sheet b r) m n) (length (job_sheet b r)) (ap (λ o. o.answer) o)

    pub inside : (k ≤ m) × (k ≤ n)
    inside =
        let t = job_sheet b r in
        let rooms = both-accepted (room_tests t m) (room_tests t n) given.0 in
        let fits : (n : ℕ) → room_tests t n ≡ Accepted → k ≤ n = λ n e. subst (λ k. k ≤ n) (sym given.1) (leb→le (length t) n (holds (passed (leb (length t) n) WrongLength Accepted e).0)) in
        (fits m rooms.0, fits n rooms.1)

    front : take k s ≡ map pos (job_sheet b r)
    unfolding lay_job
    front =
        let t = map pos (job_sheet b r) in
        ap (take k) (ap (λ o. o.sheet) o ∙ ap (λ a. sheet_for (without_value a) (job_sheet b r) m) (sym (ap (λ o. o.answer) o)))
        ∙ take_at t (replicate (m - length t) (negsuc 0)) k (length-map (job_sheet b r) pos ∙ sym given.1)

    pub small-codes : All (λ z. nat_abs z < 256) (take k s)
    unfolding job_sheet
    small-codes = All-same (λ z. nat_abs z < 256) (take k s) (map pos (job_sheet b r)) front (All-map (λ z. nat_abs z < 256) pos (job_sheet b r) (sheet-bytes (chain_finished (chain_job b)) (finished_list (chain_job b) r).lists.classes (finished_list (chain_job b) r).lists.triplets))

    pub sheet-printed : {t : List ℕ} → t ≡ (printed_text (map nat_abs (take k s)) n).text → record { bytes = k; text = t; addresses = x; map = y; grg = z; lists = l; sheet = s } ≡ printed_sheet b r m n
    sheet-printed e =
        let codes = ap (map nat_abs) front ∙ map-map nat_abs pos (job_sheet b r) ∙ map-id (job_sheet b r) in
        let whole = whole-printed (job_sheet b r) n (subst (λ k. k ≤ n) given.1 inside.1) in
        all-printed o (λ i. record { bytes = (given.1 ∙ ap (λ p. p.bytes) whole) i; text = (e ∙ ap (λ t. (printed_text t n).text) codes) i })

pub bytes-fit : (b : List ℕ) (r : Rooms) (m n : ℕ) {o : PrintedSheet} → o ≡ printed_sheet b r m n → o.bytes ≤ length o.text
unfolding printed_sheet
bytes-fit b r m n e = subst (λ o. o.bytes ≤ length o.text) (sym e) (bytes-inside (text_or_refusal (without_value (lay_job b r m n).answer) (job_sheet b r)) n)
