-- The listing of an accepted job fits the program's array, so that the program prints it whole or the line of the job's refusal.
use mathlib.Core.Path.{◌≡◌, refl, sym, ◌∙◌, ap, ap₂, subst}
use mathlib.Core.Bool.{Bool, true, false, cond}
use mathlib.Core.List.{List, [], ◌∷◌, ◌++◌}
use Prim.Native.Nat.{ℕ, zero, suc, ◌*◌, ◌^◌, ◌-◌, ◌/◌, ◌≤◌, ◌<◌}
use native.Mathlib.Nat.{le_trans}
use native.Mathlib.Omega.{arith}
use lib.Dec.{T, leb, ltb, ltb→lt}
use lib.IntN.{ℤ, pos, negsuc, nat_abs}
use lib.ListN.{length, get_or, take, replicate, length-take, length-append}
use borrow.Author.Tests.{le-leb}
use Rattle.std.specs.Prelude.{Result, Ok, Err, Some, None}
use Rattle.std.specs.Option.{unwrap_or}
use Rattle.common.specs.Array.{sides_of}
use Rattle.common.specs.Limits.{side_fits, diagonal_fits}
use Rattle.common.specs.Refusal.{number_of}
use Rattle.common.specs.Tested.{require, giving, Tested, Accepted, without_value}
use Rattle.common.specs.declared.Refusal.{Refusal}
use Rattle.common.specs.declared.Refusal.TheVariants.{Singular, NotConverged, OutsideLimits, Overflow, SingularQ, SymmetryBroken, TooManyRotations, TooManyForInversion, BadGridType, NotUnimodularQ, SingularReciprocalLattice, SearchFailed, WrongLength, OutsideTable, BadHeader, OtherSizes, OtherGrid, NotGroup, CouldNotStand, InvertedRange}
use Rattle.common.proofs.Bounds.{side-size}
use Rattle.common.proofs.Tests.{same-ok, same-refusal, refused-not-ok}
use Rattle.grgrid.specs.Grid.{size}
use Rattle.grgrid.proofs.Accepted.{side-0, side-1, side-2}
use Rattle.decimal.specs.Decimal.{decimal, signed_decimal}
use Rattle.job.specs.Listing.{refusal}
use Rattle.job.specs.Writing.{page, printed}
use Rattle.decimal.proofs.Decimal.{digits-few}
use Rattle.job.proofs.Lengths.{listing-length}
use Rattle.zone.specs.declared.Finished.{Finished}
use Rattle.zone.specs.Chain.{outcome_of, chain_finished, finished_list}
use Rattle.zone.proofs.ChainNumbers.{Below, Numbers, chain-numbers}
use Rattle.zone_steps.specs.Steps.{Rooms, Lists}
use Rattle.zone_list.specs.List.{list_rooms, Whole, chain_job, run_job, step_by, text_of, room_tests, text_for, text, list}
use Rattle.zone_print.specs.JobText.{text_or_refusal, job_text, PrintedText, printed_text, PrintedJob, printed_job}
use Rattle.zone_list.proofs.Listed.{accepted-tests, whole-chain}

-- ---- short numbers
-- numbers below 10, 100, 1000, .. have at most 1, 2, 3, .. digits
below-short : (k m : ℕ) → m ≤ 10 ^ suc k → (l : List ℤ) → Below m l → (i : ℕ) → i < length l → length (signed_decimal (get_or l i (pos 0))) ≤ suc k
below-short k m h l b i j =
    let r = b i j in
    subst (λ z. length (signed_decimal z) ≤ suc k) (sym r.1) ((digits-few k r.0).1 (le_trans r.2 h))

side-short : (z : ℤ) → T (side_fits z) → length (signed_decimal z) ≤ 3
side-short (pos n) t = let h = side-size (pos n) t in let b : n < 1000 = omega arith in (digits-few 2 n).1 b
side-short (negsuc n) t = absurd t

sides-short : (d : List ℤ) → T (diagonal_fits d) → length d ≡ 3 → (i : ℕ) → i < length d → length (signed_decimal (get_or d i (pos 0))) ≤ 3
sides-short d t e zero h = side-short (get_or d 0 (pos 0)) (side-0 d t)
sides-short d t e (suc zero) h = side-short (get_or d 1 (pos 0)) (side-1 d t)
sides-short d t e (suc (suc zero)) h = side-short (get_or d 2 (pos 0)) (side-2 d t)
sides-short d t e (suc (suc (suc i))) h = absurd (omega arith)

-- ---- the listing of a finished list of at most 256 points and 1,024 images
module _ (f : Finished) (l : Lists) (w : Whole f 256 768) (n : Numbers f.d (nat_abs f.num_ir) l 1024) where
  abbrev N : ℕ
  N = size (sides_of f.d)

  abbrev shown : List ℤ
  shown = take N l.classes

  abbrev chosen : List ℤ
  chosen = take (nat_abs f.num_ir * 3) l.triplets

  count-is : nat_abs f.num_ir ≡ w.k
  count-is = ap nat_abs w.counted

  count-short : length (signed_decimal f.num_ir) ≤ 3
  count-short = subst (λ z. length (signed_decimal z) ≤ 3) (sym w.counted) ((digits-few 2 w.k).1 few)
    where
      few : w.k < 1000
      few = let a = w.few in let b = w.classes-in in omega arith

  shown-few : length shown ≤ 256
  shown-few = let a = w.classes-in in rw (length-take N l.classes) (omega arith)

  chosen-few : length chosen / 3 ≤ 256
  chosen-few = let a = w.few in let b = w.classes-in in rw (length-take (nat_abs f.num_ir * 3) l.triplets) (omega (arith, count-is))

  finished-short : length (text_of f l.classes l.triplets) ≤ 6940
  unfolding text_of
  finished-short =
      let h =
      listing-length f.d shown f.num_ir chosen
      (sides-short f.d w.grid n.three-sides)
      (below-short 2 N (let a = w.classes-in in omega arith) shown n.classes-listed)
      count-short
      (below-short 3 1024 (omega arith) chosen n.triplets-listed) in
      omega (arith, n.three-sides, shown-few, chosen-few)

-- an accepted listing has at most 6,940 bytes
pub text-short : (b : List ℕ) → without_value (run_job b list_rooms).answer ≡ Accepted → length (text b list_rooms) ≤ 6940
unfolding text
text-short b e =
    let t = accepted-tests b list_rooms e in
    finished-short (chain_finished (chain_job b)) (finished_list (chain_job b) list_rooms).lists (whole-chain (chain_job b) list_rooms t) (chain-numbers (chain_job b) list_rooms t)

-- ---- a text in n places
module _ (t : List ℕ) (n : ℕ) where
  abbrev taken : Bool → PrintedText
  taken v = let p = cond v (page (t ++ replicate (n - length t) 0) (Some (length t))) (page (replicate n 0) None) in record { bytes = unwrap_or p.so_far 0; text = p.text }

  pub whole-printed : length t ≤ n → taken true ≡ printed_text t n
  unfolding printed_text
  whole-printed h = sym (ap taken (le-leb (length t) n h))

  -- no more is printed than it holds
  pub bytes-inside : (printed_text t n).bytes ≤ length (printed_text t n).text
  unfolding printed_text
  bytes-inside = go (leb (length t) n)
    where
      go : (v : Bool) → (taken v).bytes ≤ length (taken v).text
      go true = omega (arith, length-append t (replicate (n - length t) 0))
      go false = omega arith

pub given-tests : (t : Tested) (n : ℕ) {k : ℕ} → giving t n ≡ Ok k → t ≡ Accepted
given-tests (Ok _) n e = refl
given-tests (Err r) n e = absurd (refused-not-ok e)

pub refused-tests : (t : Tested) (n : ℕ) {r : Refusal} → giving t n ≡ Err r → t ≡ Err r
refused-tests (Ok _) n e = absurd (refused-not-ok (sym e))
refused-tests (Err r) n e = ap Err (same-refusal e)

-- a refusal's number has one digit or two
few-digits : (r : Refusal) → T (ltb (number_of r) 100)
few-digits Singular = tt
few-digits NotConverged = tt
few-digits OutsideLimits = tt
few-digits Overflow = tt
few-digits SingularQ = tt
few-digits SymmetryBroken = tt
few-digits TooManyRotations = tt
few-digits TooManyForInversion = tt
few-digits BadGridType = tt
few-digits NotUnimodularQ = tt
few-digits SingularReciprocalLattice = tt
few-digits SearchFailed = tt
few-digits WrongLength = tt
few-digits OutsideTable = tt
few-digits BadHeader = tt
few-digits OtherSizes = tt
few-digits OtherGrid = tt
few-digits NotGroup = tt
few-digits CouldNotStand = tt
few-digits InvertedRange = tt

refusal-short : (r : Refusal) → length (refusal r) ≤ 11
unfolding refusal
refusal-short r = let h = (digits-few 1 (number_of r)).1 (ltb→lt (number_of r) 100 (few-digits r)) in omega (arith, length-append (decimal (number_of r)) (10 ∷ []))

-- ---- what the program prints
module _ (b : List ℕ) where
  -- a listing is not refused for want of room
  answer-is : (list b list_rooms 8192).answer ≡ giving (without_value (run_job b list_rooms).answer) (length (text b list_rooms))
  unfolding list
  answer-is = go (run_job b list_rooms).answer (text-short b)
    where
      go : (a : Result Finished Refusal) → (without_value a ≡ Accepted → length (text b list_rooms) ≤ 6940)
          → (step_by (room_tests (text b list_rooms) 8192) (length (text b list_rooms)) list_rooms a (run_job b list_rooms)).answer ≡ giving (without_value a) (length (text b list_rooms))
      go (Ok f) h = ap (λ v. (outcome_of (require v WrongLength Accepted) (length (text b list_rooms)) list_rooms (run_job b list_rooms)).answer) (le-leb (length (text b list_rooms)) 8192 (le_trans (h refl) (omega arith)))
      go (Err r) h = refl

  text-fits : length (job_text b) ≤ 6940
  unfolding job_text
  text-fits = go (without_value (run_job b list_rooms).answer) (text-short b)
    where
      go : (t : Tested) → (t ≡ Accepted → length (text b list_rooms) ≤ 6940) → length (text_or_refusal t (text b list_rooms)) ≤ 6940
      go (Ok _) h = h refl
      go (Err r) h = le_trans (refusal-short r) (omega arith)

  fitting : record { bytes = length (job_text b); text = job_text b ++ replicate (8192 - length (job_text b)) 0 } ≡ printed_text (job_text b) 8192
  fitting = whole-printed (job_text b) 8192 (le_trans text-fits (omega arith))

  pub printed-fits : {o : PrintedJob} → o ≡ printed_job b → o.bytes ≤ length o.text
  unfolding printed_job
  printed-fits e = subst (λ o. o.bytes ≤ length o.text) (sym e) (subst (λ k. k ≤ length (printed_text (job_text b) 8192).text) (sym (ap (λ o. o.bytes) fitting)) (bytes-inside (job_text b) 8192))

  -- ---- every array, by its length
  module _ {r : Rooms} {n : ℕ} (er : r ≡ list_rooms) (en : n ≡ 8192) {a : Result ℕ Refusal} {x y z : List ℤ} {l : Lists} {t : List ℕ} (o : record { answer = a; addresses = x; map = y; grg = z; lists = l; text = t } ≡ list b r n) where
    sized : record { answer = a; addresses = x; map = y; grg = z; lists = l; text = t } ≡ list b list_rooms 8192
    sized = o ∙ ap₂ (list b) er en

    -- printed as s
    printed-as : {s : PrintedText} → s ≡ printed_text (job_text b) 8192 → record { bytes = s.bytes; text = s.text; addresses = x; map = y; grg = z; lists = l } ≡ printed_job b
    unfolding printed_job
    printed-as e = λ i. record {
      bytes = (ap (λ s. s.bytes) (e ∙ sym fitting)) i;
      text = (e i).text;
      addresses = (sized i).addresses;
      map = (sized i).map;
      grg = (sized i).grg;
      lists = (sized i).lists;
    }

    tested : a ≡ giving (without_value (run_job b list_rooms).answer) (length (text b list_rooms))
    tested = ap (λ o. o.answer) sized ∙ answer-is

    -- the listing
    pub listing-printed : {k : ℕ} → a ≡ Ok k → record { bytes = k; text = t; addresses = x; map = y; grg = z; lists = l } ≡ printed_job b
    unfolding list job_text printed_text
    listing-printed {k} e =
        let s = text b list_rooms in
        let accepted = given-tests (without_value (run_job b list_rooms).answer) (length s) (sym tested ∙ e) in
        let count = same-ok (sym e ∙ tested ∙ ap (λ t. giving t (length s)) accepted) in
        let same = sym (ap (λ v. text_or_refusal v s) accepted) in
        printed-as (λ i. record { bytes = (count ∙ ap length same ∙ ap (λ s. s.bytes) fitting) i; text = (ap (λ o. o.text) sized ∙ ap (λ v. text_for v s 8192) accepted ∙ ap (λ s. (printed s 8192).text) same) i })

    -- the line of a refusal
    pub line-printed : {c : Refusal} → a ≡ Err c → {m : ℕ} → m ≡ 8192 → {s : PrintedText} → s ≡ printed_text (refusal c) m → record { bytes = s.bytes; text = s.text; addresses = x; map = y; grg = z; lists = l } ≡ printed_job b
    unfolding job_text
    line-printed e em es =
        let refused = refused-tests (without_value (run_job b list_rooms).answer) (length (text b list_rooms)) (sym tested ∙ e) in
        printed-as (es ∙ ap₂ printed_text (sym (ap (λ t. text_or_refusal t (text b list_rooms)) refused)) em)
