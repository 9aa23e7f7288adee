-- The outcome of the layout.
use mathlib.Core.Path.{◌≡◌, sym, ◌∙◌, ap, ap₂}
use mathlib.Core.Logic.{◌⊎◌, inl, inr}
use mathlib.Core.Bool.{true, false}
use mathlib.Core.List.{List, ◌++◌, map}
use Prim.Native.Nat.{ℕ, ◌*◌, ◌-◌, ◌<◌, ◌≤◌}
use native.Mathlib.Omega.{arith}
use lib.Dec.{leb}
use lib.IntN.{ℤ, pos, negsuc, nat_abs}
use lib.ListN.{length, take, drop, replicate, length-map}
use borrow.Author.Tests.{le-leb, lt-leb}
use Rattle.std.specs.Prelude.{Result, Ok, Err, is_err}
use Rattle.std.proofs.lemmas.List.{drop-replicate}
use Rattle.common.specs.Array.{sides_of}
use Rattle.common.specs.Tested.{require, output_of, after, giving, Tested, Accepted, without_value}
use Rattle.common.specs.declared.Refusal.{Refusal}
use Rattle.common.specs.declared.Refusal.TheVariants.{WrongLength}
use Rattle.grgrid.specs.Grid.{size}
use Rattle.bzgrid.specs.BzGridAddresses.{padded}
use Rattle.class_sheet.specs.Sheet.{text, place_count}
use Rattle.class_sheet.specs.ClassSheet.{row, class_count, outcome_of, class_sheet}
use Rattle.class_sheet.proofs.ReadBack.{text-length, row-five, accepted-fits}
use Rattle.zone.specs.declared.Finished.{Finished}
use Rattle.zone_steps.specs.Steps.{Rooms, Lists, Outcome}
use Rattle.zone.specs.Chain.{wiped}
use Rattle.zone.proofs.Outcomes.{leaving}
use Rattle.zone_list.specs.List.{run_job, after_job}
use Rattle.zone_list.proofs.Listed.{chain-answered, lists-are, stopped, stepped, step-wiped}
use Rattle.sheet_print.specs.SheetText.{sheet_of, both_rooms, sheet_for, LaidSheet, job_sheet, lay_job}
use Rattle.sheet_print.specs.SheetView.{Sheeted}

-- ---- a text of k codes, in l places and in n
module _ (t : List ℕ) {k : ℕ} (ek : k ≡ length t) where
  module _ {l m n : ℕ} (el : l ≡ m) where
    pub rooms-there : k ≤ l → k ≤ n → Accepted ≡ both_rooms t m n
    rooms-there h i = sym (ap₂ (λ a b. after (require a WrongLength Accepted) (require b WrongLength Accepted)) (le-leb (length t) m (omega arith)) (le-leb (length t) n (omega arith)))

    pub rooms-refused : (l < k) ⊎ ((k ≤ l) × (n < k)) → Err WrongLength ≡ both_rooms t m n
    rooms-refused (inl h) = sym (ap (λ a. after (require a WrongLength Accepted) (require (leb (length t) n) WrongLength Accepted)) (lt-leb (length t) m (omega arith)))
    rooms-refused (inr h) = sym (ap₂ (λ a b. after (require a WrongLength Accepted) (require b WrongLength Accepted)) (le-leb (length t) m (omega (arith, h.0))) (lt-leb (length t) n (omega (arith, h.1))))

  -- written before -1
  pub laid-whole : (m : ℕ) {x y : List ℤ} → x ≡ map pos t → y ≡ replicate m (negsuc 0) → x ++ drop k y ≡ padded (map pos t) m
  laid-whole m ex ey =
      ap₂ (λ x y. x ++ drop k y) ex ey ∙ ap (λ l. map pos t ++ l) (drop-replicate k m (negsuc 0) ∙ ap (λ k. replicate (m - k) (negsuc 0)) (ek ∙ sym (length-map t pos)))

-- ---- a list with a sheet, by what stands for the number of its classes
module _ {f : Finished} {classes triplets : List ℤ} (s : Sheeted f classes triplets) {u : ℤ} (eu : u ≡ f.num_ir) where
  abbrev C : List ℤ
  C = take (size (sides_of f.d)) classes

  abbrev T : List ℤ
  T = take (nat_abs f.num_ir * 3) triplets

  abbrev places : ℕ
  places = place_count (nat_abs f.num_ir)

  pub sheet-long : {k : ℕ} → k ≡ place_count (nat_abs u) → k ≡ length (sheet_of f classes triplets)
  unfolding sheet_of
  sheet-long e = e ∙ ap (λ u. place_count (nat_abs u)) eu ∙ sym (text-length (row C T) (row-five C T) (class_count C) (accepted-fits C T places s.fits) ∙ ap place_count s.counted)

  pub sheet-laid : {p k : ℕ} → p ≡ size (sides_of f.d) → k ≡ place_count (nat_abs u) → {a : Tested} {x : List ℤ} → outcome_of a x ≡ class_sheet (take p classes) (take (nat_abs u * 3) triplets) k → x ≡ map pos (sheet_of f classes triplets)
  unfolding class_sheet sheet_of
  sheet-laid ep ek e =
      ap (λ o. o.sheet) (e ∙ (λ i. class_sheet (take (ep i) classes) (take (nat_abs (eu i) * 3) triplets) ((ek ∙ ap (λ u. place_count (nat_abs u)) eu) i)))
      ∙ ap (λ t. output_of t places (map pos (text (row C T) (class_count C)))) s.fits

-- ---- a job
module _ (b : List ℕ) (r : Rooms) (m n : ℕ) where
  abbrev with-sheet : Outcome ℕ → List ℤ → LaidSheet
  with-sheet o s = record { answer = o.answer; addresses = o.addresses; map = o.map; grg = o.grg; lists = o.lists; sheet = s }

  laid : {o : Outcome ℕ} → o ≡ after_job (both_rooms (job_sheet b r) m n) (length (job_sheet b r)) r (run_job b r) → {s : List ℤ} → s ≡ sheet_for (without_value o.answer) (job_sheet b r) m → with-sheet o s ≡ lay_job b r m n
  unfolding lay_job
  laid o es = λ i. with-sheet (o i) ((es ∙ ap (λ o. sheet_for (without_value o.answer) (job_sheet b r) m) o) i)

  pub laid-refused : {c : Refusal} {x y z : List ℤ} {l : Lists} → leaving (Err c) x y z l ≡ run_job b r → {a : Result ℕ Refusal} → a ≡ Err c → {s : List ℤ} → s ≡ replicate m (negsuc 0)
      → with-sheet (leaving a x y z l) s ≡ lay_job b r m n
  laid-refused o e es = laid (stopped b r (both_rooms (job_sheet b r) m n) (length (job_sheet b r)) o e) (es ∙ ap (λ a. sheet_for (without_value a) (job_sheet b r) m) (sym e))

  module _ {f : Finished} {x y z : List ℤ} {l : Lists} (o : leaving (Ok f) x y z l ≡ run_job b r) {a : Result ℕ Refusal}
      (e : a ≡ giving (both_rooms (sheet_of f l.classes l.triplets) m n) (length (sheet_of f l.classes l.triplets))) {s : List ℤ} (es : s ≡ sheet_for (without_value a) (sheet_of f l.classes l.triplets) m) where
    sheet-is : sheet_of f l.classes l.triplets ≡ job_sheet b r
    unfolding job_sheet
    sheet-is = λ i. sheet_of ((chain-answered b r o).0 i) (lists-are b r o i).classes (lists-are b r o i).triplets

    answer-is : a ≡ giving (both_rooms (job_sheet b r) m n) (length (job_sheet b r))
    answer-is = e ∙ ap (λ t. giving (both_rooms t m n) (length t)) sheet-is

    places-are : s ≡ sheet_for (without_value a) (job_sheet b r) m
    places-are = es ∙ ap (λ t. sheet_for (without_value a) t m) sheet-is

    pub laid-told : is_err a ≡ false → with-sheet (leaving a x y z l) s ≡ lay_job b r m n
    laid-told h = laid (stepped b r (both_rooms (job_sheet b r) m n) (length (job_sheet b r)) o answer-is h) places-are

    pub laid-wiped : is_err a ≡ true → {x' y' z' : List ℤ} {l' : Lists} → x' ≡ replicate r.addresses (negsuc 0) → y' ≡ replicate r.map (negsuc 0) → z' ≡ replicate r.grg (negsuc 0) → l' ≡ wiped r
        → with-sheet (leaving a x' y' z' l') s ≡ lay_job b r m n
    laid-wiped h ex ey ez el = laid (step-wiped b r (both_rooms (job_sheet b r) m n) (length (job_sheet b r)) o answer-is h ex ey ez el) places-are
