-- The outcome of `list`, from those of its steps.
use mathlib.Core.Path.{◌≡◌, refl, sym, ◌∙◌, ap, ap₂, subst}
use mathlib.Core.Bool.{Bool, true, false, cond}
use mathlib.Core.List.{List, [], ◌∷◌, ◌++◌, map}
use Prim.Native.Nat.{ℕ, ◌*◌, ◌-◌, ◌≤◌, ◌<◌}
use native.Mathlib.Omega.{arith}
use lib.Dec.{leb, leb→le}
use lib.IntN.{ℤ, pos, negsuc, nat_abs}
use lib.Ieee.{Float}
use lib.Signed.{mag}
use lib.ListN.{length, take, replicate, length-replicate}
use Rattle.std.specs.Prelude.{Result, Ok, Err, is_err, Some, None}
use Rattle.std.specs.Option.{ok_or}
use Rattle.integer.proofs.Fits.{held, held-is}
use Rattle.integer.proofs.Test.{holds}
use Rattle.common.specs.Array.{rows, matrix_at, sides_of, matrices}
use Rattle.common.specs.Tested.{require, output_of, giving, Tested, Accepted, without_value}
use Rattle.common.specs.declared.Refusal.{Refusal}
use Rattle.common.specs.declared.Refusal.TheVariants.{WrongLength}
use Rattle.common.proofs.Tests.{passed, same-ok, not-accepted, refused-not-ok, both-accepted}
use Rattle.grgrid.specs.Grid.{size}
use Rattle.grgrid.specs.Own.{own_places}
use Rattle.grgrid.proofs.Accepted.{few-points}
use Rattle.grgrid.proofs.Numbers.{own-few}
use Rattle.bzsearch.specs.SearchView.{float_nine}
use Rattle.triplet_grid.specs.IrTriplets.{triplet_tests, classes_at, map_triplets_of}
use Rattle.triplet_grid.proofs.Swapping.{length-triplets}
use Rattle.job.specs.declared.job.Job as read
use Rattle.job.specs.Job.{word, job_of, accepted, rotations_of, rotations_written}
use Rattle.job.specs.Listing.{listing}
use Rattle.job.specs.Writing.{page, printed}
use Rattle.job.proofs.Sections.{sections}
use Rattle.job.proofs.Outcome.{read-job, told-rotations}
use Rattle.zone.specs.declared.Finished.{Finished}
use Rattle.zone_steps.specs.Steps.{Rooms, Setting, Lists, Outcome, rotation_tests, points_of, classified, class_map_of, count, listed}
use Rattle.zone.specs.Chain.{Job, rooms_agree, diagonal_tests, sides, change, grid_of, wiped, outcome_of, chain_finished, chain_tests, finished_list}
use Rattle.zone.specs.ChainView.{job}
use Rattle.zone_steps.proofs.ListedGrid.{rotations-fit}
use Rattle.zone.proofs.Outcomes.{leaving, tests-told, left-told, left-wiped}
use Rattle.zone.proofs.ChainWhole.{rooms-agreed}
use Rattle.zone_list.specs.List.{chain_job, after_reading, run_job, step_by, after_job, text_of, room_tests, text_for, Listing, text, list, Whole}

-- the end of a part that begins at 0
pub whole : (k : ℕ) → k - 0 ≡ k
whole k = omega arith

pub first-places : {k m : ℕ} (l : List ℤ) → k ≡ m → take (k - 0) l ≡ take m l
first-places {k} l e = ap (λ k. take k l) (whole k ∙ e)

-- ---- a job that was read
module _ (b : List ℕ) {j : read.Job} (e : job_of b ≡ Ok j) where
  counted : j.count ≡ word b 4
  unfolding accepted
  counted = ap (λ j. j.count) (read-job b e).1

  pub few-counted : j.count ≤ 192
  few-counted = subst (λ k. k ≤ 192) (sym counted) (sections b (read-job b e).0).few

  ej : j ≡ accepted b
  ej = (read-job b e).1

  rotations-are : {l : List ℤ} → l ≡ rotations_written b 1728 → take (9 * j.count - 0) l ≡ rotations_of b
  rotations-are {l} el = ap₂ take (whole (9 * j.count) ∙ ap (λ k. 9 * k) (counted)) el ∙ told-rotations b (read-job b e).0

  -- as it is handed to the chain, by numbers that stand for the type and q0
  pub same-job : {a : List (List ℤ)} → a ≡ rows (matrix_at j.a 0) → {l : List ℤ} → l ≡ rotations_written b 1728 → {lattice : List (List Float)} → lattice ≡ rows (float_nine j.lattice)
      → {u p : ℤ} → u ≡ j.grid_type → p ≡ j.q0 → job a (take (9 * j.count - 0) l) lattice (pos 0 ∷ pos 0 ∷ pos 0 ∷ []) j.time_reversal j.swapping u p ≡ chain_job b
  unfolding chain_job
  same-job ea er el eu ep = λ i. job ((ea ∙ ap (λ j. rows (matrix_at j.a 0)) ej) i) (rotations-are er i) ((el ∙ ap (λ j. rows (float_nine j.lattice)) ej) i) (pos 0 ∷ pos 0 ∷ pos 0 ∷ []) (ej i).time_reversal (ej i).swapping ((eu ∙ ap (λ j. j.grid_type) ej) i) ((ep ∙ ap (λ j. j.q0) ej) i)

-- ---- what the reader gives
module _ (b : List ℕ) (r : Rooms) where
  abbrev read-by : Result read.Job Refusal → Outcome Finished
  read-by j = after_reading j r (finished_list (chain_job b) r)

  pub job-ran : {j : read.Job} → job_of b ≡ Ok j → {g : Job} → g ≡ chain_job b → finished_list g r ≡ run_job b r
  unfolding run_job
  job-ran e eg = ap (λ g. finished_list g r) eg ∙ sym (ap read-by e)

  pub job-refused : {c : Refusal} → job_of b ≡ Err c → {x y z : List ℤ} {l : Lists} → x ≡ replicate r.addresses (negsuc 0) → y ≡ replicate r.map (negsuc 0) → z ≡ replicate r.grg (negsuc 0) → l ≡ wiped r
      → leaving (Err c) x y z l ≡ run_job b r
  unfolding run_job
  job-refused {c} e ex ey ez el = (λ i. leaving (Err c) (ex i) (ey i) (ez i) (el i)) ∙ sym (ap read-by e)

-- ---- the number of classes of a whole list, as it is held
module _ {f : Finished} {m n : ℕ} (w : Whole f m n) where
  few-own : w.k ≤ 65536
  few-own = let a = w.few in let b = few-points f.d w.grid in omega arith

  pub held-count : held f.num_ir ≡ f.num_ir
  held-count = held-is f.num_ir (subst (λ z. mag z < 0x8000000000000000) (sym w.counted) (let h = few-own in omega arith))

-- ---- a text in n places
pub text-answered : (t : List ℕ) (n : ℕ) → ok_or (printed t n).so_far WrongLength ≡ giving (room_tests t n) (length t)
unfolding printed
text-answered t n = go (leb (length t) n)
  where
    go : (v : Bool) → ok_or (cond v (page (t ++ replicate (n - length t) 0) (Some (length t))) (page (replicate n 0) None)).so_far WrongLength ≡ giving (require v WrongLength Accepted) (length t)
    go true = refl
    go false = refl

-- of a finished list, by what stands for the number of classes, and what is printed of the class map
pub same_text : (f : Finished) (classes triplets : List ℤ) {u : ℤ} → u ≡ f.num_ir → {points : List ℤ} → points ≡ take (size (sides_of f.d)) classes
    → listing f.d points u (take (nat_abs u * 3 - 0) triplets) ≡ text_of f classes triplets
unfolding text_of
same_text f classes triplets {u} eu ec = λ i. listing f.d (ec i) (eu i) (take ((whole (nat_abs u * 3) ∙ ap (λ u. nat_abs u * 3) eu) i) triplets)

-- ---- an accepted chain: the grid is within the limits, and its points and triplets are in the outputs
length-classes : (g : Setting) → length (class_map_of g) ≡ points_of g
unfolding classified
length-classes g = go (triplet_tests g.q0 g.d g.rotations g.time_reversal (points_of g) (points_of g))
  where
    here : List ℕ
    here = classes_at (nat_abs g.q0) (sides_of g.d) (matrices g.rotations) g.time_reversal

    go : (t : Tested) → length (output_of t (points_of g) (map pos (map_triplets_of g.swappable (sides_of g.d) (nat_abs g.q0) here))) ≡ points_of g
    go (Ok _) = length-triplets g.swappable (sides_of g.d) (nat_abs g.q0) here refl
    go (Err r) = length-replicate (points_of g) (negsuc 0)

few-classes : (g : Setting) → count g ≤ points_of g
few-classes g = subst (λ k. own_places (class_map_of g) (length (class_map_of g)) ≤ k) (length-classes g) (own-few (class_map_of g) (length (class_map_of g)))

module _ (j : Job) (r : Rooms) where
  pub whole-chain : chain_tests j r ≡ Accepted → Whole (chain_finished j) r.classes r.triplets
  unfolding chain_finished chain_tests listed grid_of
  whole-chain e =
      let a = passed (rooms_agree r) WrongLength _ e in
      let b = both-accepted (diagonal_tests j.matrix) _ a.1 in
      let c = both-accepted (rotation_tests j.rotations j.time_reversal (sides j.matrix) (change j.matrix)) _ b.1 in
      let g = grid_of j in
      let d = passed (leb (points_of g) r.classes) WrongLength _ c.1 in
      let n : points_of g ≤ r.classes = leb→le (points_of g) r.classes (holds d.0) in
      let k = few-classes g in
      let m = (rooms-agreed r a.0).triplets-agree in
      record { grid = rotations-fit j.rotations j.time_reversal (sides j.matrix) (change j.matrix) c.0; classes-in = n; k = count g; counted = refl; few = k; triplets-in = omega arith }

-- ---- a job that has run
module _ (b : List ℕ) (r : Rooms) where
  abbrev done : Tested → Outcome Finished
  done t = outcome_of t (chain_finished (chain_job b)) r (listed (grid_of (chain_job b)) (chain_job b).shift r)

  pub accepted-tests : without_value (run_job b r).answer ≡ Accepted → chain_tests (chain_job b) r ≡ Accepted
  unfolding run_job
  accepted-tests e = go (job_of b) e
    where
      go : (j : Result read.Job Refusal) → without_value (read-by b r j).answer ≡ Accepted → chain_tests (chain_job b) r ≡ Accepted
      go (Ok _) h = sym (tests-told (chain_finished (chain_job b)) r (listed (grid_of (chain_job b)) (chain_job b).shift r) (chain_tests (chain_job b) r)) ∙ h
      go (Err x) h = absurd (not-accepted h)

  module _ {f : Finished} {x y z : List ℤ} {l : Lists} (o : leaving (Ok f) x y z l ≡ run_job b r) where
    tests : chain_tests (chain_job b) r ≡ Accepted
    tests = accepted-tests (sym (ap (λ o. without_value o.answer) o))

    ran : leaving (Ok f) x y z l ≡ finished_list (chain_job b) r
    unfolding run_job
    ran = go (job_of b) o
      where
        go : (j : Result read.Job Refusal) → leaving (Ok f) x y z l ≡ read-by b r j → leaving (Ok f) x y z l ≡ finished_list (chain_job b) r
        go (Ok _) h = h
        go (Err c) h = absurd (refused-not-ok (sym (ap (λ o. o.answer) h)))

    pub chain-answered : (f ≡ chain_finished (chain_job b)) × (chain_tests (chain_job b) r ≡ Accepted)
    unfolding finished_list
    chain-answered = (same-ok (ap (λ o. o.answer) ran ∙ ap (λ t. (done t).answer) tests), tests)

    pub lists-are : l ≡ (finished_list (chain_job b) r).lists
    lists-are = ap (λ o. o.lists) ran

    pub whole-job : {m k : ℕ} → m ≡ r.classes → k ≡ r.triplets → Whole f m k
    whole-job {m} {k} em ek =
        let w = whole-chain (chain_job b) r tests in
        subst (λ g. Whole g m k) (sym chain-answered.0) (subst (λ m. Whole (chain_finished (chain_job b)) m k) (sym em) (subst (λ k. Whole (chain_finished (chain_job b)) r.classes k) (sym ek) w))

    text-is : text_of f l.classes l.triplets ≡ text b r
    unfolding text
    text-is = λ i. text_of (chain-answered.0 i) (lists-are i).classes (lists-are i).triplets

  -- ---- a step after it
  module _ {A : Type 0} (t : Tested) (v : A) {a : Result A Refusal} where
    pub stopped : {c : Refusal} {x y z : List ℤ} {l : Lists} → leaving (Err c) x y z l ≡ run_job b r → a ≡ Err c → leaving a x y z l ≡ after_job t v r (run_job b r)
    stopped {x = x} {y} {z} {l} o e = ap (λ a. leaving a x y z l) e ∙ ap (after_job t v r) o

    module _ {f : Finished} {x y z : List ℤ} {l : Lists} (o : leaving (Ok f) x y z l ≡ run_job b r) (e : a ≡ giving t v) where
      pub stepped : is_err a ≡ false → leaving a x y z l ≡ after_job t v r (run_job b r)
      stepped h = left-told v r (leaving (Ok f) x y z l) t e h ∙ ap (after_job t v r) o

      pub step-wiped : is_err a ≡ true → {x' y' z' : List ℤ} {l' : Lists} → x' ≡ replicate r.addresses (negsuc 0) → y' ≡ replicate r.map (negsuc 0) → z' ≡ replicate r.grg (negsuc 0) → l' ≡ wiped r
          → leaving a x' y' z' l' ≡ after_job t v r (run_job b r)
      step-wiped h ex ey ez el = left-wiped v r (leaving (Ok f) x y z l) t e h ex ey ez el ∙ ap (after_job t v r) o

  -- a step that gave a value
  pub step-given : {A : Type 0} (t : Tested) (v : A) {k : A} → Ok k ≡ (after_job t v r (run_job b r)).answer → (t ≡ Accepted) × (k ≡ v)
  step-given t v {k} e = go (run_job b r).answer t e
    where
      go : (a : Result Finished Refusal) (t : Tested) → Ok k ≡ (step_by t v r a (run_job b r)).answer → (t ≡ Accepted) × (k ≡ v)
      go (Ok _) (Ok _) e = (refl, same-ok e)
      go (Ok _) (Err c) e = absurd (refused-not-ok (sym e))
      go (Err c) t e = absurd (refused-not-ok (sym e))

  -- ---- the listing, in n places
  module _ (n : ℕ) where
    abbrev step : Outcome ℕ
    step = after_job (room_tests (text b r) n) (length (text b r)) r (run_job b r)

    abbrev with-text : Outcome ℕ → List ℕ → Listing
    with-text o t = record { answer = o.answer; addresses = o.addresses; map = o.map; grg = o.grg; lists = o.lists; text = t }

    abbrev text-by : Outcome Finished → List ℕ
    text-by o = text_for (without_value o.answer) (text b r) n

    pub listed-refused : {c : Refusal} {x y z : List ℤ} {l : Lists} (o : leaving (Err c) x y z l ≡ run_job b r) {a : Result ℕ Refusal} → a ≡ Err c → {t : List ℕ} → t ≡ replicate n 0
        → with-text (leaving a x y z l) t ≡ list b r n
    unfolding list
    listed-refused o e et = λ i. with-text (stopped (room_tests (text b r) n) (length (text b r)) o e i) ((et ∙ ap text-by o) i)

    module _ {f : Finished} {x y z : List ℤ} {l : Lists} (o : leaving (Ok f) x y z l ≡ run_job b r) {a : Result ℕ Refusal} (e : a ≡ giving (room_tests (text_of f l.classes l.triplets) n) (length (text_of f l.classes l.triplets)))
        {t : List ℕ} (et : t ≡ (printed (text_of f l.classes l.triplets) n).text) where
      answer-is : a ≡ giving (room_tests (text b r) n) (length (text b r))
      answer-is = e ∙ ap (λ t. giving (room_tests t n) (length t)) (text-is o)

      written : t ≡ text-by (run_job b r)
      written = et ∙ ap (λ t. (printed t n).text) (text-is o) ∙ ap text-by o

      pub listed-told : is_err a ≡ false → with-text (leaving a x y z l) t ≡ list b r n
      unfolding list
      listed-told h = λ i. with-text (stepped (room_tests (text b r) n) (length (text b r)) o answer-is h i) (written i)

      pub listed-wiped : is_err a ≡ true → {x' y' z' : List ℤ} {l' : Lists} → x' ≡ replicate r.addresses (negsuc 0) → y' ≡ replicate r.map (negsuc 0) → z' ≡ replicate r.grg (negsuc 0) → l' ≡ wiped r
          → with-text (leaving a x' y' z' l') t ≡ list b r n
      unfolding list
      listed-wiped h ex ey ez el = λ i. with-text (step-wiped (room_tests (text b r) n) (length (text b r)) o answer-is h ex ey ez el i) (written i)
