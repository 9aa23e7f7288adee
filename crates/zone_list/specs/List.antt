-- What a job file lists: the text of its finished list, or its refusal. Every lent place is told: after a refusal -1, and 0 in the text.
use Rattle.std.specs.Prelude.{◌≡◌, List, [], ◌∷◌, ℕ, ◌*◌, ◌≤◌, T, leb, ℤ, pos, nat_abs, length, take, replicate, Result, Ok, Err}
use Rattle.common.specs.declared.Refusal.{Refusal}
use Rattle.common.specs.Array.{rows, matrix_at, sides_of}
use Rattle.common.specs.Limits.{diagonal_fits}
use Rattle.common.specs.Tested.{require, Tested, Accepted, without_value}
use Rattle.common.specs.declared.Refusal.TheVariants.{WrongLength}
use Rattle.grgrid.specs.Grid.{size}
use Rattle.bzsearch.specs.SearchView.{float_nine}
use Rattle.job.specs.declared.job.Job as read
use Rattle.job.specs.Job.{job_of, accepted, rotations_of}
use Rattle.job.specs.Listing.{listing}
use Rattle.job.specs.Writing.{printed}
use Rattle.zone.specs.declared.Finished.{Finished}
use Rattle.zone_steps.specs.Steps.{Rooms, Lists, Outcome}
use Rattle.zone_steps.specs.StepsView.{rooms}
use Rattle.zone.specs.Chain.{Job, refused, outcome_of, chain_finished, finished_list}
use Rattle.zone.specs.ChainView.{job}

-- arrays for 256 points and 1,024 images
abbrev pub list_rooms : Rooms
list_rooms = rooms 3072 2305 1024 256 256 768 256 256 768

-- ---- a job
-- the chain's job in the bytes of a file that the reader accepts, without shift
unfoldable pub chain_job : List ℕ → Job
unfolding accepted rotations_of
chain_job b =
    let j = accepted b in
    let zero = pos 0 ∷ pos 0 ∷ pos 0 ∷ [] in
    job (rows (matrix_at j.a 0)) (rotations_of b) (rows (float_nine j.lattice)) zero j.time_reversal j.swapping j.grid_type j.q0

-- the reader's refusal comes before the chain's
abbrev pub after_reading : Result read.Job Refusal → Rooms → Outcome Finished → Outcome Finished
after_reading (Ok _) r o = o
after_reading (Err x) r o = refused r x

unfoldable pub run_job : List ℕ → Rooms → Outcome Finished
unfolding job_of chain_job finished_list
run_job b r = after_reading (job_of b) r (finished_list (chain_job b) r)

-- a step after it, with tests t and the value v; a refused job is left as it is
module _ {A : Type 0} (t : Tested) (v : A) (r : Rooms) where
  abbrev pub step_by : Result Finished Refusal → Outcome Finished → Outcome A
  step_by (Ok _) o = outcome_of t v r o
  step_by (Err x) o = record { answer = Err x; addresses = o.addresses; map = o.map; grg = o.grg; lists = o.lists }

  abbrev pub after_job : Outcome Finished → Outcome A
  after_job o = step_by o.answer o

-- ---- its text
-- the diagonal, the class of each point, the number of classes, the triplets
unfoldable pub text_of : Finished → (classes triplets : List ℤ) → List ℕ
unfolding listing
text_of f classes triplets = listing f.d (take (size (sides_of f.d)) classes) f.num_ir (take (nat_abs f.num_ir * 3) triplets)

-- in n places
abbrev pub room_tests : List ℕ → ℕ → Tested
room_tests text n = require (leb (length text) n) WrongLength Accepted

abbrev pub text_for : Tested → List ℕ → ℕ → List ℕ
text_for (Ok _) text n = (printed text n).text
text_for (Err r) text n = replicate n 0

pub record Listing : Type 0 where
  pub answer : Result ℕ Refusal
  pub addresses : List ℤ
  pub map : List ℤ
  pub grg : List ℤ
  pub lists : Lists
  pub text : List ℕ

module _ (b : List ℕ) (r : Rooms) where
  -- of an accepted chain
  unfoldable pub text : List ℕ
  unfolding chain_job chain_finished finished_list text_of
  text = let l = (finished_list (chain_job b) r).lists in text_of (chain_finished (chain_job b)) l.classes l.triplets

  -- the text has n places
  unfoldable pub list : ℕ → Listing
  unfolding run_job text printed
  list n =
      let j = run_job b r in
      let o = after_job (room_tests text n) (length text) r j in
      let t = text_for (without_value j.answer) text n in
      record { answer = o.answer; addresses = o.addresses; map = o.map; grg = o.grg; lists = o.lists; text = t }

-- ---- what the printing relies on
-- the lists hold a class for each point, and three numbers for each class
pub record Whole (f : Finished) (classes triplets : ℕ) : Type 0 where
  pub grid : T (diagonal_fits f.d)
  pub classes-in : size (sides_of f.d) ≤ classes
  pub k : ℕ
  pub counted : f.num_ir ≡ pos k
  pub few : k ≤ size (sides_of f.d)
  pub triplets-in : k * 3 ≤ triplets
