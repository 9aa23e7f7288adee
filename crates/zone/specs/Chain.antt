-- The chain of calls: diagonalise, take the reciprocal rotations of a group, transform them, build the images, number the classes, choose the
-- triplets.
use Rattle.std.specs.Prelude.{Bool, ◌&&◌, List, ◌*◌, eqb, ℤ, pos, negsuc, replicate, Float, Result, Ok, Err}
use Rattle.std.specs.Float.{binary64}
use Rattle.std.specs.Float.Ieee.{of_int}
use Rattle.common.specs.Array.{matrix_of, matrix_at, rows}
use Rattle.common.specs.Tested.{require, after, told_of, without_value, Tested}
use Rattle.common.specs.declared.Refusal.{Refusal}
use Rattle.common.specs.declared.Refusal.TheVariants.{WrongLength}
use Rattle.snf3x3.specs.declared.Snf.{Snf}
use Rattle.snf3x3.specs.Snf3x3.{snf3x3}
use Rattle.snf3x3.specs.Written.{written}
use Rattle.zone_steps.specs.Steps.{Rooms, transformed, rotation_tests, Setting, Lists, Outcome, classified, count, listed}
use Rattle.zone.specs.declared.Finished.{Finished}

-- what a job asks for: the matrix A, the rotations, nine numbers each, and the rest
pub record Job : Type 0 where
  pub matrix : List (List ℤ)
  pub rotations : List ℤ
  pub lattice : List (List Float)
  pub shift : List ℤ
  pub time_reversal : Bool
  pub swappable : Bool
  pub type : ℤ
  pub q0 : ℤ

abbrev pub rooms_agree : Rooms → Bool
rooms_agree r = eqb r.points r.classes && (eqb r.triplets (r.classes * 3) && (eqb r.left r.classes && (eqb r.lengths r.classes && eqb r.cells (r.classes * 3))))

-- ---- the diagonal
-- and the change of basis: -1 everywhere where there is none
abbrev pub sides_in : Result Snf Refusal → List ℤ
sides_in = told_of (λ s. s.d_diag) 3

abbrev pub change_in : Result Snf Refusal → List (List ℤ)
change_in s = rows (matrix_at (told_of (λ s. s.q) 9 s) 0)

module _ (matrix : List (List ℤ)) where
  unfoldable pub diagonal : Result Snf Refusal
  diagonal = written (snf3x3 (matrix_of matrix))

  abbrev pub diagonal_tests : Tested
  diagonal_tests = without_value diagonal

  abbrev pub sides : List ℤ
  sides = sides_in diagonal

  abbrev pub change : List (List ℤ)
  change = change_in diagonal

-- ---- the chain
-- -1 in every place
abbrev pub wiped : Rooms → Lists
wiped r = record {
  classes = replicate r.classes (negsuc 0);
  points = replicate r.points (negsuc 0);
  triplets = replicate r.triplets (negsuc 0);
  left = replicate r.left (negsuc 0);
  lengths = replicate r.lengths (of_int binary64 (negsuc 0));
  cells = replicate r.cells (negsuc 0);
}

-- a refusal leaves that
abbrev pub refused : {A : Type 0} → Rooms → Refusal → Outcome A
refused r x = record {
  answer = Err x;
  addresses = replicate r.addresses (negsuc 0);
  map = replicate r.map (negsuc 0);
  grg = replicate r.grg (negsuc 0);
  lists = wiped r;
}

-- where tests pass, v and what o leaves
abbrev pub outcome_of : {A B : Type 0} → Tested → A → Rooms → Outcome B → Outcome A
outcome_of (Ok _) v r o = record { answer = Ok v; addresses = o.addresses; map = o.map; grg = o.grg; lists = o.lists }
outcome_of (Err x) v r o = refused r x

unfoldable pub grid_of : Job → Setting
unfolding diagonal transformed
grid_of j = record {
  d = sides j.matrix;
  q = change j.matrix;
  rotations = transformed j.rotations j.time_reversal (sides j.matrix) (change j.matrix);
  lattice = j.lattice;
  time_reversal = j.time_reversal;
  swappable = j.swappable;
  type = j.type;
  q0 = j.q0;
}

-- what it answers where its tests pass
unfoldable pub chain_finished : Job → Finished
unfolding diagonal grid_of classified
chain_finished j = record { d = sides j.matrix; num_ir = pos (count (grid_of j)) }

module _ (j : Job) (r : Rooms) where
  unfoldable pub chain_tests : Tested
  unfolding diagonal rotation_tests grid_of listed
  chain_tests =
      require (rooms_agree r) WrongLength
      (after (diagonal_tests j.matrix)
      (after (rotation_tests j.rotations j.time_reversal (sides j.matrix) (change j.matrix))
      (listed (grid_of j) j.shift r).answer))

  unfoldable pub finished_list : Outcome Finished
  unfolding chain_tests chain_finished grid_of listed
  finished_list = outcome_of chain_tests (chain_finished j) r (listed (grid_of j) j.shift r)
