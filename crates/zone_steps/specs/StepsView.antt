-- What the steps of the chain answer and leave, as their contracts say it.
use Rattle.std.specs.Prelude.{◌≡◌, Bool, List, ◌++◌, ℕ, ◌*◌, ◌≤◌, ℤ, Float, length, take, drop, Result, Ok, Err}
use Rattle.common.specs.declared.Refusal.{Refusal}
use Rattle.common.specs.Tested.{Tested, without_value}
use Rattle.triplet_grid.specs.IrTriplets.{IrTriplets}
use Rattle.bz_triplets.specs.BzTriplets.{BzTriplets}
use Rattle.zone_steps.specs.declared.grid.Input.{Input}
use Rattle.zone_steps.specs.Steps.{Rooms, Setting, Lists, transformed}

-- ---- records from the parts that the code holds
abbrev pub grid : (d : List ℤ) (q : List (List ℤ)) (rotations : List ℤ) (lattice : List (List Float)) (time_reversal swappable : Bool) (type q0 : ℤ) → Setting
grid d q rotations lattice time_reversal swappable type q0 = record {
  d = d;
  q = q;
  rotations = rotations;
  lattice = lattice;
  time_reversal = time_reversal;
  swappable = swappable;
  type = type;
  q0 = q0;
}

abbrev pub input_grid : Input → Setting
input_grid g = grid g.d g.q g.rotations.now g.lattice g.is_time_reversal g.swappable g.bz_grid_type g.q0

-- with its rotations in its basis
abbrev pub turned_grid : Input → Setting
turned_grid g =
    grid g.d g.q (transformed g.rotations.now g.is_time_reversal g.d g.q) g.lattice g.is_time_reversal g.swappable g.bz_grid_type g.q0

abbrev pub lists : (classes points triplets left : List ℤ) → List Float → (cells : List ℤ) → Lists
lists classes points triplets left lengths cells = record {
  classes = classes;
  points = points;
  triplets = triplets;
  left = left;
  lengths = lengths;
  cells = cells;
}

abbrev pub rooms : (addresses map grg classes points triplets left lengths cells : ℕ) → Rooms
rooms addresses map grg classes points triplets left lengths cells = record {
  addresses = addresses;
  map = map;
  grg = grg;
  classes = classes;
  points = points;
  triplets = triplets;
  left = left;
  lengths = lengths;
  cells = cells;
}

-- those of what is lent
abbrev pub rooms_of : (addresses map grg classes points triplets left : List ℤ) → List Float → (cells : List ℤ) → Rooms
rooms_of addresses map grg classes points triplets left lengths cells =
    rooms (length addresses) (length map) (length grg) (length classes) (length points) (length triplets) (length left) (length lengths) (length cells)

-- ---- the rotations
-- the list of n rotations stands in the front
abbrev pub TurnedInto : (list out : List ℤ) → Result ℕ Refusal → Type 0
TurnedInto list out (Ok n) = (n * 9 ≤ 432) × (take (n * 9) out ≡ list)
TurnedInto list out (Err r) = Unit

-- ---- outputs of lengths that agree, with room for the classes and triplets of n points
pub record Agreed (classes points triplets left lengths cells : ℕ) : Type 0 where
  pub points-agree : points ≡ classes
  pub triplets-agree : triplets ≡ classes * 3
  pub left-agree : left ≡ classes
  pub lengths-agree : lengths ≡ classes
  pub cells-agree : cells ≡ classes * 3

pub record Roomy (n classes points triplets left lengths cells : ℕ) : Type 0 where
  pub fits : n ≤ classes
  pub agreed : Agreed classes points triplets left lengths cells

-- ---- what a call leaves, in the front of longer outputs
-- the classes of n points
pub record Numbered : Type 0 where
  pub answer : Tested
  pub classes : List ℤ
  pub points : List ℤ

abbrev pub numbered : IrTriplets → ℕ → (classes points : List ℤ) → Numbered
numbered o n classes points = record {
  answer = without_value o.answer;
  classes = o.map_triplets ++ drop n classes;
  points = o.map_q ++ drop n points;
}

-- k triplets
abbrev pub in_front : BzTriplets → ℕ → (triplets left : List ℤ) → List Float → (cells : List ℤ) → BzTriplets
in_front o k triplets left lengths cells = record {
  answer = o.answer;
  out = o.out ++ drop (k * 3) triplets;
  left = o.left ++ drop k left;
  left_length = o.left_length ++ drop k lengths;
  cells = o.cells ++ drop (k * 3) cells;
}
