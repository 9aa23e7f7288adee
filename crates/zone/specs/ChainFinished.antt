-- Demand 3 of the chain, said of what it answers and leaves: the five calls that it made, on the job's inputs, and what holds of their finished
-- list. The chain refuses a list that is no group, so this asks nothing of the list. Places past the told parts hold -1; the outputs have room
-- for n points.
use Rattle.std.specs.Prelude.{◌≡◌, List, ℕ, ◌*◌, ℤ, pos, length, Ok}
use Rattle.common.specs.Array.{items}
use Rattle.bzgrid.specs.BzGridAddresses.{padded}
use Rattle.demand3.specs.FinishedList.{Calls, lowest_points, FinishedList}
use Rattle.zone_steps.specs.Steps.{Lists, group, start_of}
use Rattle.zone.specs.Chain.{Job}
use Rattle.zone.specs.declared.Finished.{Finished}

pub record FinishedChain (j : Job) (answer : Finished) (addresses map : List ℤ) (l : Lists) (n : ℕ) : Type 0 where
  pub calls : Calls
  pub list-is : calls.list ≡ j.rotations
  pub matrix-is : calls.matrix ≡ j.matrix
  pub lattice-is : calls.lattice ≡ j.lattice
  pub shift_is : calls.shift ≡ j.shift
  pub type-is : calls.type ≡ j.type
  pub time-is : calls.time_reversal ≡ j.time_reversal
  pub swapping-is : calls.swappable ≡ j.swappable
  pub q0-is : pos calls.q0 ≡ j.q0
  -- what is transformed is the reciprocal group of the job's list
  pub rotations-are : calls.rotations ≡ group j.rotations j.time_reversal
  pub diagonal-is : answer.d ≡ items calls.d
  -- one class to each lowest point
  pub num_ir-is : answer.num_ir ≡ pos (length (lowest_points calls))
  -- the first image of q0 for type 2
  pub start_is : pos calls.start ≡ start_of (Ok calls.kind) calls.map j.q0
  pub addresses-are : addresses ≡ calls.addresses
  pub map_is : map ≡ calls.map
  pub classes-are : l.classes ≡ padded calls.classes n
  pub triplets-are : l.triplets ≡ padded calls.triplets (n * 3)
  pub cells-are : l.cells ≡ padded calls.cells (n * 3)
  pub finished : FinishedList calls
