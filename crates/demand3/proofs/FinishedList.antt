-- Demand 3, whole: from what the five accepted calls left, and the four conditions on the list, all that is said of the finished list.
use Rattle.common.specs.Array.{matrices}
use Rattle.grgrid.specs.MatrixGroup.{MatrixGroup}
use Rattle.recip_rotations.specs.PointGroup.{with_negatives}
use Rattle.demand3.specs.FinishedList.{Calls, FinishedList, Demand3}
use Rattle.demand3.proofs.FinishedTriplets.{finished-triplets}
use Rattle.demand3.proofs.FinishedClasses.{every-number, one_number, lowest-number, lowest-rise, lowest-each}
use Rattle.recip_rotations.proofs.Told.{joined-group}

pub demand-3 : (c : Calls) → Demand3 c
demand-3 c =
    let t = finished-triplets c (every-number c) in
    record {
      every = record { full = every-number c; rising = lowest-rise c; as_many = t.0; cells_too = t.1; best = t.2 };
      true-classes = λ g. record { same_number = one_number c g; lowest = lowest-number c g; one_each = lowest-each c g };
    }

pub finished-list : (c : Calls) → MatrixGroup (with_negatives c.time_reversal (matrices c.list)) → FinishedList c
finished-list c g = let d = demand-3 c in record { every = d.every; true-classes = d.true-classes g }

-- where the list itself meets the conditions
pub finished-list-of-group : (c : Calls) → MatrixGroup (matrices c.list) → FinishedList c
finished-list-of-group c m = finished-list c (joined-group c.time_reversal m)
