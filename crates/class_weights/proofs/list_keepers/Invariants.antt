use Prim.Native.Nat.{◌≤◌}
use lib.ListN.{length}
use Rattle.common.specs.Array.{vector_of}
use Rattle.grgrid.specs.Sides.{sides}
use Rattle.class_weights.proofs.KeepersWalk.{Keeping}
use Rattle.class_weights.proofs.list_keepers.Given as goal

abbrev pub invariant-loop-i : goal.invariant-loop-i
invariant-loop-i l = (l.k ≤ l.i) × Keeping (sides l.point.g) (vector_of l.ps.v) l.rotations.list.now l.point.p (length l.initial.keepers) l.i l.k l.keepers
