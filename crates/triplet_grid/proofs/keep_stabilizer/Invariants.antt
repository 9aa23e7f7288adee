use Rattle.grgrid.specs.Sides.{sides}
use Rattle.triplet_grid.proofs.Keeping.{Front}
use Rattle.triplet_grid.proofs.keep_stabilizer.Given as goal

abbrev pub invariant-loop-n : goal.invariant-loop-n
invariant-loop-n l = Front (sides l.q0.g) l.q0.p l.initial.group l.n l.kept l.group
