use Rattle.common.specs.Array.{vector_of}
use Rattle.grgrid.specs.Sides.{sides}
use Rattle.bz_triplets.specs.BzTriplets.{triplet_of}
use Rattle.bz_triplets.specs.Code.TripletsView.{walk_by}
use Rattle.bz_triplets.proofs.ByClass.{Filled}
use Rattle.bz_triplets.proofs.classes.fill_triplets.Given as goal

abbrev pub invariant-loop-q1 : goal.invariant-loop-q1
invariant-loop-q1 l = Filled (triplet_of l.table.t (sides l.table.g) l.table.map.now (walk_by l.m l.table.addresses.now) (vector_of l.a0.v) l.q0.at) (sides l.table.g) l.class_map l.q1 l.at l.out l.left l.left_length l.cells
