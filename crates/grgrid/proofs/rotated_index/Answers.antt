use lib.Dec.{lit≤}
use Rattle.common.specs.Array.{matrix_of}
use Rattle.common.proofs.Sized.{apply-fits, apply-sized}
use Rattle.grgrid.proofs.rotated_index.Goals as goal

pub matvec_ii-requires : goal.matvec_ii-requires
matvec_ii-requires c = apply-fits 100000 20000000000001 (matrix_of c.args.rotation.m) c.args.rotation.within c.args.a.sized (lit≤ tt)

pub double_grid_index-requires : goal.double_grid_index-requires
double_grid_index-requires c = rw c.matvec_ii.ensures (apply-sized 100000 20000000000001 (matrix_of c.args.rotation.m) c.args.rotation.within c.args.a.sized (lit≤ tt))
