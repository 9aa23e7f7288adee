use lib.Dec.{lit≤}
use Rattle.common.specs.Array.{matrix_of}
use Rattle.common.proofs.Sized.{apply-fits}
use Rattle.triplet_grid.proofs.carried.Goals as goal

pub matvec_ii-requires : goal.matvec_ii-requires
matvec_ii-requires c = apply-fits 100000 10000000000000 (matrix_of c.args.rotation.m) c.args.rotation.within c.args.address.sized (lit≤ tt)
