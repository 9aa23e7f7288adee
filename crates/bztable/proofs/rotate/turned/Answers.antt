use lib.Dec.{lit≤}
use Rattle.common.specs.Array.{matrix_of}
use Rattle.common.proofs.Sized.{apply-fits, apply-sized}
use Rattle.bztable.proofs.rotate.turned.Goals as goal

pub matvec_ii-requires : goal.matvec_ii-requires
matvec_ii-requires c = let m = c.args.rotation in apply-fits 100000 20000000000001 (matrix_of m.m) m.within c.double_grid_address-doubled.result.sized (lit≤ tt)

pub halve_address-requires : goal.halve_address-requires
halve_address-requires c = let m = c.args.rotation in rw c.matvec_ii.ensures (apply-sized 100000 20000000000001 (matrix_of m.m) m.within c.double_grid_address-doubled.result.sized (lit≤ tt))
