use Prim.Native.Nat.{◌/◌}
use lib.ListN.{length}
use Rattle.common.specs.FloatMatrix.{float_vector, float_matrix}
use Rattle.transform_rotations.specs.Code.Steps.{transform_by}
use Rattle.transform_rotations.proofs.Turns.{Turned}
use Rattle.transform_rotations.proofs.transform_each.Given as goal

abbrev pub invariant-loop-n : goal.invariant-loop-n
invariant-loop-n l =
    let g = transform_by (float_matrix l.q_inv) (float_matrix l.q) (float_vector l.d) in
    Turned g l.rotations.list.now (length l.rotations.list.now / 9) l.n l.out
