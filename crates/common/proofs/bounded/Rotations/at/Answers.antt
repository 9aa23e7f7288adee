use Rattle.common.proofs.Sized.{rotation_within}
use Rattle.common.proofs.bounded.Rotations.at.Goals as goal

pub invariant_of-result : goal.invariant_of-result
invariant_of-result g c = record { within = rw c.matrix_at.ensures (rotation_within g.row.K c.args.self.now.list.now c.args.self.now.within _) }
