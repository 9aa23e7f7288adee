use Rattle.rotation_group.proofs.Small.{small-det}
use Rattle.rotation_group.proofs.members.is_unit.Goals as goal

pub det_i-requires : goal.det_i-requires
det_i-requires c = small-det _ c.at.result.within
