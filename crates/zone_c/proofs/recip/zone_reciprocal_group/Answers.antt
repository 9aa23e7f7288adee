use mathlib.Core.Path.{sym, subst}
use Prim.Native.Nat.{◌≤◌}
use lib.ListN.{length}
use Rattle.recip_rotations.specs.PointGroup.{PointGroup, count_of}
use Rattle.rotation_group.proofs.Outcome.{count_small}
use Rattle.zone_c.proofs.recip.zone_reciprocal_group.Goals as goal

pub tell_group-requires : goal.tell_group-requires
tell_group-requires c =
    let a = c.args in
    let few = count_small a.rotations.now a.time_reversal (length a.out.now) in
    subst (λ (o : PointGroup). count_of o.answer ≤ 48) (sym c.reciprocal_group-answer.ensures) few
