use mathlib.Core.Path.{sym, subst}
use mathlib.Core.Bool.{true}
use Prim.Native.Nat.{◌≤◌}
use lib.ListN.{length}
use Rattle.recip_rotations.specs.PointGroup.{PointGroup, count_of}
use Rattle.recip_rotations.proofs.Room.{count_small}
use Rattle.zone_c.proofs.recip.zone_reciprocal_rotations.Goals as goal

pub tell_group-requires : goal.tell_group-requires
tell_group-requires c =
    let a = c.args in
    let few = count_small a.rotations.now a.time_reversal true (length a.out.now) in
    subst (λ (o : PointGroup). count_of o.answer ≤ 48) (sym c.reciprocal_rotations-answer.ensures) few
