use mathlib.Core.Path.{◌≡◌}
use Prim.Native.Nat.{◌-◌, ◌/◌}
use lib.ListN.{length}
use Rattle.common.specs.Array.{matrices_from, matrices}
use Rattle.common.specs.Every.{every}
use Rattle.rotation_group.specs.Group.{row_inside}
use Rattle.rotation_group.specs.Code.Known.{Known}
use Rattle.rotation_group.proofs.products.products_inside.Given as goal

abbrev pub invariant-loop-m : goal.invariant-loop-m
invariant-loop-m l =
    let list = l.rotations.list.now in
    let keeps = row_inside (matrices list) in
    Known list l.known × (every keeps (matrices list) ≡ every keeps (matrices_from list l.m (length list / 9 - l.m)))
