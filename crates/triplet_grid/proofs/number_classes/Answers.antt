use mathlib.Core.Path.{◌∙◌, ap₂}
use mathlib.Core.List.{map}
use Prim.Native.Nat.{◌/◌}
use native.Mathlib.Nat.{div-mul-le_self}
use lib.IntN.{pos}
use lib.ListN.{length}
use borrow.Author.Rules.{rules}
use Rattle.common.specs.Array.{vector_of}
use Rattle.grgrid.specs.Sides.{sides}
use Rattle.grgrid.specs.ClassMap.{class_map_of}
use Rattle.triplet_grid.specs.IrTriplets.{map_q_of}
use Rattle.triplet_grid.proofs.Keeping.{front-room, front-part, front-matrices, front-within}
use Rattle.triplet_grid.proofs.number_classes.Goals as goal

pub overflow_mul-rotations : goal.overflow_mul-rotations
overflow_mul-rotations c =
    let s = c.args in
    let n = length s.group.now in
    let h = front-room (sides s.q0.g) s.q0.p s.group.now (n / 9) c.keep_stabilizer-kept.ensures.value (div-mul-le_self n 9) in
    search rules

pub slice_bounds-rotations-end : goal.slice_bounds-rotations-end
slice_bounds-rotations-end c =
    let s = c.args in
    let n = length s.group.now in
    let h = front-room (sides s.q0.g) s.q0.p s.group.now (n / 9) c.keep_stabilizer-kept.ensures.value (div-mul-le_self n 9) in
    search rules

pub slice_bounds-rotations-end-2 : goal.slice_bounds-rotations-end-2
slice_bounds-rotations-end-2 c =
    let s = c.args in
    let n = length s.group.now in
    let h = front-room (sides s.q0.g) s.q0.p s.group.now (n / 9) c.keep_stabilizer-kept.ensures.value (div-mul-le_self n 9) in
    search rules

pub invariant_of-rotations : goal.invariant_of-rotations
invariant_of-rotations c =
    let s = c.args in
    let k = c.keep_stabilizer-kept.ensures in
    record { within = rw (front-part (sides s.q0.g) s.q0.p s.group.now (length s.group.now / 9) k.value k.group_after) (front-within (sides s.q0.g) s.q0.p s.group.now (length s.group.now / 9) c.requires.within) }

pub returns : goal.returns
unfolding map_q_of
returns c =
    let s = c.args in
    let k = c.keep_stabilizer-kept.ensures in
    c.number_points.ensures ∙ ap₂ (λ ps l. map pos (class_map_of (sides s.q0.g) (vector_of ps) l)) c.shift.ensures (front-matrices (sides s.q0.g) s.q0.p s.group.now (length s.group.now / 9) k.value k.group_after)
