use mathlib.Core.Path.{sym, ◌∙◌, ap, ap₂, subst}
use mathlib.Core.List.{map}
use Prim.Native.Nat.{◌<◌}
use native.Mathlib.Omega.{arith}
use lib.IntN.{pos, nat_abs}
use lib.ListN.{length}
use mir.Syntax.{w64}
use mir.Facts.{to_z_pos, to_z-of_z}
use borrow.Author.Rules.{rules}
use Rattle.common.specs.Array.{vector_of, sides_of, matrices}
use Rattle.grgrid.specs.Grid.{size}
use Rattle.grgrid.specs.Sides.{sides}
use Rattle.grgrid.specs.ClassMap.{class_map_of, classes}
use Rattle.grgrid.proofs.Sizes.{grid-few}
use Rattle.class_weights.specs.Members.{weights as weights_of, members as members_of, keepers_of, padded}
use Rattle.class_weights.specs.ClassWeights.{rooms_of, weight_tests}
use Rattle.class_weights.proofs.Accepted.{call-accepted}
use Rattle.class_weights.proofs.Outcome.{counted, refused}
use Rattle.class_weights.proofs.LinkedClasses.{classes-few}
use Rattle.class_weights.proofs.KeepersWalk.{counted-few}
use Rattle.class_weights.proofs.class_weights.Goals as goal

pub grid_of-g-requires : goal.grid_of-g-requires
grid_of-g-requires c = (call-accepted c.weight_tests.ensures (to_z-of_z c.ranges.point) c.in-Ok.is).1.grid

pub weigh_classes-classes-requires : goal.weigh_classes-classes-requires
weigh_classes-classes-requires c =
    let a = (call-accepted c.weight_tests.ensures (to_z-of_z c.ranges.point) c.in-Ok.is).1 in
    let e = ap size (sym c.grid_of-g.ensures) in
    (a.weights ∙ e, a.members ∙ e)

pub shift-half-requires : goal.shift-half-requires
shift-half-requires c = (call-accepted c.weight_tests.ensures (to_z-of_z c.ranges.point) c.in-Ok.is).1.shift

pub invariant_of-list : goal.invariant_of-list
invariant_of-list c = record { within = (call-accepted c.weight_tests.ensures (to_z-of_z c.ranges.point) c.in-Ok.is).1.entries }

pub overflow_cast-classes : goal.overflow_cast-classes
overflow_cast-classes c =
    let g = c.grid_of-g.result in
    record { sfits = omega (arith, c.weigh_classes-classes.ensures.many, classes-few (sides g) (vector_of c.shift-half.result.v) (matrices c.args.rotations.now), grid-few g) }

pub overflow_cast-p : goal.overflow_cast-p
overflow_cast-p c =
    let a = (call-accepted c.weight_tests.ensures (to_z-of_z c.ranges.point) c.in-Ok.is).1 in
    let e = c.grid_of-g.ensures in
    let g = c.grid_of-g.result in
    rw (to_z-of_z c.ranges.point) (a.sign, record { fits = omega (arith, a.inside, ap size e, grid-few g) })

pub invariant_of-list_keepers : goal.invariant_of-list_keepers
invariant_of-list_keepers c =
    let a = (call-accepted c.weight_tests.ensures (to_z-of_z c.ranges.point) c.in-Ok.is).1 in
    record { inside = rw (to_z-of_z c.ranges.point) (subst (λ v. nat_abs c.args.point < size v) (sym c.grid_of-g.ensures) a.inside) }

pub list_keepers-count-requires : goal.list_keepers-count-requires
list_keepers-count-requires c = (call-accepted c.weight_tests.ensures (to_z-of_z c.ranges.point) c.in-Ok.is).1.keepers

pub overflow_cast-count : goal.overflow_cast-count
overflow_cast-count c = let h = counted-few c.args.rotations.now _ _ _ c.list_keepers-count.ensures.0 in search rules

pub returns-in-Ok : goal.returns-in-Ok
returns-in-Ok c =
    let s = c.args in
    let t = call-accepted c.weight_tests.ensures (to_z-of_z c.ranges.point) c.in-Ok.is in
    let ps = vector_of s.ps in
    let ms = matrices s.rotations.now in
    let n = size (sides_of s.d) in
    let e = c.grid_of-g.ensures in
    let f = ap vector_of c.shift-half.ensures in
    let q = ap nat_abs (to_z-of_z c.ranges.point) in
    let w = c.weigh_classes-classes.ensures in
    let k = c.list_keepers-count.ensures in
    let few = classes-few (sides c.grid_of-g.result) (vector_of c.shift-half.result.v) ms in
    let large = grid-few c.grid_of-g.result in
    let some = counted-few s.rotations.now _ _ _ k.0 in
    counted s.rotations.now s.d s.ps s.point (rooms_of (length s.weights.now) (length s.members.now) (length s.keepers.now)) t.0
    (to_z_pos w64 {n = c.weigh_classes-classes.result} (omega (arith, w.many)) ∙ ap pos (w.many ∙ ap₂ (λ d ps. classes d ps ms) e f))
    (to_z_pos w64 {n = c.list_keepers-count.result} (search rules) ∙ ap pos (k.0 ∙ (λ i. length (keepers_of (e i) (f i) ms (q i)))))
    (w.weights-are ∙ ap₂ (λ d ps. padded (size d) (weights_of (class_map_of d ps ms) (size d))) e f ∙ ap (λ k. padded k (weights_of (class_map_of (sides_of s.d) ps ms) n)) (sym t.1.weights))
    (w.members-are ∙ ap₂ (λ d ps. map pos (members_of (class_map_of d ps ms) (size d))) e f)
    (k.1 ∙ (λ i. padded (length s.keepers.now) (keepers_of (e i) (f i) ms (q i))))

pub returns-in-Err : goal.returns-in-Err
returns-in-Err c =
    let s = c.args in
    let r = rooms_of (length s.weights.now) (length s.members.now) (length s.keepers.now) in
    let t = sym (c.weight_tests.ensures ∙ ap (λ q. weight_tests s.rotations.now s.d s.ps q r) (to_z-of_z c.ranges.point)) ∙ c.in-Err.is in
    refused s.rotations.now s.d s.ps s.point r t (search rules) (c.fill.ensures.after (λ y k. k)) (c.fill-in-Err.ensures.after (λ y k. k)) (c.fill-in-Err-2.ensures.after (λ y k. k))
