use mathlib.Core.Path.{◌≡◌, refl, ◌∙◌, ap}
use mathlib.Core.List.{map}
use lib.IntN.{pos}
use borrow.Author.Rules.{rules}
use Rattle.std.specs.Prelude.{Err}
use Rattle.grgrid.specs.Sides.{sides}
use Rattle.triplet_grid.specs.IrTriplets.{map_q_of, classes_at}
use Rattle.triplet_grid.proofs.Reciprocal.{refused, group-told}
use Rattle.triplet_grid.proofs.classes_at.Goals as goal

pub returns-in_err-count-clause-value : goal.returns-in_err-count-clause-value
returns-in_err-count-clause-value c =
    let s = c.args in
    let h : c.from_residual.result ≡ Err c.in_err-count.field-0.0 = search rules in
    h ∙ refused s.rotations.now s.is_time_reversal c.requires.whole c.requires.limits 432 refl c.get_reciprocal_point_group.ensures c.in_err-count.was

pub overflow_mul-group : goal.overflow_mul-group
overflow_mul-group c =
    let s = c.args in
    let t = group-told s.rotations.now s.is_time_reversal c.requires.whole c.requires.limits 432 refl c.get_reciprocal_point_group.ensures c.in_ok-count.was in
    search rules

pub slice_bounds-group-end : goal.slice_bounds-group-end
slice_bounds-group-end c =
    let s = c.args in
    let t = group-told s.rotations.now s.is_time_reversal c.requires.whole c.requires.limits 432 refl c.get_reciprocal_point_group.ensures c.in_ok-count.was in
    search rules

pub slice_bounds-number_classes-end : goal.slice_bounds-number_classes-end
slice_bounds-number_classes-end c =
    let s = c.args in
    let t = group-told s.rotations.now s.is_time_reversal c.requires.whole c.requires.limits 432 refl c.get_reciprocal_point_group.ensures c.in_ok-count.was in
    search rules

pub number_classes-requires-clause-within : goal.number_classes-requires-clause-within
number_classes-requires-clause-within c =
    let s = c.args in
    (group-told s.rotations.now s.is_time_reversal c.requires.whole c.requires.limits 432 refl c.get_reciprocal_point_group.ensures c.in_ok-count.was).within

pub returns : goal.returns
unfolding classes_at
returns c =
    let s = c.args in
    let t = group-told s.rotations.now s.is_time_reversal c.requires.whole c.requires.limits 432 refl c.get_reciprocal_point_group.ensures c.in_ok-count.was in
    record { value = t.accepted; map_q_after = λ _. c.number_classes.ensures ∙ ap (λ l. map pos (map_q_of (sides s.q0.g) s.q0.p l)) t.read }
