use mathlib.Core.Path.{◌≡◌, sym, ◌∙◌, ap}
use Prim.Native.Nat.{◌*◌, ◌-◌}
use lib.ListN.{length, take}
use borrow.Author.Rules.{rules}
use Rattle.std.specs.Prelude.{Err}
use Rattle.common.specs.Tested.{without_value}
use Rattle.zone_steps.proofs.CallSteps.{few-rotations, turned-tested, turned-list, turned-refused}
use Rattle.zone_steps.proofs.basis.turn_rotations.Goals as goal

pub returns-in_err-n-clause-result_value : goal.returns-in_err-n-clause-result_value
returns-in_err-n-clause-result_value c =
    let s = c.args in
    let e : c.from_residual.result ≡ Err c.in_err-n.field-0.0 = search rules in
    ap without_value e ∙ turned-refused s.rotations.now s.is_time_reversal c.reciprocal_group.ensures c.in_err-n.was s.d s.q

pub overflow_mul-n : goal.overflow_mul-n
overflow_mul-n c =
    let h = few-rotations c.args.rotations.now c.args.is_time_reversal c.reciprocal_group.ensures c.in_ok-n.was in
    search rules

pub slice_bounds-transform_rotations-end : goal.slice_bounds-transform_rotations-end
slice_bounds-transform_rotations-end c =
    let h = few-rotations c.args.rotations.now c.args.is_time_reversal c.reciprocal_group.ensures c.in_ok-n.was in
    search rules

pub returns-in_err-transform_rotations-clause-result_value : goal.returns-in_err-transform_rotations-clause-result_value
returns-in_err-transform_rotations-clause-result_value c =
    let s = c.args in
    let e : c.from_residual-in_err-transform_rotations.result ≡ Err c.in_err-transform_rotations.field-0.0 = search rules in
    ap without_value e
    ∙ sym (ap without_value c.in_err-transform_rotations.was)
    ∙ turned-tested s.rotations.now s.is_time_reversal c.reciprocal_group.ensures c.in_ok-n.was s.d s.q s.out.now c.requires c.transform_rotations.ensures

pub returns-clause-result_value : goal.returns-clause-result_value
returns-clause-result_value c =
    let s = c.args in
    sym (ap without_value c.in_ok-transform_rotations.was)
    ∙ turned-tested s.rotations.now s.is_time_reversal c.reciprocal_group.ensures c.in_ok-n.was s.d s.q s.out.now c.requires c.transform_rotations.ensures

pub returns-clause-turned_into : goal.returns-clause-turned_into
returns-clause-turned_into c =
    let s = c.args in
    let g = c.reciprocal_group.ensures in
    let t = c.transform_rotations in
    let m : length t.new.out ≡ length (take (c.in_ok-n.n * 9 - 0) s.out.now) = search rules in
    (few-rotations s.rotations.now s.is_time_reversal g c.in_ok-n.was, turned-list s.rotations.now s.is_time_reversal g c.in_ok-n.was s.d s.q s.out.now c.requires t.ensures m _)
