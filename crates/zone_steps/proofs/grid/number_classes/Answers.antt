use mathlib.Core.Path.{◌≡◌, sym, ◌∙◌, ap}
use borrow.Author.Rules.{rules}
use Rattle.std.specs.Prelude.{Err}
use Rattle.common.specs.Tested.{without_value}
use Rattle.zone_steps.specs.StepsView.{input_grid}
use Rattle.zone_steps.proofs.CallSteps.{classes-numbered}
use Rattle.zone_steps.proofs.grid.number_classes.Goals as goal

pub returns-in_err-ir_triplets_at_q : goal.returns-in_err-ir_triplets_at_q
returns-in_err-ir_triplets_at_q c =
    let e : c.from_residual.result ≡ Err c.in_err-ir_triplets_at_q.field-0.0 = search rules in
    classes-numbered (input_grid c.args.input.now) c.requires.grid_points c.args.classes.now c.args.points.now c.requires.room
    (search rules) c.ir_triplets_at_q.ensures (e ∙ sym (ap without_value c.in_err-ir_triplets_at_q.was))

pub returns : goal.returns
returns c =
    classes-numbered (input_grid c.args.input.now) c.requires.grid_points c.args.classes.now c.args.points.now c.requires.room
    (search rules) c.ir_triplets_at_q.ensures (sym (ap without_value c.in_ok-ir_triplets_at_q.was))
