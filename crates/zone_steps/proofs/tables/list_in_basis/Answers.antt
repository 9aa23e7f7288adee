use mathlib.Core.Path.{sym, ◌∙◌, ap}
use borrow.Author.Rules.{rules}
use Rattle.common.specs.Tested.{without_value}
use Rattle.zone_steps.specs.StepsView.{turned_grid}
use Rattle.zone_steps.proofs.ListedGrid.{basis-fits, in-basis}
use Rattle.zone_steps.proofs.tables.list_in_basis.Goals as goal

pub list_grid-requires-clause-fact_1 : goal.list_grid-requires-clause-fact_1
list_grid-requires-clause-fact_1 c = basis-fits c.args.input.now.rotations.now c.args.input.now.is_time_reversal c.args.input.now.d c.args.input.now.q c.turn_rotations.ensures.result_value c.in_ok-n.was

pub returns-clause-value : goal.returns-clause-value
returns-clause-value c =
    in-basis (turned_grid c.args.input.now) c.args.ps _ (search (c.in_ok-n.ensures.turned_into.1, rules)) (search rules) (search rules)
    (sym c.turn_rotations.ensures.result_value ∙ ap without_value c.in_ok-n.was) c.list_grid.ensures.value
