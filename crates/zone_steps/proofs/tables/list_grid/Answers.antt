use mathlib.Core.Path.{◌≡◌, ◌∙◌, ap}
use borrow.Author.Rules.{rules}
use Rattle.std.specs.Prelude.{Err}
use Rattle.grgrid.specs.Grid.{size}
use Rattle.zone_steps.specs.StepsView.{input_grid}
use Rattle.zone_steps.proofs.ListedGrid.{no_room, images-refused, grid-tested, grid-listed}
use Rattle.zone_steps.proofs.tables.list_grid.Goals as goal

pub returns-then-classes-n-clause-value : goal.returns-then-classes-n-clause-value
returns-then-classes-n-clause-value c = no_room (input_grid c.args.input.now) c.args.ps _ (c.points-n.ensures ∙ ap size c.grid_of.ensures) c.if-classes-n.true

pub returns-in_err-built-clause-value : goal.returns-in_err-built-clause-value
returns-in_err-built-clause-value c =
    let s = c.args in
    let e : c.from_residual.result ≡ Err c.in_err-built.field-0.0 = search rules in
    e ∙ images-refused (input_grid s.input.now) s.ps _ (c.points-n.ensures ∙ ap size c.grid_of.ensures) c.if-classes-n.false (search rules) c.bz_grid_addresses.ensures c.in_err-built.was

pub returns-clause-value : goal.returns-clause-value
returns-clause-value c =
    let s = c.args in
    grid-tested (input_grid s.input.now) s.ps _ (c.points-n.ensures ∙ ap size c.grid_of.ensures) c.if-classes-n.false (search rules) c.bz_grid_addresses.ensures c.in_ok-built.was
    c.list_classes.ensures.value

pub returns-clause-tables : goal.returns-clause-tables
returns-clause-tables c k =
    let s = c.args in
    grid-listed (input_grid s.input.now) s.ps _ (c.points-n.ensures ∙ ap size c.grid_of.ensures) c.if-classes-n.false (search rules) c.bz_grid_addresses.ensures c.in_ok-built.was
    c.list_classes.ensures.value k (c.list_classes.ensures.lengths_after k)
