use mathlib.Core.Path.{◌∙◌}
use borrow.Author.Rules.{rules}
use Rattle.answers.proofs.Entries.{three-entries}
use Rattle.zone_c.proofs.grid.zone_ir_grid_map.Goals as goal

pub returns : goal.returns
returns c =
    let d = c.row_at.ensures ∙ three-entries c.args.d.now (search rules) in
    let ps = c.row_at-2.ensures ∙ three-entries c.args.ps.now (search rules) in
    let o = rw (d, ps) at c.ir_grid_map.ensures in
    search rules
