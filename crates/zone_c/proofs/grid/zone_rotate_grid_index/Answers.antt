use mathlib.Core.Path.{◌∙◌}
use mir.Facts.{to_z-of_z}
use borrow.Author.Rules.{rules}
use Rattle.answers.proofs.Entries.{three-entries}
use Rattle.answers.proofs.ToldFits.{carried-fits}
use Rattle.zone_c.proofs.grid.zone_rotate_grid_index.Goals as goal

pub tell_folded-requires-clause-index_fits : goal.tell_folded-requires-clause-index_fits
tell_folded-requires-clause-index_fits c = carried-fits _ _ _ _ _ c.rotate_grid_index.ensures

pub returns : goal.returns
returns c =
    let d = c.row_at.ensures ∙ three-entries c.args.d.now (search rules) in
    let ps = c.row_at-2.ensures ∙ three-entries c.args.ps.now (search rules) in
    let o = rw (to_z-of_z c.ranges.point, c.matrix_at.ensures, d, ps) at c.rotate_grid_index.ensures in
    search rules
