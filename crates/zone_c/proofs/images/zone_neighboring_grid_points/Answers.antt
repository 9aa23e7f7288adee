use mathlib.Core.Path.{◌∙◌}
use mir.Facts.{to_z-of_z}
use borrow.Author.Rules.{rules}
use Rattle.answers.proofs.Entries.{three-entries}
use Rattle.zone_c.proofs.images.zone_neighboring_grid_points.Goals as goal

pub returns : goal.returns
returns c =
    let d = c.row_at.ensures ∙ three-entries c.args.d.now c.if-d-ne3.false in
    let o = rw (to_z-of_z c.ranges.bz_grid_type, d, c.table_at.ensures) at c.neighboring_grid_points_many.ensures in
    search rules
