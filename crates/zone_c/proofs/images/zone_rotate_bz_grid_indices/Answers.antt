use mathlib.Core.Path.{sym, ◌∙◌}
use mir.Facts.{to_z-of_z}
use borrow.Author.Rules.{rules}
use Rattle.answers.proofs.Entries.{three-entries}
use Rattle.zone_c.proofs.images.zone_rotate_bz_grid_indices.Goals as goal

pub returns : goal.returns
returns c =
    let s = c.args in
    let h = sym c.burst_lengths.ensures ∙ c.if-not-burst_lengths.false in
    let d = c.row_at.ensures ∙ three-entries s.d.now (search (h, rules)) in
    let ps = c.row_at-2.ensures ∙ three-entries s.ps.now (search (h, rules)) in
    let o = rw (to_z-of_z c.ranges.bz_grid_type, c.matrix_at.ensures, d, ps, c.table_at.ensures) at c.rotate_bz_grid_indices.ensures in
    search rules
