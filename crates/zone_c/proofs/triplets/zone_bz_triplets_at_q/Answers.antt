use mathlib.Core.Path.{sym, ◌∙◌}
use mir.Facts.{to_z-of_z}
use borrow.Author.Rules.{rules}
use Rattle.answers.proofs.Entries.{three-entries}
use Rattle.zone_c.proofs.triplets.zone_bz_triplets_at_q.Goals as goal

pub lattice_at-requires : goal.lattice_at-requires
lattice_at-requires c = search rules

pub returns : goal.returns
returns c =
    let s = c.args in
    let h = sym c.triplet_lengths.ensures ∙ c.if-not-triplet_lengths.false in
    let d = c.row_at.ensures ∙ three-entries s.d.now (search (h, rules)) in
    let o = rw (to_z-of_z c.ranges.q0, to_z-of_z c.ranges.bz_grid_type, d, c.matrix_at.ensures, c.lattice_at.ensures, c.table_at.ensures) at c.bz_triplets_at_q.ensures in
    search rules
