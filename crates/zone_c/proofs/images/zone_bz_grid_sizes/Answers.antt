use mathlib.Core.Path.{sym, ◌∙◌}
use mir.Facts.{to_z-of_z}
use borrow.Author.Rules.{rules}
use Rattle.answers.proofs.Entries.{three-entries}
use Rattle.answers.proofs.ToldFits.{sizes-fit}
use Rattle.zone_c.proofs.images.zone_bz_grid_sizes.Goals as goal

pub row_at-requires-2 : goal.row_at-requires-2
row_at-requires-2 c = search rules

pub lattice_at-requires : goal.lattice_at-requires
lattice_at-requires c = search rules

pub tell_sizes-requires-clause-fact_2 : goal.tell_sizes-requires-clause-fact_2
tell_sizes-requires-clause-fact_2 c = sizes-fit _ _ _ _ _ _ c.bz_grid_sizes.ensures

pub returns : goal.returns
returns c =
    let s = c.args in
    let d = c.row_at.ensures ∙ three-entries s.d.now (search rules) in
    let ps = c.row_at-2.ensures ∙ three-entries s.ps.now (search rules) in
    let o = rw (to_z-of_z c.ranges.bz_grid_type, d, c.matrix_at.ensures, ps, c.lattice_at.ensures) at c.bz_grid_sizes.ensures in
    search rules

pub tell_sizes-requires-clause-fact_1 : goal.tell_sizes-requires-clause-fact_1
tell_sizes-requires-clause-fact_1 c = let h = sym c.image_lengths.ensures ∙ c.if-not-image_lengths.false in search (h, rules)
