use mathlib.Core.Path.{◌∙◌, ap}
use mir.Facts.{to_z-of_z}
use borrow.Author.Rules.{rules}
use Rattle.bzgrid.specs.declared.Built.{Built}
use Rattle.bzgrid.specs.BzGridAddresses.{BzGridAddresses}
use Rattle.answers.proofs.Entries.{three-entries}
use Rattle.answers.proofs.ToldFits.{filled-fit}
use Rattle.zone_c.proofs.images.zone_bz_grid_fill.Goals as goal

pub row_at-requires-2 : goal.row_at-requires-2
row_at-requires-2 c = search rules

pub lattice_at-requires : goal.lattice_at-requires
lattice_at-requires c = search rules

pub tell_built-requires-clause-fact_2 : goal.tell_built-requires-clause-fact_2
tell_built-requires-clause-fact_2 c =
    filled-fit _ _ _ _ _ _ _ _ _ _ (ap (λ (o : BzGridAddresses Built). o.answer) c.bz_grid_fill.ensures)

pub returns : goal.returns
returns c =
    let s = c.args in
    let d = c.row_at.ensures ∙ three-entries s.d.now (search rules) in
    let ps = c.row_at-2.ensures ∙ three-entries s.ps.now (search rules) in
    let n = c.row_at-3.ensures ∙ three-entries s.sizes.now (search rules) in
    let o = rw (to_z-of_z c.ranges.bz_grid_type, d, c.matrix_at.ensures, ps, c.lattice_at.ensures, n) at c.bz_grid_fill.ensures in
    search rules
