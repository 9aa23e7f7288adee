use mir.Facts.{to_z-of_z}
use Rattle.std.proofs.Common.{length, ◌∙◌, ap}
use Rattle.std.specs.Prelude.{Some}
use Rattle.bzgrid.specs.BzGridAddresses.{tables_told, bz_grid_fill}
use Rattle.bzgrid.proofs.bz_grid_fill.Goals as goal

pub returns : goal.returns
unfolding bz_grid_fill
returns c =
    let a = c.args in
    c.tables_told.ensures ∙ ap (λ t. tables_told a.d a.q a.ps a.lattice t (Some a.sizes) (length a.addresses.now) (length a.map.now) (length a.grg.now)) (to_z-of_z c.ranges.bz_grid_type)
