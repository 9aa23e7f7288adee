use mathlib.Core.Path.{refl, sym, ◌∙◌}
use mir.Facts.{to_z-of_z}
use Rattle.integer.proofs.Test.{holds}
use Rattle.integer.proofs.Fits.{held_of}
use Rattle.common.proofs.Tests.{first_holds}
use Rattle.integer_matrix.proofs.sums_fit.Goals as goal

pub returns-then-add_fits : goal.returns-then-add_fits
returns-then-add_fits c =
    let x = to_z-of_z c.ranges.x in
    let y = to_z-of_z c.ranges.y in
    let two = sym (rw (x, y) at c.add_fits.ensures) ∙ c.if-add_fits.true in
    (rw (x, y, to_z-of_z c.ranges.z, held_of refl (holds two)) at c.add_fits-then-add_fits.ensures) ∙ first_holds _ two
