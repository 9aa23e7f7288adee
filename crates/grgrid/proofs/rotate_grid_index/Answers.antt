use mathlib.Core.Path.{refl, sym, ◌∙◌, ap, subst}
use Prim.Native.Nat.{◌<◌}
use lib.IntN.{nat_abs}
use mir.Facts.{to_z-of_z}
use Rattle.std.specs.Prelude.{Ok}
use Rattle.integer.proofs.Test.{holds}
use Rattle.common.specs.Array.{sides_of}
use Rattle.grgrid.specs.Grid.{size}
use Rattle.grgrid.proofs.Accepted.{point-inside}
use Rattle.grgrid.proofs.RotatedPoint.{carried, tests-told, point-tested, rotation-told}
use Rattle.grgrid.proofs.rotate_grid_index.Goals as goal

pub returns-then-not-point_fits : goal.returns-then-not-point_fits
returns-then-not-point_fits c =
    let s = c.args in
    tests-told s.point s.rotation s.d s.ps {r = Ok (carried s.point s.rotation s.d s.ps)} (sym c.if-not-diagonal_fits.false ∙ c.diagonal_fits.ensures)
    (sym c.if-not-shift_fits.false ∙ c.shift_fits.ensures) (sym c.if-not-matrix_within.false ∙ c.matrix_within.ensures)
    (sym c.if-not-point_fits.true ∙ point-tested s.point s.rotation s.d s.ps c.grid_of-g.result c.grid_of-g.ensures (to_z-of_z c.ranges.point) c.point_fits.ensures c.points.ensures)
    refl

pub invariant_of-at : goal.invariant_of-at
invariant_of-at c =
    let s = c.args in
    let e = point-tested s.point s.rotation s.d s.ps c.grid_of-g.result c.grid_of-g.ensures (to_z-of_z c.ranges.point) c.point_fits.ensures c.points.ensures in
    let h = (point-inside s.point (size (sides_of s.d)) (holds (sym e ∙ c.if-not-point_fits.false))).1 in
    record { inside = rw (to_z-of_z c.ranges.point) (subst (λ d. nat_abs s.point < size d) (sym c.grid_of-g.ensures) h) }

pub returns : goal.returns
returns c =
    let s = c.args in
    let r = c.rotate_point.ensures in
    tests-told s.point s.rotation s.d s.ps (sym c.if-not-diagonal_fits.false ∙ c.diagonal_fits.ensures)
    (sym c.if-not-shift_fits.false ∙ c.shift_fits.ensures) (sym c.if-not-matrix_within.false ∙ c.matrix_within.ensures)
    (sym c.if-not-point_fits.false ∙ point-tested s.point s.rotation s.d s.ps c.grid_of-g.result c.grid_of-g.ensures (to_z-of_z c.ranges.point) c.point_fits.ensures c.points.ensures)
    (ap Ok (rotation-told s.point s.rotation s.d s.ps c.grid_of-g.result c.grid_of-g.ensures (to_z-of_z c.ranges.point) c.shift.ensures r.value r.cell_value))
