use Rattle.std.proofs.Common.{◌≡◌, ◌&&◌, refl, sym, ap, ◌∙◌, rules}
use mir.Facts.{to_z-of_z}
use Rattle.std.specs.Prelude.{Err}
use Rattle.integer.proofs.Test.{and_l, and_r, holds}
use Rattle.common.specs.Array.{matrix_of}
use Rattle.common.specs.FloatMatrix.{float_matrix}
use Rattle.common.specs.Limits.{diagonal_fits, matrix_within, shift_fits}
use Rattle.bzsearch.specs.Lattice.{lattice_fits}
use Rattle.bzgrid.specs.BzGridAddresses.{grid_type_of}
use Rattle.bzgrid.proofs.Accepted.{typed}
use Rattle.bzgrid.proofs.input_tests.Goals as goal

pub returns-in_err-t : goal.returns-in_err-t
returns-in_err-t c =
    let a = c.args in
    let e : c.from_residual.result ≡ Err c.in_err-t.field-0.0 = search rules in
    e ∙ typed a.d a.q a.ps a.lattice a.bz_grid_type c.if-not-within_limits.ensures (c.in_err-t.ensures ∙ ap grid_type_of (to_z-of_z c.ranges.bz_grid_type)) refl refl

pub invariant_of-is_unimodular : goal.invariant_of-is_unimodular
invariant_of-is_unimodular c =
    let a = c.args in
    let m = matrix_within 1000 (matrix_of a.q) in
    let rest = shift_fits a.ps && lattice_fits (float_matrix a.lattice) in
    record { within = and_l m rest (and_r (diagonal_fits a.d) (m && rest) (holds (sym c.if-not-within_limits.ensures))) }

pub returns-then-not-is_unimodular : goal.returns-then-not-is_unimodular
returns-then-not-is_unimodular c =
    let a = c.args in
    typed a.d a.q a.ps a.lattice a.bz_grid_type c.if-not-within_limits.ensures (c.in_ok-t.ensures ∙ ap grid_type_of (to_z-of_z c.ranges.bz_grid_type)) c.if-not-is_unimodular.ensures refl

pub returns-then-is_singular : goal.returns-then-is_singular
returns-then-is_singular c =
    let a = c.args in
    typed a.d a.q a.ps a.lattice a.bz_grid_type c.if-not-within_limits.ensures (c.in_ok-t.ensures ∙ ap grid_type_of (to_z-of_z c.ranges.bz_grid_type)) c.if-not-is_unimodular.ensures (sym c.if-is_singular.true ∙ c.is_singular.ensures)

pub returns : goal.returns
returns c =
    let a = c.args in
    typed a.d a.q a.ps a.lattice a.bz_grid_type c.if-not-within_limits.ensures (c.in_ok-t.ensures ∙ ap grid_type_of (to_z-of_z c.ranges.bz_grid_type)) c.if-not-is_unimodular.ensures (sym c.if-is_singular.false ∙ c.is_singular.ensures)
