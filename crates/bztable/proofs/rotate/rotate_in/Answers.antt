use mir.Facts.{to_z-of_z}
use Rattle.std.proofs.Common.{◌≡◌, sym, ◌∙◌, rules}
use Rattle.std.specs.Prelude.{Err}
use Rattle.common.specs.Array.{vector_of, matrix_of}
use Rattle.bzgrid.proofs.Outcome.{mesh-fits}
use Rattle.bztable.specs.Rotate.{rotated_at}
use Rattle.bztable.proofs.Turning.{rotate-accepted, rotate-answered}
use Rattle.bztable.proofs.rotate.rotate_in.Goals as goal

pub invariant_of-table : goal.invariant_of-table
invariant_of-table c =
    let r = rotate-accepted c.args.rotation c.args.addresses.now c.args.d c.args.ps _ (sym c.in_ok-t.ensures) in
    record { fits = mesh-fits c.args.d r.grid c.grid_of.ensures }

pub invariant_of-rotation : goal.invariant_of-rotation
invariant_of-rotation c = record { within = (rotate-accepted c.args.rotation c.args.addresses.now c.args.d c.args.ps _ (sym c.in_ok-t.ensures)).entries }

pub shift-requires : goal.shift-requires
shift-requires c = (rotate-accepted c.args.rotation c.args.addresses.now c.args.d c.args.ps _ (sym c.in_ok-t.ensures)).shift

pub returns-in_err-t : goal.returns-in_err-t
returns-in_err-t c =
    let s = c.args in
    let e : c.from_residual.result ≡ Err c.in_err-t.field-0.0 = search rules in
    e ∙ rotate-answered s.rotation s.addresses.now s.d s.ps s.bz_grid_index s.map.now s.layout c.in_err-t.ensures

pub returns : goal.returns
returns c =
    let s = c.args in
    let l = s.addresses.now in
    let t = c.in_ok-t.t in
    c.rotated_at.ensures
    ∙ (λ i. rotated_at t (c.grid_of.ensures i) l s.map.now (matrix_of s.rotation) (vector_of (c.shift.ensures i)) (to_z-of_z c.ranges.bz_grid_index i))
    ∙ rotate-answered s.rotation l s.d s.ps s.bz_grid_index s.map.now s.layout c.in_ok-t.ensures
