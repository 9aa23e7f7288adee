use Rattle.std.proofs.Common.{◌≡◌, sym, ap, ◌∙◌, rules}
use mir.Facts.{to_z-of_z}
use Rattle.std.specs.Prelude.{Ok, Err}
use Rattle.common.specs.Array.{vector_of, sides_of, matrix_of}
use Rattle.common.specs.FloatMatrix.{float_matrix}
use Rattle.common.specs.Tested.{◌then◌}
use Rattle.bzsearch.specs.Search.{new_search}
use Rattle.bzgrid.specs.BzGridAddresses.{search_of, input_tests, sizes_of, bz_grid_sizes}
use Rattle.bzgrid.proofs.Accepted.{input-accepted}
use Rattle.bzgrid.proofs.bz_grid_sizes.Goals as goal
use Rattle.bzgrid.proofs.bz_grid_sizes.Goals.{In_ok-t}

accepted : (c : In_ok-t) → let a = c.args in input_tests a.d a.q a.ps a.lattice a.bz_grid_type ≡ Ok c.in_ok-t.t
accepted c = let a = c.args in sym (c.in_ok-t.ensures ∙ ap (input_tests a.d a.q a.ps a.lattice) (to_z-of_z c.ranges.bz_grid_type))

pub returns-in_err-t : goal.returns-in_err-t
unfolding bz_grid_sizes
returns-in_err-t c =
    let a = c.args in
    let e : c.from_residual.result ≡ Err c.in_err-t.field-0.0 = search rules in
    e ∙ ap (λ k. k then λ k. sizes_of k (search_of a.d a.q a.ps a.lattice)) (c.in_err-t.ensures ∙ ap (input_tests a.d a.q a.ps a.lattice) (to_z-of_z c.ranges.bz_grid_type))

pub shift-requires : goal.shift-requires
shift-requires c = let a = c.args in (input-accepted a.d a.q a.ps a.lattice a.bz_grid_type (accepted (goal.at.shift-requires c).In_ok-t)).shift

pub invariant_of-new : goal.invariant_of-new
invariant_of-new c = let a = c.args in record { within = (input-accepted a.d a.q a.ps a.lattice a.bz_grid_type (accepted (goal.at.invariant_of-new c).In_ok-t)).entries }

pub new-requires-clause-unimodular : goal.new-requires-clause-unimodular
new-requires-clause-unimodular c = let a = c.args in (input-accepted a.d a.q a.ps a.lattice a.bz_grid_type (accepted (goal.at.new-requires-clause-unimodular c).In_ok-t)).unit

pub returns : goal.returns
unfolding bz_grid_sizes
returns c =
    let a = c.args in
    let s = c.new.ensures ∙ ap (λ ps. new_search (sides_of a.d) (vector_of ps) (matrix_of a.q) (float_matrix a.lattice)) c.shift.ensures in
    c.sizes_of.ensures ∙ ap (sizes_of c.in_ok-t.t) s ∙ ap (λ k. k then λ k. sizes_of k (search_of a.d a.q a.ps a.lattice)) (sym (accepted (goal.at.returns c).In_ok-t))
