use Rattle.std.proofs.Common.{◌≡◌, ℤ, length, sym, ap, ◌∙◌, rules}
use mir.Facts.{to_z-of_z}
use Rattle.std.specs.Prelude.{Ok, Err}
use Rattle.bzgrid.specs.declared.TableRecord.{TableRecord}
use Rattle.bzgrid.specs.BzGridAddresses.{input_tests, recorded, tables_told}
use Rattle.common.specs.Array.{vector_of, sides_of, matrix_of}
use Rattle.common.specs.FloatMatrix.{float_matrix}
use Rattle.bzsearch.specs.Search.{new_search}
use Rattle.bzgrid.proofs.Accepted.{input-accepted, accepted-call, refused-call}
use Rattle.bzgrid.proofs.tables_told.Goals as goal
use Rattle.bzgrid.proofs.tables_told.Goals.{In-Ok, After-build}

accepted : (c : In-Ok) → let a = c.args in input_tests a.d a.q a.ps a.lattice a.bz_grid_type ≡ Ok c.in-Ok.t
accepted c = let a = c.args in sym (c.input_tests.ensures ∙ ap (input_tests a.d a.q a.ps a.lattice) (to_z-of_z c.ranges.bz_grid_type)) ∙ c.in-Ok.is

pub new-s-requires : goal.new-s-requires
new-s-requires c =
    let a = c.args in
    let h = input-accepted a.d a.q a.ps a.lattice a.bz_grid_type (accepted (goal.at.new-s-requires c).In-Ok) in
    record { diagonal = h.grid; unimodular = h.unit }

pub shift-requires : goal.shift-requires
shift-requires c =
    let a = c.args in
    (input-accepted a.d a.q a.ps a.lattice a.bz_grid_type (accepted (goal.at.shift-requires c).In-Ok)).shift

-- what was built, with its record
built-call : (c : After-build) → let a = c.args in let n = c.build.new in input_tests a.d a.q a.ps a.lattice a.bz_grid_type ≡ Ok c.in-Ok.t
    → recorded (record { d = a.d; ps = a.ps; bz_grid_type = a.bz_grid_type }) (record { answer = c.build.result; addresses = n.addresses; map = n.map; grg = n.grg })
    ≡ tables_told a.d a.q a.ps a.lattice a.bz_grid_type a.told (length a.addresses.now) (length a.map.now) (length a.grg.now)
built-call c e =
    let a = c.args in
    ap (recorded (record { d = a.d; ps = a.ps; bz_grid_type = a.bz_grid_type })) c.build.ensures
    ∙ accepted-call a.d a.q a.ps a.lattice a.bz_grid_type a.told (length a.addresses.now) (length a.map.now) (length a.grg.now)
    e (c.new-s.ensures ∙ ap (λ ps. new_search (sides_of a.d) (vector_of ps) (matrix_of a.q) (float_matrix a.lattice)) c.shift.ensures)

pub invariant_of-new : goal.invariant_of-new
invariant_of-new c =
    let a = c.args in
    record { within = (input-accepted a.d a.q a.ps a.lattice a.bz_grid_type (accepted (goal.at.invariant_of-new c).In-Ok)).entries }

pub returns-in_ok-lengths-in-Ok : goal.returns-in_ok-lengths-in-Ok
returns-in_ok-lengths-in-Ok c =
    let a = c.args in
    let n = c.build.new in
    let of_type : ℤ → TableRecord = λ t. record { d = a.d; ps = a.ps; bz_grid_type = t } in
    (λ i. recorded (of_type (to_z-of_z c.ranges.bz_grid_type i)) (record { answer = sym c.in_ok-lengths-in-Ok.was i; addresses = n.addresses; map = n.map; grg = n.grg }))
    ∙ (let p = goal.at.returns-in_ok-lengths-in-Ok c in built-call p.After-build (accepted p.In-Ok))

pub returns-in_err-lengths-in-Ok : goal.returns-in_err-lengths-in-Ok
returns-in_err-lengths-in-Ok c =
    let a = c.args in
    let n = c.build.new in
    let e : c.from_residual.result ≡ Err c.in_err-lengths-in-Ok.field-0.0 = search rules in
    (λ i. record { answer = e i; addresses = n.addresses; map = n.map; grg = n.grg })
    ∙ (λ i. recorded (record { d = a.d; ps = a.ps; bz_grid_type = a.bz_grid_type }) (record { answer = sym c.in_err-lengths-in-Ok.was i; addresses = n.addresses; map = n.map; grg = n.grg }))
    ∙ (let p = goal.at.returns-in_err-lengths-in-Ok c in built-call p.After-build (accepted p.In-Ok))

pub returns-in-Err : goal.returns-in-Err
returns-in-Err c =
    let a = c.args in
    let w = c.wipe.ensures in
    (λ i. record { answer = Err c.in-Err.r; addresses = w.addresses_after i; map = w.map_after i; grg = w.grg_after i })
    ∙ refused-call a.d a.q a.ps a.lattice a.bz_grid_type a.told (length a.addresses.now) (length a.map.now) (length a.grg.now)
    (sym (c.input_tests.ensures ∙ ap (input_tests a.d a.q a.ps a.lattice) (to_z-of_z c.ranges.bz_grid_type)) ∙ c.in-Err.is)
