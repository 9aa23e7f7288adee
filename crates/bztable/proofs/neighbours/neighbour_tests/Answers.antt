use Rattle.std.specs.Prelude.{Err}
use Rattle.std.proofs.Common.{◌≡◌, sym, ◌∙◌, ap, length, rules}
use Rattle.std.proofs.lemmas.Result.{err_from_is_err_and}
use Rattle.common.specs.Tested.{Accepted, ◌then◌}
use Rattle.bzgrid.proofs.Outcome.{mesh-fits}
use Rattle.bztable.specs.Reading.{list_of}
use Rattle.bztable.specs.Neighbours.{all_neighbours}
use Rattle.bztable.proofs.NeighbourCall.{input-accepted, read-none, read-some, after-tests, walk-answer, walk-output, found, found-if, none, some}
use Rattle.bztable.proofs.neighbours.neighbour_tests.Goals as goal

pub returns-in_err-input_tests-clause-value : goal.returns-in_err-input_tests-clause-value
returns-in_err-input_tests-clause-value c =
    let s = c.args in
    let p = err_from_is_err_and c.from_residual.result c.from_residual.ensures.1 in
    rw (p.1, p.2) (after-tests s.layout s.points.now s.offsets.now s.addresses.now s.map.now s.d (length s.out.now) c.in_err-input_tests.ensures)

pub returns-then-is_empty : goal.returns-then-is_empty
returns-then-is_empty c =
    let s = c.args in
    let n = length s.out.now in
    let none-read = read-none s.layout s.points.now s.offsets.now s.addresses.now s.map.now s.d n (search rules) in
    let e = ap (λ x. x then λ _. Accepted) (sym none-read) ∙ after-tests s.layout s.points.now s.offsets.now s.addresses.now s.map.now s.d n c.in_ok-input_tests.ensures in
    record { value = e; found = found s.layout s.points.now s.offsets.now s.addresses.now s.map.now s.d n e (none s.out.now (search rules) ∙ ap list_of (sym none-read)) }

pub grid_of-requires : goal.grid_of-requires
grid_of-requires c =
    let s = c.args in
    let a = input-accepted (length s.points.now) s.offsets.now s.addresses.now s.d (length s.out.now) (sym c.in_ok-input_tests.ensures) in
    a.grid

pub invariant_of-table : goal.invariant_of-table
invariant_of-table c =
    let s = c.args in
    let a = input-accepted (length s.points.now) s.offsets.now s.addresses.now s.d (length s.out.now) (sym c.in_ok-input_tests.ensures) in
    record { fits = mesh-fits s.d a.grid c.grid_of.ensures }

pub fill_rows-requires-clause-fact_1 : goal.fill_rows-requires-clause-fact_1
fill_rows-requires-clause-fact_1 c =
    let s = c.args in
    let a = input-accepted (length s.points.now) s.offsets.now s.addresses.now s.d (length s.out.now) (sym c.in_ok-input_tests.ensures) in
    a.steps

pub fill_rows-requires-clause-fact_2 : goal.fill_rows-requires-clause-fact_2
fill_rows-requires-clause-fact_2 c =
    let s = c.args in
    let a = input-accepted (length s.points.now) s.offsets.now s.addresses.now s.d (length s.out.now) (sym c.in_ok-input_tests.ensures) in
    a.places

pub returns-in_err-t-clause-value : goal.returns-in_err-t-clause-value
returns-in_err-t-clause-value c =
    let s = c.args in
    let n = length s.out.now in
    let e : c.from_residual-in_err-t.result ≡ Err c.in_err-t.field-0.0 = search rules in
    e
    ∙ ap (λ x. x then λ _. Accepted) (sym (read-some s.layout s.points.now s.offsets.now s.addresses.now s.map.now s.d n (some n (sym c.is_empty.ensures ∙ c.if-is_empty.false)) (sym c.in_err-t.was)))
    ∙ after-tests s.layout s.points.now s.offsets.now s.addresses.now s.map.now s.d n c.in_ok-input_tests.ensures

pub returns : goal.returns
returns c =
    let s = c.args in
    let n = length s.out.now in
    let r = c.fill_rows in
    -- the walk read what the definition reads
    let w = r.ensures
    ∙ ap (λ v. all_neighbours c.in_ok-t.t v s.offsets.now s.addresses.now s.map.now s.points.now) c.grid_of.ensures
    ∙ sym (read-some s.layout s.points.now s.offsets.now s.addresses.now s.map.now s.d n (some n (sym c.is_empty.ensures ∙ c.if-is_empty.false)) (sym c.in_ok-t.was)) in
    let e = walk-answer s.layout s.points.now s.offsets.now s.addresses.now s.map.now s.d n r.result r.new.out w
    ∙ after-tests s.layout s.points.now s.offsets.now s.addresses.now s.map.now s.d n c.in_ok-input_tests.ensures in
    record {
      value = e;
      found = found-if s.layout s.points.now s.offsets.now s.addresses.now s.map.now s.d n r.result e (walk-output s.layout s.points.now s.offsets.now s.addresses.now s.map.now s.d n r.result r.new.out w);
    }
