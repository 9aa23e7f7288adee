use Rattle.std.proofs.Common.{◌∙◌, rules}
use Rattle.std.proofs.lemmas.Result.{err_from_is_err_and}
use Rattle.common.specs.Array.{vector_of}
use Rattle.bztable.proofs.Finding.{same-rows, find-outside, find-here, find-on}
use Rattle.bztable.proofs.reading.find.Goals as goal

pub returns-in_err-address_at-clause-value : goal.returns-in_err-address_at-clause-value
returns-in_err-address_at-clause-value c =
    let p = err_from_is_err_and c.from_residual.result c.from_residual.ensures.1 in
    rw (p.1, p.2) (find-outside c.args.addresses.now (vector_of c.args.a) c.loop-i.i c.args.to c.loop-i-test.true c.in_err-address_at.ensures ∙ c.loop-i.invariant)

pub returns-then-eq-clause-value : goal.returns-then-eq-clause-value
returns-then-eq-clause-value c =
    find-here c.args.addresses.now (vector_of c.args.a) c.loop-i.i c.args.to c.loop-i-test.true c.in_ok-address_at.ensures
    (same-rows c.in_ok-address_at.field-0.v c.args.a (search rules) (search rules) c.eq.ensures c.if-eq.true)
    ∙ c.loop-i.invariant

pub loop-i-preserved : goal.loop-i-preserved
loop-i-preserved c =
    find-on c.args.addresses.now (vector_of c.args.a) c.loop-i.i c.args.to c.loop-i-test.true c.in_ok-address_at.ensures
    (same-rows c.in_ok-address_at.field-0.v c.args.a (search rules) (search rules) c.eq.ensures c.if-eq.false)
    ∙ c.loop-i.invariant
