use Rattle.std.proofs.Common.{◌∙◌, ap, rules}
use Rattle.grgrid.specs.Grid.{size}
use Rattle.grgrid.specs.Sides.{sides}
use Rattle.bztable.specs.Rotate.{among_run}
use Rattle.bztable.proofs.Finding.{same-rows, first-here, first-on}
use Rattle.common.specs.Array.{vector_of}
use Rattle.bztable.proofs.rotate.among_sparse.Goals as goal

pub returns-then-eq-clause-value : goal.returns-then-eq-clause-value
returns-then-eq-clause-value c =
    first-here c.args.table.now.addresses.now c.args.table.now.map.now (vector_of c.args.a) c.args.p (size (sides c.args.table.now.g)) c.in_ok-address_at.ensures
    (same-rows c.in_ok-address_at.field-0.v c.args.a (search rules) (search rules) c.eq.ensures c.if-eq.true)

pub returns-clause-value : goal.returns-clause-value
returns-clause-value c =
    c.among_run.ensures.value
    ∙ ap (λ t. among_run c.args.table.now.addresses.now c.args.table.now.map.now (vector_of c.args.a) t c.args.p (size (sides c.args.table.now.g))) c.requires.sparse
    ∙ first-on c.args.table.now.addresses.now c.args.table.now.map.now (vector_of c.args.a) c.args.p (size (sides c.args.table.now.g)) c.in_ok-address_at.ensures
    (same-rows c.in_ok-address_at.field-0.v c.args.a (search rules) (search rules) c.eq.ensures c.if-eq.false)
