use Rattle.std.proofs.Common.{ℤ, ap, ◌∙◌}
use Rattle.integer.proofs.Fits.{held, held-is}
use Rattle.common.specs.FloatMatrix.{float_vector}
use Rattle.grgrid.specs.Build.{concat}
use Rattle.bzsearch.specs.Search.{chosen, box_at, plane_at, line_at, lower}
use Rattle.bzsearch.specs.SearchView.{search_view, numbers_view, axes_view}
use Rattle.common.proofs.Sized.{sized-items}
use Rattle.bzsearch.proofs.Rows.{turn, finished, held-small}
use Rattle.bzsearch.proofs.types.BzSearch.least_box.Goals as goal

pub invariant_of-m : goal.invariant_of-m
invariant_of-m c =
    record { sized = sized-items _ (held-small c.at-x.result c.at-x.type_inv c.at-x.ensures.small) (held-small c.at-y.result c.at-y.type_inv c.at-y.ensures.small) (held-small c.at.result c.at.type_inv c.at.ensures.small) }

pub loop-k-preserved : goal.loop-k-preserved
loop-k-preserved c =
    let a = c.args in
    turn (lower (search_view a.self) (float_vector a.s0)) (line_at a.rest (numbers_view a.b.z) (held c.at-x.result) (held c.at-y.result)) c.loop-k.k c.loop-j.least c.loop-k.invariant c.least_one-least.ensures
    (ap (λ (z : ℤ). chosen a.rest (record { x = held c.at-x.result; y = held c.at-y.result; z = z })) (held-is c.at.result c.at.type_inv ∙ c.at.ensures.value))

pub loop-j-preserved : goal.loop-j-preserved
loop-j-preserved c =
    let a = c.args in
    let z = numbers_view a.b.z in
    let f = lower (search_view a.self) (float_vector a.s0) in
    turn f (plane_at a.rest (numbers_view a.b.y) z (held c.at-x.result)) c.loop-j.j c.loop-i.least c.loop-j.invariant
    (finished f (line_at a.rest z (held c.at-x.result) (held c.at-y.result)) c.loop-k.k c.loop-j.least c.loop-k.invariant c.loop-k.auto.k-end c.loop-k-test.false)
    (ap (λ (y : ℤ). concat (line_at a.rest z (held c.at-x.result) y) z.n) (held-is c.at-y.result c.at-y.type_inv ∙ c.at-y.ensures.value))

pub loop-i-preserved : goal.loop-i-preserved
loop-i-preserved c =
    let a = c.args in
    let y = numbers_view a.b.y in
    let z = numbers_view a.b.z in
    let f = lower (search_view a.self) (float_vector a.s0) in
    turn f (box_at a.rest (axes_view a.b)) c.loop-i.i a.from c.loop-i.invariant
    (finished f (plane_at a.rest y z (held c.at-x.result)) c.loop-j.j c.loop-i.least c.loop-j.invariant c.loop-j.auto.j-end c.loop-j-test.false)
    (ap (λ (x : ℤ). concat (plane_at a.rest y z x) y.n) (held-is c.at-x.result c.at-x.type_inv ∙ c.at-x.ensures.value))

pub returns : goal.returns
returns c =
    let a = c.args in
    finished (lower (search_view a.self) (float_vector a.s0)) (box_at a.rest (axes_view a.b)) c.loop-i.i a.from c.loop-i.invariant c.loop-i.auto.i-end c.loop-i-test.false
