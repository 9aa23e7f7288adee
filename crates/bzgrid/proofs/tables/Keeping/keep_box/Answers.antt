use Rattle.std.proofs.Common.{ℤ, ap, ◌∙◌, arith}
use Rattle.integer.proofs.Fits.{held, held-is}
use Rattle.grgrid.specs.Build.{concat}
use Rattle.bzsearch.specs.Search.{chosen, box_at, plane_at, line_at}
use Rattle.bzsearch.specs.SearchView.{numbers_view, axes_view}
use Rattle.common.proofs.Sized.{sized-items}
use Rattle.bzsearch.proofs.Rows.{turn, finished, held-small}
use Rattle.bzgrid.specs.Code.Writing.{tables}
use Rattle.bzgrid.proofs.Kept.{keeping}
use Rattle.bzgrid.proofs.tables.Keeping.keep_box.Goals as goal

pub invariant_of-m : goal.invariant_of-m
invariant_of-m c =
    record { sized = sized-items _ (held-small c.at-x.result c.at-x.type_inv c.at-x.ensures.small) (held-small c.at-y.result c.at-y.type_inv c.at-y.ensures.small) (held-small c.at.result c.at.type_inv c.at.ensures.small) }

pub loop-k-preserved : goal.loop-k-preserved
loop-k-preserved c =
    let a = c.args in
    let l = c.loop-j in
    record {
      low = omega arith;
      high = omega arith;
      kept = turn (keeping a.self.now.bz a.self.now.p a.self.now.bound) (line_at a.rest (numbers_view a.b.z) (held c.at-x.result) (held c.at-y.result)) c.loop-k.k (tables l.addresses l.grg l.t.at l.t.next) c.loop-k.invariant.kept c.keep_one-t.ensures.next_after
          (ap (λ (z : ℤ). chosen a.rest (record { x = held c.at-x.result; y = held c.at-y.result; z = z })) (held-is c.at.result c.at.type_inv ∙ c.at.ensures.value));
    }

pub loop-j-preserved : goal.loop-j-preserved
loop-j-preserved c =
    let a = c.args in
    let l = c.loop-i in
    let m = c.loop-j in
    let z = numbers_view a.b.z in
    let f = keeping a.self.now.bz a.self.now.p a.self.now.bound in
    record {
      low = omega arith;
      high = omega (arith, a.b.z.room.few);
      kept = turn f (plane_at a.rest (numbers_view a.b.y) z (held c.at-x.result)) m.j (tables l.addresses l.grg l.t.at l.t.next) m.invariant.kept
          (finished f (line_at a.rest z (held c.at-x.result) (held c.at-y.result)) c.loop-k.k (tables m.addresses m.grg m.t.at m.t.next) c.loop-k.invariant.kept c.loop-k.auto.k-end c.loop-k-test.false)
          (ap (λ (y : ℤ). concat (line_at a.rest z (held c.at-x.result) y) z.n) (held-is c.at-y.result c.at-y.type_inv ∙ c.at-y.ensures.value));
    }

pub loop-i-preserved : goal.loop-i-preserved
loop-i-preserved c =
    let a = c.args in
    let l = c.loop-i in
    let y = numbers_view a.b.y in
    let z = numbers_view a.b.z in
    let f = keeping a.self.now.bz a.self.now.p a.self.now.bound in
    record {
      low = omega arith;
      high = omega (arith, a.b.y.room.few);
      kept = turn f (box_at a.rest (axes_view a.b)) l.i (tables a.addresses.now a.grg.now a.c.at a.c.next) l.invariant.kept
          (finished f (plane_at a.rest y z (held c.at-x.result)) c.loop-j.j (tables l.addresses l.grg l.t.at l.t.next) c.loop-j.invariant.kept c.loop-j.auto.j-end c.loop-j-test.false)
          (ap (λ (x : ℤ). concat (plane_at a.rest y z x) y.n) (held-is c.at-x.result c.at-x.type_inv ∙ c.at-x.ensures.value));
    }
