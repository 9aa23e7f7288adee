use Rattle.std.proofs.Common.{◌≡◌, ◌-ℤ◌, pos, to_z, w64, arith, ◌∙◌}
use Rattle.integer.proofs.Fits.{held, held-is}
use Rattle.common.proofs.Bounds.{entry-held}
use Rattle.bzsearch.specs.Search.{max_z}
use Rattle.bzsearch.proofs.Rows.{held-small}
use Rattle.mark_candidates.specs.Code.Table.{entry_view, rise, rises}
use Rattle.mark_candidates.proofs.TableEntries.{added-fits, added-small, added, six-summed, sum_to}
use Rattle.mark_candidates.proofs.marks.rises.Goals as goal

pub overflow_add-sum : goal.overflow_add-sum
overflow_add-sum c = added-fits (to_z w64 c.loop-k.sum-bits) (held c.rise-sum.result) c.loop-k.invariant.small (held-small c.rise-sum.result c.rise-sum.type_inv c.rise-sum.ensures.small) (omega arith)

pub loop-k-preserved : goal.loop-k-preserved
loop-k-preserved c =
    let l = c.loop-k in
    let r = c.rise-sum in
    let a = c.args.a in
    let o = c.args.o in
    let t = held-small r.result r.type_inv r.ensures.small in
    record {
      value = added (to_z w64 l.sum-bits) (held r.result) l.invariant.small t (omega arith) (rise (entry_view a) (entry_view o)) l.k l.invariant.value
          (held-is r.result r.type_inv ∙ r.ensures.value ∙ (λ i. max_z (pos 0) (entry-held a.widths_small l.k tt i -ℤ entry-held o.widths_small l.k tt i)));
      small = omega (arith, added-small (to_z w64 l.sum-bits) (held r.result) l.invariant.small t (omega arith));
    }

pub returns-clause-value : goal.returns-clause-value
unfolding rises
returns-clause-value c =
    let f = rise (entry_view c.args.a) (entry_view c.args.o) in
    c.loop-k.invariant.value ∙ (let e : c.loop-k.k ≡ 6 = omega arith in λ i. sum_to f (e i)) ∙ six-summed f
