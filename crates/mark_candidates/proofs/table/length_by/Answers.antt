use Rattle.std.proofs.Common.{ℕ, ℤ, pos, ◌*ℤ◌, ◌≡◌, List, get_or, to_z, w64, arith, ◌∙◌}
use Rattle.integer.proofs.Fits.{held}
use Rattle.mark_candidates.specs.Code.Table.{term_at, length_by}
use Rattle.mark_candidates.proofs.TableEntries.{added-fits, added-small, added, six-summed, sum_to, term-is, term-size}
use Rattle.mark_candidates.proofs.table.length_by.Goals as goal

-- as the code works it out
abbrev product : (w g : List ℤ) → ℕ → ℤ
product w g k = held (held (get_or w k (pos 0)) *ℤ held (get_or g k (pos 0)))

pub overflow_add-sum : goal.overflow_add-sum
overflow_add-sum c =
    let w = c.args.weights in
    added-fits (to_z w64 c.loop-k.sum-bits) (product w.w c.args.g c.loop-k.k) c.loop-k.invariant.small (term-size w.sized c.requires c.loop-k.k) (omega arith)

pub loop-k-preserved : goal.loop-k-preserved
loop-k-preserved c =
    let l = c.loop-k in
    let w = c.args.weights in
    let x = product w.w c.args.g l.k in
    let t = term-size w.sized c.requires l.k in
    record {
      value = added (to_z w64 l.sum-bits) x l.invariant.small t (omega arith) (term_at w.w c.args.g) l.k l.invariant.value (term-is w.sized c.requires l.k);
      small = omega (arith, added-small (to_z w64 l.sum-bits) x l.invariant.small t (omega arith));
    }

pub returns-clause-value : goal.returns-clause-value
unfolding length_by
returns-clause-value c =
    let f = term_at c.args.weights.w c.args.g in
    c.loop-k.invariant.value ∙ (let e : c.loop-k.k ≡ 6 = omega arith in λ i. sum_to f (e i)) ∙ six-summed f
