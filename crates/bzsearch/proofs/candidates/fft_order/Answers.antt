use Rattle.std.proofs.Common.{sym, subst, rules}
use Rattle.integer.proofs.Fits.{held-is}
use Rattle.bzsearch.specs.Search.{Room}
use Rattle.bzsearch.specs.SearchView.{span_view}
use Rattle.bzsearch.proofs.Spans.{fft-of, fft-room}
use Rattle.bzsearch.proofs.candidates.fft_order.Goals as goal

pub invariant_of-result : goal.invariant_of-result
invariant_of-result c =
    let s = c.args.s in
    let p = c.from_zero-p in
    let q = c.below_zero-q in
    let e = fft-of (span_view s) p.ensures q.ensures (held-is p.result.lo (search rules)) (held-is p.result.hi (search rules)) (held-is q.result.lo (search rules)) (held-is q.result.hi (search rules)) (held-is s.lo (search rules))
    c.count-low.ensures.value c.count.ensures.value in
    record { room = subst Room (sym e) (fft-room (span_view s) c.requires) }
