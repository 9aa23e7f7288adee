use Rattle.std.proofs.Common.{pos, get_or, set, ap, ◌∙◌, arith}
use Rattle.std.proofs.lemmas.List.Edits.{fill_by_more}
use Rattle.std.proofs.lemmas.List.FromFn.{fill_by_all}
use lib.ListN.{length-set}
use Rattle.integer.proofs.Fits.{held-is}
use Rattle.bzsearch.proofs.Rows.{held-small}
use Rattle.mark_candidates.specs.Code.Table.{width_at}
use Rattle.mark_candidates.proofs.TableEntries.{six-sized, width-size, width-fits, width-is}
use Rattle.mark_candidates.proofs.table.entry.Goals as goal

pub overflow_mul-width : goal.overflow_mul-width
overflow_mul-width c = let r = c.requires in width-fits c.args.weights.sized r.lowest r.highest c.loop-k.k

pub loop-k-preserved : goal.loop-k-preserved
loop-k-preserved c =
    let l = c.loop-k in
    let r = c.requires in
    let f = width_at c.args.weights.w c.args.r.lowest c.args.r.highest in
    record {
      places = (simp length-set) ∙ l.invariant.places;
      each = λ i h. ap (λ v. get_or (set l.width-items l.k v) i (pos 0)) (width-is c.args.weights.sized r.lowest r.highest l.k) ∙ fill_by_more f l.width-items l.k (pos 0) (omega arith) l.invariant.each i h;
    }

pub invariant_of-result : goal.invariant_of-result
invariant_of-result c =
    let l = c.loop-k in
    let r = c.requires in
    let f = width_at c.args.weights.w c.args.r.lowest c.args.r.highest in
    let e = fill_by_all f l.width-items 6 (pos 0) l.invariant.places (λ i h. l.invariant.each i (omega arith)) in
    let x = c.length_by in
    let y = c.length_by-2 in
    record {
      widths_small = rw e (six-sized f (width-size c.args.weights.sized r.lowest r.highest));
      lowest_small = held-small x.result x.type_inv x.ensures.small;
      highest_small = held-small y.result y.type_inv y.ensures.small;
    }

pub returns : goal.returns
returns c =
    let l = c.loop-k in
    let f = width_at c.args.weights.w c.args.r.lowest c.args.r.highest in
    let e = fill_by_all f l.width-items 6 (pos 0) l.invariant.places (λ i h. l.invariant.each i (omega arith)) in
    let x = held-is c.length_by.result c.length_by.type_inv ∙ c.length_by.ensures.value in
    let y = held-is c.length_by-2.result c.length_by-2.type_inv ∙ c.length_by-2.ensures.value in
    λ i. record { widths = e i; lowest = x i; highest = y i }
