use Rattle.std.proofs.Common.{ℕ, pos, get_or, length, refl, sym, ap, ◌∙◌, arith, rules}
use Rattle.std.specs.Prelude.{map}
use Rattle.std.proofs.lemmas.List.{length-map}
use Rattle.std.proofs.lemmas.List.FromFn.{fill_by_all}
use Rattle.std.specs.List.{range_with_len}
use Rattle.mark_candidates.specs.Code.Table.{entry_view}
use Rattle.mark_candidates.specs.Code.Marks.{mark_of}
use Rattle.mark_candidates.proofs.TableMarks.{nothing, map-on}
use Rattle.mark_candidates.proofs.marks.mark_all.Goals as goal

pub returns : goal.returns
returns c =
    let t = map entry_view c.args.t.now in
    let n = length c.args.t.now in
    let l = c.loop-i in
    let at = λ (k : ℕ). get_or t k nothing in
    let f = λ (k : ℕ). mark_of t (at k) in
    fill_by_all f l.out n (pos 0) (search rules) (λ k h. l.invariant k (omega arith))
    ∙ sym (map-on at (mark_of t) f (λ k. refl) (range_with_len 0 n))
    ∙ ap (map (mark_of t)) (sym (fill_by_all at t n nothing (length-map c.args.t.now entry_view) (λ k h. refl)))
