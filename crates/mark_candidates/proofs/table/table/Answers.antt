use Rattle.std.proofs.Common.{ℕ, List, refl, get_or, set, sym, ap, ◌∙◌, arith}
use Rattle.std.specs.Prelude.{map}
use Rattle.std.proofs.lemmas.List.{map-set, length-map}
use Rattle.std.proofs.lemmas.List.Edits.{fill_by_more}
use Rattle.std.proofs.lemmas.List.FromFn.{fill_by_all}
use Rattle.std.specs.List.{range_with_len}
use lib.ListN.{length-set}
use Rattle.mark_candidates.specs.Code.Numbered.{candidate_at}
use Rattle.mark_candidates.specs.Code.Table.{Compared, compared, compared_at, entry_view}
use Rattle.mark_candidates.proofs.Listed.{candidates-listed}
use Rattle.mark_candidates.proofs.TableMarks.{nothing, map-on}
use Rattle.mark_candidates.proofs.table.table.Goals as goal

pub loop-i-preserved : goal.loop-i-preserved
loop-i-preserved c =
    let a = c.args in
    let l = c.loop-i in
    let f = λ (k : ℕ). compared_at a.s.s.v a.s.points.n a.r (candidate_at k) in
    let e = c.entry.ensures ∙ ap (λ w. compared w a.r.lowest a.r.highest) c.weights_at-in-loop-i.ensures in
    let within = length-map l.e-items entry_view ∙ l.invariant.places in
    record {
      places = (simp length-set) ∙ l.invariant.places;
      each = λ k h. ap (λ (t : List Compared). get_or t k nothing) (map-set entry_view l.e-items l.i c.entry.result ∙ ap (set (map entry_view l.e-items) l.i) e) ∙ fill_by_more f (map entry_view l.e-items) l.i nothing (omega (arith, within)) l.invariant.each k h;
    }

pub returns : goal.returns
returns c =
    let a = c.args in
    let l = c.loop-i in
    let g = compared_at a.s.s.v a.s.points.n a.r in
    let f = λ (k : ℕ). g (candidate_at k) in
    fill_by_all f (map entry_view l.e-items) 125 nothing (length-map l.e-items entry_view ∙ l.invariant.places) (λ k h. l.invariant.each k (omega arith))
    ∙ sym (map-on candidate_at g f (λ k. refl) (range_with_len 0 125)) ∙ ap (map g) candidates-listed
