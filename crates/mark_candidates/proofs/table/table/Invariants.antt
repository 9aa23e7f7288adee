use Rattle.std.proofs.Common.{ℕ, ◌≡◌, ◌<◌, length, get_or}
use Rattle.std.specs.Prelude.{map}
use Rattle.mark_candidates.specs.Code.Numbered.{candidate_at}
use Rattle.mark_candidates.specs.Code.Table.{entry_view, compared_at}
use Rattle.mark_candidates.proofs.TableMarks.{nothing}
use Rattle.mark_candidates.proofs.table.table.Given as goal

abbrev pub invariant-loop-i : goal.invariant-loop-i
invariant-loop-i l = record {
  places : length l.e-items ≡ 125;
  each : (k : ℕ) → k < l.i → get_or (map entry_view l.e-items) k nothing ≡ compared_at l.s.s.v l.s.points.n l.r (candidate_at k);
}
