use Rattle.std.proofs.Common.{ℕ, ◌≡◌, ◌<◌, pos, length, get_or}
use Rattle.mark_candidates.specs.Code.Table.{width_at}
use Rattle.mark_candidates.proofs.table.entry.Given as goal

abbrev pub invariant-loop-k : goal.invariant-loop-k
invariant-loop-k l = record {
  places : length l.width-items ≡ 6;
  each : (i : ℕ) → i < l.k → get_or l.width-items i (pos 0) ≡ width_at l.fn.weights.w l.r.lowest l.r.highest i;
}
