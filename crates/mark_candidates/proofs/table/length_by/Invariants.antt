use Rattle.std.proofs.Common.{◌≡◌, ◌≤◌, ◌*◌, nat_abs}
use Rattle.mark_candidates.specs.Code.Table.{term_at}
use Rattle.mark_candidates.proofs.TableEntries.{sum_to}
use Rattle.mark_candidates.proofs.table.length_by.Given as goal

abbrev pub invariant-loop-k : goal.invariant-loop-k
invariant-loop-k l = record {
  value : l.sum ≡ sum_to (term_at l.fn.weights.w l.g) l.k;
  small : nat_abs l.sum ≤ 214748364800000000 * l.k;
}
