use Rattle.std.proofs.Common.{◌≡◌, ◌≤◌, ◌*◌, nat_abs}
use Rattle.mark_candidates.specs.Code.Table.{entry_view, rise}
use Rattle.mark_candidates.proofs.TableEntries.{sum_to}
use Rattle.mark_candidates.proofs.marks.rises.Given as goal

abbrev pub invariant-loop-k : goal.invariant-loop-k
invariant-loop-k l = record {
  value : l.sum ≡ sum_to (rise (entry_view l.fn.a) (entry_view l.o)) l.k;
  small : nat_abs l.sum ≤ 858993459200000000 * l.k;
}
