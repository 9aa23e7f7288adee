use Rattle.std.proofs.Common.{ℕ, ◌≡◌, ◌<◌, pos, get_or}
use Rattle.std.specs.Prelude.{map}
use Rattle.mark_candidates.specs.Code.Table.{entry_view}
use Rattle.mark_candidates.specs.Code.Marks.{mark_of}
use Rattle.mark_candidates.proofs.TableMarks.{nothing}
use Rattle.mark_candidates.proofs.marks.mark_all.Given as goal

abbrev pub invariant-loop-i : goal.invariant-loop-i
invariant-loop-i l = (k : ℕ) → k < l.i → get_or l.out k (pos 0) ≡ mark_of (map entry_view l.t) (get_or (map entry_view l.t) k nothing)
