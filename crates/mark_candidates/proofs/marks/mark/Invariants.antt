use Rattle.std.proofs.Common.{◌≡◌, drop}
use Rattle.std.specs.Prelude.{map, ◌&&◌}
use Rattle.common.specs.Every.{every, some}
use Rattle.mark_candidates.specs.Code.Table.{entry_view}
use Rattle.mark_candidates.specs.Code.Marks.{longer, never_longer}
use Rattle.mark_candidates.proofs.marks.mark.Given as goal

abbrev pub invariant-loop-o : goal.invariant-loop-o
invariant-loop-o l = record {
  beaten : some (longer (entry_view l.a)) (map entry_view (drop l.o-index l.t)) ≡ some (longer (entry_view l.a)) (map entry_view l.t);
  near : (l.nearest && every (never_longer (entry_view l.a)) (map entry_view (drop l.o-index l.t))) ≡ every (never_longer (entry_view l.a)) (map entry_view l.t);
}
