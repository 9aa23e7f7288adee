use Rattle.std.proofs.Common.{◌≤◌, ◌+◌, ◌*◌}
use Rattle.bzsearch.specs.SearchView.{search_view}
use Rattle.bzgrid.specs.Table.{images_at}
use Rattle.bzgrid.proofs.Turns.{Reached}
use Rattle.bzgrid.proofs.tables.write_table.Given as goal

abbrev pub invariant-loop-i : goal.invariant-loop-i
invariant-loop-i l = record {
  few : l.n ≤ 65536;
  from_low : l.from ≤ l.k;
  low : l.i ≤ l.k;
  high : l.k ≤ l.n + 71875 * l.i;
  reached : Reached l.sparse (images_at (search_view l.bz)) l.n l.base l.initial.addresses l.initial.map l.initial.grg l.addresses l.map l.grg l.k l.i;
}
