use Rattle.std.proofs.Common.{◌≤◌, ◌+◌, ◌*◌}
use Rattle.bzgrid.proofs.Turns.{Reached}
use Rattle.bzconvert.specs.Code.Lists.{images_held}
use Rattle.bzconvert.proofs.writing.write_lists.Given as goal

abbrev pub invariant-loop-i : goal.invariant-loop-i
invariant-loop-i l = record {
  few : l.n ≤ 65536;
  from_low : l.from ≤ l.k;
  low : l.i ≤ l.k;
  high : l.k ≤ l.n + 2199023321089 * l.i;
  reached : Reached l.sparse (images_held l.table) l.n l.base l.initial.addresses l.initial.map l.initial.grg l.addresses l.map l.grg l.k l.i;
}
