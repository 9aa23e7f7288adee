use Rattle.std.proofs.Common.{◌≡◌, ◌≤◌, ◌+◌, ◌*◌}
use mathlib.Core.List.{foldl}
use Rattle.grgrid.specs.Build.{concat}
use Rattle.bzsearch.specs.Search.{box_at, plane_at, line_at}
use Rattle.bzsearch.specs.SearchView.{numbers_view, axes_view}
use Rattle.bzgrid.specs.Code.Writing.{tables}
use Rattle.bzgrid.proofs.Kept.{keeping}
use Rattle.bzgrid.proofs.tables.Keeping.keep_box.Given as goal

abbrev pub invariant-loop-i : goal.invariant-loop-i
invariant-loop-i l = record {
  low : l.initial.t.next ≤ l.t.next;
  high : l.t.next ≤ l.initial.t.next + 1089 * l.i;
  kept : tables l.addresses l.grg l.t.at l.t.next ≡ foldl (keeping l.self.bz l.self.p l.self.bound) (tables l.initial.addresses l.initial.grg l.initial.t.at l.initial.t.next) (concat (box_at l.rest (axes_view l.b)) l.i);
}

abbrev pub invariant-loop-j : goal.invariant-loop-j
invariant-loop-j l = record {
  low : l.initial.t.next ≤ l.t.next;
  high : l.t.next ≤ l.initial.t.next + 33 * l.j;
  kept : tables l.addresses l.grg l.t.at l.t.next ≡ foldl (keeping l.self.bz l.self.p l.self.bound) (tables l.initial.addresses l.initial.grg l.initial.t.at l.initial.t.next) (concat (plane_at l.rest (numbers_view l.b.y) (numbers_view l.b.z) l.x) l.j);
}

abbrev pub invariant-loop-k : goal.invariant-loop-k
invariant-loop-k l = record {
  low : l.initial.t.next ≤ l.t.next;
  high : l.t.next ≤ l.initial.t.next + l.k;
  kept : tables l.addresses l.grg l.t.at l.t.next ≡ foldl (keeping l.self.bz l.self.p l.self.bound) (tables l.initial.addresses l.initial.grg l.initial.t.at l.initial.t.next) (concat (line_at l.rest (numbers_view l.b.z) l.x l.y) l.k);
}
