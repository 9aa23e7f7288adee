use Rattle.std.proofs.Common.{◌≡◌}
use Rattle.common.specs.FloatMatrix.{float_vector}
use Rattle.grgrid.specs.Build.{concat}
use Rattle.bzsearch.specs.Search.{box_at, plane_at, line_at, least_of}
use Rattle.bzsearch.specs.SearchView.{search_view, numbers_view, axes_view}
use Rattle.bzsearch.proofs.types.BzSearch.least_box.Given as goal

abbrev pub invariant-loop-i : goal.invariant-loop-i
invariant-loop-i l = l.least ≡ least_of (search_view l.self) (float_vector l.s0) l.from (concat (box_at l.rest (axes_view l.b)) l.i)

abbrev pub invariant-loop-j : goal.invariant-loop-j
invariant-loop-j l =
    l.least ≡ least_of (search_view l.self) (float_vector l.s0) l.initial.least (concat (plane_at l.rest (numbers_view l.b.y) (numbers_view l.b.z) l.x) l.j)

abbrev pub invariant-loop-k : goal.invariant-loop-k
invariant-loop-k l =
    l.least ≡ least_of (search_view l.self) (float_vector l.s0) l.initial.least (concat (line_at l.rest (numbers_view l.b.z) l.x l.y) l.k)
