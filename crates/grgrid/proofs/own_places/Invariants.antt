use mathlib.Core.Path.{◌≡◌}
use Rattle.grgrid.specs.Own.{own_places}
use Rattle.grgrid.proofs.own_places.Given as goal

abbrev pub invariant-loop-i : goal.invariant-loop-i
invariant-loop-i l = l.r ≡ own_places l.list l.i
