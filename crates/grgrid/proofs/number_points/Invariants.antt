use mathlib.Core.Path.{◌≡◌}
use mathlib.Core.List.{map}
use lib.IntN.{pos}
use Rattle.common.specs.Array.{vector_of, matrices}
use Rattle.grgrid.specs.Grid.{rotate}
use Rattle.grgrid.specs.Sides.{sides}
use Rattle.grgrid.specs.ClassMap.{number}
use Rattle.grgrid.proofs.Built.{written}
use Rattle.grgrid.proofs.number_points.Given as goal

abbrev pub invariant-loop-p : goal.invariant-loop-p
invariant-loop-p l = l.out ≡ written (number (map (rotate (sides l.g) (vector_of l.ps.v)) (matrices l.rotations.list.now))) pos l.p l.initial.out
