use mathlib.Core.Path.{◌≡◌}
use mathlib.Core.List.{map}
use Prim.Native.Nat.{◌/◌}
use lib.ListN.{length}
use Rattle.common.specs.Array.{vector_of, matrices}
use Rattle.grgrid.specs.Grid.{rotate}
use Rattle.grgrid.specs.Sides.{sides}
use Rattle.grgrid.specs.ClassMap.{first_lower}
use Rattle.grgrid.proofs.Lower.{lower_from}
use Rattle.grgrid.proofs.first_lower.Given as goal

abbrev pub invariant-loop-n : goal.invariant-loop-n
invariant-loop-n l =
    let turn = rotate (sides l.point.g) (vector_of l.ps.v) in
    lower_from turn l.rotations.list.now l.point.p l.n (length l.rotations.list.now / 9) ≡ first_lower (map turn (matrices l.rotations.list.now)) l.point.p
