use mathlib.Core.Path.{◌≡◌}
use mathlib.Core.List.{map}
use Rattle.common.specs.Matrix.{transpose}
use Rattle.common.specs.Array.{matrices_from}
use Rattle.recip_rotations.specs.Flat.{laid}
use Rattle.recip_rotations.proofs.turn.Given as goal

abbrev pub invariant-loop-k : goal.invariant-loop-k
invariant-loop-k l = l.out ≡ laid (map transpose (matrices_from l.initial.out 0 l.k)) l.initial.out
