use mathlib.Core.Path.{◌≡◌}
use Prim.Native.Nat.{◌<◌}
use Rattle.grgrid.specs.Grid.{place}
use Rattle.grgrid.specs.Sides.{sides, remainders}
use Rattle.grgrid.proofs.Walk.{listed}
use Rattle.grgrid.proofs.write_addresses.Given as goal

abbrev pub invariant-loop-p : goal.invariant-loop-p
invariant-loop-p l = (l.r.x < l.g.x) × (l.r.y < l.g.y) × (place (sides l.g) (remainders l.r) ≡ l.p) × (l.out ≡ listed (sides l.g) l.p l.initial.out)
