use mathlib.Core.Path.{◌≡◌}
use Prim.Native.Nat.{◌≤◌}
use lib.ListN.{length}
use Rattle.common.specs.Array.{matrices_from}
use Rattle.recip_rotations.specs.Unique.{unique}
use Rattle.recip_rotations.specs.Flat.{laid}
use Rattle.recip_rotations.proofs.collect.Given as goal

abbrev pub invariant-loop-n : goal.invariant-loop-n
invariant-loop-n l =
    let first = unique (matrices_from l.rotations 0 l.n) in
    (l.found ≤ 48) × (l.found ≡ length first) × (l.out ≡ laid first l.initial.out)
