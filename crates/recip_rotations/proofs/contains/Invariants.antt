use mathlib.Core.Path.{◌≡◌}
use Prim.Native.Nat.{◌-◌}
use Rattle.common.specs.Array.{matrix_at, matrices_from}
use Rattle.recip_rotations.specs.Unique.{among}
use Rattle.recip_rotations.proofs.contains.Given as goal

abbrev pub invariant-loop-k : goal.invariant-loop-k
invariant-loop-k l =
    let m = matrix_at l.a l.n in
    among m (matrices_from l.list 0 l.count) ≡ among m (matrices_from l.list l.k (l.count - l.k))
