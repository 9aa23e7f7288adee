use mathlib.Core.Path.{◌≡◌}
use Prim.Native.Nat.{◌-◌, ◌/◌}
use lib.ListN.{length}
use lib.IntN.{ℤ}
use mathlib.Core.Bool.{Bool}
use Rattle.common.specs.Matrix.{Mat, ◌·◌}
use Rattle.common.specs.Array.{matrix_at, matrices_from, matrices}
use Rattle.common.specs.Every.{every}
use Rattle.recip_rotations.specs.Unique.{among}
use Rattle.rotation_group.proofs.products.row_inside.Given as goal

abbrev pub invariant-loop-k : goal.invariant-loop-k
invariant-loop-k l =
    let list = l.rotations.list.now in
    let p : Mat ℤ → Bool = λ x. among (matrix_at list l.m · x) (matrices list) in
    every p (matrices list) ≡ every p (matrices_from list l.k (length list / 9 - l.k))
