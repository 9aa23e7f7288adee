use mathlib.Core.Path.{subst}
use lib.Dec.{T}
use Rattle.common.specs.Array.{matrix_at, matrices}
use Rattle.rotation_group.specs.Group.{row_inside}
use Rattle.rotation_group.proofs.Marks.{row-product, known-set}
use Rattle.rotation_group.proofs.products.mark.Goals as goal
use Rattle.rotation_group.proofs.products.mark.Goals.{then-known-n+in-Some, then-known-n+in_default, else-known-n}

pub loop-n-preserved : goal.loop-n-preserved
loop-n-preserved c =
    let l = c.args.rotations.list.now in
    let inv = c.loop-n.invariant in
    let n = c.loop-n.n in
    elim c.if-known-n.branch [
      | then-known-n+in-Some w ↦
          let t = row-product (matrices l) (matrix_at l c.args.m) (matrix_at l n) c.requires.inside (inv.inside n w.if-known-n.true) in
          rw w.known-is (known-set w.in-Some.k inv (subst (λ M. T (row_inside (matrices l) M)) w.in-Some.ensures.1 t))
      | then-known-n+in_default w ↦ rw w.known-is inv
      | else-known-n w ↦ rw w.known-is inv
    ]
