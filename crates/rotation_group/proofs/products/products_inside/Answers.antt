use mathlib.Core.Path.{sym, ◌∙◌}
use Prim.Native.Nat.{◌/◌}
use native.Mathlib.Nat.{sub-zero}
use lib.ListN.{length}
use borrow.Author.Rules.{rules}
use Rattle.integer.proofs.Test.{holds, is_true}
use Rattle.common.specs.Array.{matrix_at, matrices}
use Rattle.rotation_group.specs.Group.{row_inside}
use Rattle.rotation_group.proofs.Marks.{known-none, known-set}
use Rattle.rotation_group.proofs.Walking.{every-on, every-stop}
use Rattle.rotation_group.proofs.products.products_inside.Goals as goal
use Rattle.rotation_group.proofs.products.products_inside.Goals.{then-not-known-m+else-not-row_inside, else-not-known-m}

pub loop-m-init : goal.loop-m-init
loop-m-init c = (known-none c.args.rotations.list.now 192, rw sub-zero)

pub returns-then-not-row_inside : goal.returns-then-not-row_inside
returns-then-not-row_inside c =
    let l = c.args.rotations.list.now in
    sym (c.loop-m.invariant.1 ∙ every-stop l c.loop-m.m (length l / 9) (row_inside (matrices l)) (search rules) (sym c.row_inside.ensures ∙ c.if-not-row_inside.true))

pub loop-m-preserved : goal.loop-m-preserved
loop-m-preserved c =
    let l = c.args.rotations.list.now in
    let m = c.loop-m.m in
    let inv = c.loop-m.invariant in
    let on = every-on l m (length l / 9) (row_inside (matrices l)) (search rules) in
    elim c.if-not-known-m.branch [
      | then-not-known-m+else-not-row_inside w ↦
          let e = sym w.row_inside.ensures ∙ w.if-not-row_inside.false in
          (rw w.known-is (known-set m w.mark.ensures (holds e)), inv.1 ∙ on e)
      | else-not-known-m w ↦
          let e = is_true (row_inside (matrices l) (matrix_at l m)) (inv.0.inside m w.if-not-known-m.false) in
          (rw w.known-is inv.0, inv.1 ∙ on e)
    ]
