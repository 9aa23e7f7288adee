use mathlib.Core.Path.{sym, ◌∙◌}
use Prim.Native.Nat.{◌/◌}
use native.Mathlib.Nat.{sub-zero}
use lib.ListN.{length}
use borrow.Author.Rules.{rules}
use Rattle.common.specs.Matrix.{◌·◌}
use Rattle.common.specs.Array.{matrix_at, matrices}
use Rattle.recip_rotations.specs.Unique.{among}
use Rattle.rotation_group.proofs.Walking.{every-on, every-stop, every-end}
use Rattle.rotation_group.proofs.products.row_inside.Goals as goal

pub loop-k-init : goal.loop-k-init
loop-k-init c = rw sub-zero

pub returns-then-not-has_product : goal.returns-then-not-has_product
returns-then-not-has_product c =
    let l = c.args.rotations.list.now in
    sym (c.loop-k.invariant ∙ every-stop l c.loop-k.k (length l / 9) (λ x. among (matrix_at l c.args.m · x) (matrices l)) (search rules) (sym c.has_product.ensures ∙ c.if-not-has_product.true))

pub loop-k-preserved : goal.loop-k-preserved
loop-k-preserved c =
    let l = c.args.rotations.list.now in
    c.loop-k.invariant ∙ every-on l c.loop-k.k (length l / 9) (λ x. among (matrix_at l c.args.m · x) (matrices l)) (search rules) (sym c.has_product.ensures ∙ c.if-not-has_product.false)

pub returns : goal.returns
returns c =
    let l = c.args.rotations.list.now in
    sym (c.loop-k.invariant ∙ every-end l c.loop-k.k (length l / 9) (λ x. among (matrix_at l c.args.m · x) (matrices l)) (search rules))
