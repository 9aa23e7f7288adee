use mathlib.Core.Path.{sym, ◌∙◌}
use native.Mathlib.Nat.{sub-zero}
use borrow.Author.Rules.{rules}
use Rattle.common.specs.Array.{matrix_at}
use Rattle.recip_rotations.proofs.Among.{found, further, nowhere}
use Rattle.recip_rotations.proofs.contains.Goals as goal

pub loop-k-init : goal.loop-k-init
loop-k-init c = rw sub-zero

pub returns-then-same_matrix : goal.returns-then-same_matrix
returns-then-same_matrix c =
    let a = c.args in
    sym (c.loop-k.invariant ∙ found a.list.now c.loop-k.k a.count (matrix_at a.a.now a.n) (search rules) (sym c.same_matrix.ensures ∙ c.if-same_matrix.true))

pub loop-k-preserved : goal.loop-k-preserved
loop-k-preserved c =
    let a = c.args in
    c.loop-k.invariant ∙ further a.list.now c.loop-k.k a.count (matrix_at a.a.now a.n) (search rules) (sym c.same_matrix.ensures ∙ c.if-same_matrix.false)

pub returns : goal.returns
returns c =
    let a = c.args in
    sym (c.loop-k.invariant ∙ nowhere a.list.now c.loop-k.k a.count (matrix_at a.a.now a.n) (search rules))
