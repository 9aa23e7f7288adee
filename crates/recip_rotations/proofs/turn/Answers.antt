use mathlib.Core.Path.{sym, ◌∙◌, ap}
use borrow.Author.Rules.{rules}
use Rattle.common.specs.Array.{matrices_from}
use Rattle.recip_rotations.specs.PointGroup.{transposed_if}
use Rattle.recip_rotations.specs.Flat.{laid}
use Rattle.recip_rotations.proofs.Blocks.{laid-self, laid-transpose}
use Rattle.recip_rotations.proofs.turn.Goals as goal

pub loop-k-preserved : goal.loop-k-preserved
loop-k-preserved c = c.transpose_at.ensures ∙ laid-transpose c.args.out.now c.loop-k.k (search rules) c.loop-k.invariant

pub returns-else-is_transpose : goal.returns-else-is_transpose
returns-else-is_transpose c =
    let a = c.args in
    laid-self a.out.now a.count (search rules) ∙ ap (λ t. laid (transposed_if t (matrices_from a.out.now 0 a.count)) a.out.now) (sym c.if-is_transpose.false)
