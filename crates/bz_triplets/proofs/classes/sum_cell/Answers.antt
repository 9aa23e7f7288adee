use mathlib.Core.Path.{sym, ◌∙◌}
use Rattle.integer.proofs.Test.{holds}
use Rattle.common.specs.Array.{vector_of}
use Rattle.grgrid.specs.Sides.{sides}
use Rattle.grgrid.proofs.Folding.{origin-cell}
use Rattle.grgrid.proofs.Sizes.{grid-sides}
use Rattle.bz_triplets.proofs.Sums.{zero-sum}
use Rattle.bz_triplets.proofs.classes.sum_cell.Goals as goal

pub returns-then-is_zero : goal.returns-then-is_zero
returns-then-is_zero c =
    let s = c.args in
    sym (origin-cell (sides s.g) (grid-sides s.g) (zero-sum (vector_of s.sum.v) (holds (sym c.is_zero.ensures ∙ c.if-is_zero.true))))
