use Rattle.std.proofs.Common.{◌≡◌, Some, sym, ◌∙◌, rules}
use mir.Facts.{to_z-of_z}
use Rattle.integer.proofs.Test.{holds, and_r}
use Rattle.common.specs.Matrix.{◌·◌}
use Rattle.common.specs.Array.{matrix_of}
use Rattle.snf_steps.specs.Elementary.{below_first}
use Rattle.snf_steps.specs.Columns.{small_matrix}
use Rattle.snf_steps.specs.Code.ColumnsView.{matrices_of}
use Rattle.snf_steps.proofs.SmallRows.{sized-step, below-first-sized}
use Rattle.snf_steps.proofs.columns.add_below.Goals as goal

pub added_below-p-requires : goal.added_below-p-requires
added_below-p-requires c =
    let s = c.args.s in
    (holds (sym c.if-both_small.ensures), and_r (small_matrix (matrix_of s.a)) (small_matrix (matrix_of s.p)) (holds (sym c.if-small_matrices.ensures)))

pub returns-then-small_matrices : goal.returns-then-small_matrices
returns-then-small_matrices c =
    let a = c.args in
    let t = rw (to_z-of_z c.ranges.u, to_z-of_z c.ranges.v) at (holds (sym c.if-both_small.ensures)) in
    let x : matrix_of c.added_below-a.result ≡ matrix_of (below_first a.u a.v) · matrix_of a.s.a = search rules in
    let y : matrix_of c.added_below-p.result ≡ matrix_of (below_first a.u a.v) · matrix_of a.s.p = search rules in
    (λ n. Some (record { a = x n; p = y n })) ∙ sym (sized-step (below_first a.u a.v) (below-first-sized a.u a.v t) (matrices_of a.s) (holds (sym c.if-small_matrices.ensures)))
