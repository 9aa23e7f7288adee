use Rattle.std.proofs.Common.{◌≡◌, Some, sym, ◌∙◌, rules}
use mir.Facts.{to_z-of_z}
use Rattle.integer.proofs.Test.{holds, and_r}
use Rattle.common.specs.Matrix.{◌·◌}
use Rattle.common.specs.Array.{matrix_of}
use Rattle.snf_steps.specs.Elementary.{below_second}
use Rattle.snf_steps.specs.Columns.{small_matrix}
use Rattle.snf_steps.specs.Code.ColumnsView.{matrices_of}
use Rattle.snf_steps.proofs.SmallRows.{sized-step, below-second-sized}
use Rattle.snf_steps.proofs.columns.add_last.Goals as goal

pub added_last-p-requires : goal.added_last-p-requires
added_last-p-requires c =
    let s = c.args.s in
    (holds (sym c.if-is_small.ensures), and_r (small_matrix (matrix_of s.a)) (small_matrix (matrix_of s.p)) (holds (sym c.if-small_matrices.ensures)))

pub returns-then-small_matrices : goal.returns-then-small_matrices
returns-then-small_matrices c =
    let a = c.args in
    let t = rw (to_z-of_z c.ranges.v) at (holds (sym c.if-is_small.ensures)) in
    let x : matrix_of c.added_last-a.result ≡ matrix_of (below_second a.v) · matrix_of a.s.a = search rules in
    let y : matrix_of c.added_last-p.result ≡ matrix_of (below_second a.v) · matrix_of a.s.p = search rules in
    (λ n. Some (record { a = x n; p = y n })) ∙ sym (sized-step (below_second a.v) (below-second-sized a.v t) (matrices_of a.s) (holds (sym c.if-small_matrices.ensures)))
