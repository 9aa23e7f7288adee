use Rattle.std.proofs.Common.{Some, sym, ◌∙◌}
use Rattle.integer.proofs.Test.{holds, and_r}
use Rattle.common.specs.Array.{matrix_of}
use Rattle.snf_steps.specs.Elementary.{elementary_flip_sign_row}
use Rattle.snf_steps.specs.Columns.{small_matrix}
use Rattle.snf_steps.specs.Code.ColumnsView.{matrices_of}
use Rattle.snf_steps.proofs.SmallRows.{sized-step, flip-sized}
use Rattle.snf_steps.proofs.columns.flip_row.Goals as goal

pub flipped-p-requires : goal.flipped-p-requires
flipped-p-requires c =
    let s = c.args.s in
    (c.requires, and_r (small_matrix (matrix_of s.a)) (small_matrix (matrix_of s.p)) (holds (sym c.if-small_matrices.ensures)))

pub returns-then-small_matrices : goal.returns-then-small_matrices
returns-then-small_matrices c =
    (λ n. Some (record { a = c.flipped-a.ensures n; p = c.flipped-p.ensures n }))
    ∙ sym (sized-step (elementary_flip_sign_row c.args.i) (flip-sized c.args.i) (matrices_of c.args.s) (holds (sym c.if-small_matrices.ensures)))
