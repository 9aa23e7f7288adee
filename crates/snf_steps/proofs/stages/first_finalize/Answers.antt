use Rattle.std.proofs.Common.{◌≡◌, Some, ◌∙◌, ap, rules}
use Rattle.integer.proofs.Fits.{held}
use Rattle.common.specs.Array.{matrix_of}
use Rattle.snf_steps.specs.Then.{◌then◌}
use Rattle.snf_steps.specs.Elementary.{below_first, neg_quotient}
use Rattle.snf_steps.specs.Columns.{multiply}
use Rattle.snf_steps.specs.Stages.{rows_of, with_rows, on_rows, through}
use Rattle.snf_steps.specs.Code.ColumnsView.{matrices_of}
use Rattle.snf_steps.specs.Code.StagesView.{three_of}
use Rattle.snf_steps.proofs.stages.first_finalize.Goals as goal

pub returns : goal.returns
returns c =
    let a = c.args in
    let s = three_of a.s in
    let u = c.in_ok-u.u in
    let v = c.in_ok-v.v in
    let eu : Some u ≡ neg_quotient a.y a.d = search rules in
    let ev : Some v ≡ neg_quotient a.z a.d = search rules in
    let l = matrix_of (below_first u v) in
    let x : held u ≡ u = search rules in
    let y : held v ≡ v = search rules in
    let h : Some (matrices_of c.in_ok-add_below.field-0) ≡ multiply l (rows_of s) = c.in_ok-add_below.ensures ∙ (λ n. multiply (matrix_of (below_first (x n) (y n))) (c.rows_of.ensures n)) in
    let et : Some (three_of c.with_rows-t.result) ≡ on_rows (multiply l) s = ap Some c.with_rows-t.ensures ∙ ap (λ r. r then λ p. Some (with_rows s p)) h in
    ap (λ r. r then through) et
    ∙ ap (λ r. r then λ v. on_rows (multiply (matrix_of (below_first u v))) s then through) ev
    ∙ ap (λ r. r then λ u. neg_quotient a.z a.d then λ v. on_rows (multiply (matrix_of (below_first u v))) s then through) eu
