use Rattle.std.proofs.Common.{◌≡◌, Some, ◌∙◌, ap, rules}
use Rattle.common.specs.Array.{matrix_of}
use Rattle.snf_steps.specs.Elementary.{elementary_add_rows}
use Rattle.snf_steps.proofs.Fitting.{not-zero}
use Rattle.hermite3x3.specs.Hermite3x3.{row_step, neg_floor}
use Rattle.hermite3x3.specs.Code.StepsView.{entry_of}
use Rattle.hermite3x3.proofs.Stepping.{reduce-made}
use Rattle.hermite3x3.proofs.steps.reduce.Goals as goal

pub returns : goal.returns
returns c =
    let a = c.args in
    let m = a.m in
    let x = entry_of m a.i a.j in
    let p = entry_of m a.j a.j in
    let e : Some c.in_ok-q.q ≡ neg_floor x p = search rules in
    let l : c.elementary_add_rows.result ≡ elementary_add_rows a.i a.j c.in_ok-q.q = search rules in
    c.row_step.ensures ∙ ap (λ l. row_step (matrix_of l) (matrix_of m)) l ∙ reduce-made a.i a.j x p (matrix_of m) (not-zero x c.if-x-eq0.false) e
