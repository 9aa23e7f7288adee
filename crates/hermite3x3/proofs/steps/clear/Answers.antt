use Rattle.std.proofs.Common.{◌≡◌, Some, ◌∙◌, ap, rules}
use Rattle.common.specs.Array.{matrix_of}
use Rattle.snf_steps.specs.Then.{◌then◌}
use Rattle.snf_steps.specs.Elementary.{combining}
use Rattle.snf_steps.specs.Gcd.{extended_gcd}
use Rattle.snf_steps.specs.Columns.{combination}
use Rattle.snf_steps.proofs.Fitting.{not-zero}
use Rattle.hermite3x3.specs.Hermite3x3.{row_step}
use Rattle.hermite3x3.specs.Code.StepsView.{entry_of}
use Rattle.hermite3x3.proofs.Stepping.{clear-made}
use Rattle.hermite3x3.proofs.steps.clear.Goals as goal

pub returns : goal.returns
returns c =
    let a = c.args in
    let m = a.m in
    let k = c.in_ok-c.c in
    let x = entry_of m a.i a.i in
    let y = entry_of m a.j a.i in
    let e : Some k ≡ (extended_gcd x y then combination x y) = search rules in
    let l : c.elementary_set_zero.result ≡ combining a.i a.j k.s k.t k.v k.u = search rules in
    c.row_step.ensures ∙ ap (λ l. row_step (matrix_of l) (matrix_of m)) l ∙ clear-made a.i a.j x y (matrix_of m) (not-zero y c.if-y-eq0.false) e
