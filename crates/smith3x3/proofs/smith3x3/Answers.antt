use Rattle.std.proofs.Common.{◌≡◌, Err, ◌∙◌, ap, rules}
use Rattle.common.specs.Matrix.{diagonal}
use Rattle.common.specs.Array.{vector_of, matrix_of, matrix_at}
use Rattle.snf3x3.specs.Snf3x3.{snf3x3, snf3x3_unlimited}
use Rattle.snf3x3.specs.Written as snf
use Rattle.smith3x3.specs.Written.{written}
use Rattle.smith3x3.specs.Smith3x3.{smith3x3, multiplied}
use Rattle.smith3x3.proofs.Joining.{after-second, joined-by, after_first, again-by}
use Rattle.smith3x3.proofs.SmithForm.{promised}
use Rattle.smith3x3.proofs.smith3x3.Goals as goal

pub returns-in_err-first : goal.returns-in_err-first
unfolding smith3x3
returns-in_err-first c =
    let m = matrix_of c.args.a in
    let h : c.from_residual.result ≡ Err c.in_err-first.field-0.0 = search rules in
    let v = h ∙ ap (λ w. written (after_first w)) c.in_err-first.ensures.value ∙ ap written (again-by (snf3x3 m)) in
    record { value = v; promised = promised m c.from_residual.result v }

pub returns-in_err-second : goal.returns-in_err-second
unfolding smith3x3
returns-in_err-second c =
    let m = matrix_of c.args.a in
    let f = c.in_ok-first.first in
    let p = matrix_at f.p 0 in
    let q = matrix_at f.q 0 in
    let h : c.from_residual-in_err-second.result ≡ Err c.in_err-second.field-0.0 = search rules in
    let e = c.in_err-second.ensures ∙ ap (λ l. snf.written (snf3x3_unlimited (matrix_of l))) c.diagonal.ensures in
    let v = h ∙ ap (λ w. written (after-second p q w)) e ∙ ap written (joined-by p q (snf3x3_unlimited (diagonal (vector_of f.d_diag))))
    ∙ ap (λ w. written (after_first w)) c.in_ok-first.ensures.value ∙ ap written (again-by (snf3x3 m)) in
    record { value = v; promised = promised m c.from_residual-in_err-second.result v }

pub returns : goal.returns
unfolding smith3x3
returns c =
    let m = matrix_of c.args.a in
    let f = c.in_ok-first.first in
    let p = matrix_at f.p 0 in
    let q = matrix_at f.q 0 in
    let s = c.in_ok-second.second in
    let n : c.multiplied.result ≡ written (multiplied (vector_of s.d_diag) p q (matrix_at s.p 0) (matrix_at s.q 0)) = search rules in
    let e = c.in_ok-second.ensures ∙ ap (λ l. snf.written (snf3x3_unlimited (matrix_of l))) c.diagonal.ensures in
    let v = n ∙ ap (λ w. written (after-second p q w)) e ∙ ap written (joined-by p q (snf3x3_unlimited (diagonal (vector_of f.d_diag))))
    ∙ ap (λ w. written (after_first w)) c.in_ok-first.ensures.value ∙ ap written (again-by (snf3x3 m)) in
    record { value = v; promised = promised m c.multiplied.result v }
