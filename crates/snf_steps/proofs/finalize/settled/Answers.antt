use Rattle.std.proofs.Common.{◌≡◌, ◌&&◌, Bool, ◌∙◌, ap, rules}
use Rattle.common.specs.Array.{matrix_of}
use Rattle.snf_steps.specs.Code.Settled.{in_order}
use Rattle.snf_steps.proofs.finalize.settled.Goals as goal

pub returns-then-off_diagonal_zero : goal.returns-then-off_diagonal_zero
returns-then-off_diagonal_zero c =
    let m = matrix_of c.args.m in
    let h : c.in_order.result ≡ in_order m.a m.e m.i = search rules in
    h ∙ ap (λ (t : Bool). t && in_order m.a m.e m.i) c.if-off_diagonal_zero.ensures
