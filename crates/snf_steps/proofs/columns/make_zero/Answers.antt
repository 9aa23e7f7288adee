use Rattle.std.proofs.Common.{◌≡◌, Some, ◌∙◌, rules}
use Rattle.snf_steps.specs.Then.{◌then◌}
use Rattle.snf_steps.specs.Gcd.{extended_gcd}
use Rattle.snf_steps.specs.Columns.{combination}
use Rattle.snf_steps.specs.Code.ColumnsView.{matrices_of, entry_of}
use Rattle.snf_steps.proofs.Fitting.{not-zero}
use Rattle.snf_steps.proofs.Settled.{zero-made}
use Rattle.snf_steps.proofs.columns.make_zero.Goals as goal

pub returns : goal.returns
returns c =
    let s = c.args.s in
    let a = entry_of s c.args.i c.args.i in
    let b = entry_of s c.args.j c.args.i in
    let k : Some c.in_ok-combined.field-0 ≡ (extended_gcd a b then combination a b) = search rules in
    c.combine.ensures ∙ zero-made c.args.i c.args.j a b (matrices_of s) (not-zero b c.if-b-eq0.false) k
