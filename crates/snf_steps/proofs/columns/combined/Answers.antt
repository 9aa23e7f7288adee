use Rattle.std.proofs.Common.{◌≡◌, Some, None, ◌∙◌, ap, rules}
use Rattle.integer.proofs.Fits.{held}
use Rattle.snf_steps.specs.Then.{◌then◌}
use Rattle.snf_steps.specs.Elementary.{quotient, neg_quotient}
use Rattle.snf_steps.specs.Gcd.{extended_gcd}
use Rattle.snf_steps.specs.Columns.{combination}
use Rattle.snf_steps.proofs.Fitting.{with-v, combination-by}
use Rattle.snf_steps.proofs.columns.combined.Goals as goal

pub returns-in_err-checked_neg_quotient : goal.returns-in_err-checked_neg_quotient
returns-in_err-checked_neg_quotient c =
    let a = c.args in
    let g = c.in_ok-g.g in
    let e : Some g ≡ extended_gcd a.a a.b = search rules in
    let v : None ≡ neg_quotient a.b g.r = search rules in
    c.from_residual-in_err-checked_neg_quotient.ensures ∙ ap (λ r. r then with-v a.a g) v ∙ combination-by a.a a.b g ∙ ap (λ r. r then combination a.a a.b) e

pub returns-in_err-checked_quotient : goal.returns-in_err-checked_quotient
returns-in_err-checked_quotient c =
    let a = c.args in
    let g = c.in_ok-g.g in
    let v = c.in_ok-checked_neg_quotient.field-0 in
    let e : Some g ≡ extended_gcd a.a a.b = search rules in
    let ev : Some v ≡ neg_quotient a.b g.r = search rules in
    let eu : None ≡ quotient a.a g.r = search rules in
    c.from_residual-in_err-checked_quotient.ensures ∙ ap (λ r. r then λ u. Some (record { s = g.s; t = g.t; v = v; u = u })) eu ∙ ap (λ r. r then with-v a.a g) ev ∙ combination-by a.a a.b g
    ∙ ap (λ r. r then combination a.a a.b) e

pub returns : goal.returns
returns c =
    let a = c.args in
    let g = c.in_ok-g.g in
    let v = c.in_ok-checked_neg_quotient.field-0 in
    let u = c.in_ok-checked_quotient.field-0 in
    let e : Some g ≡ extended_gcd a.a a.b = search rules in
    let ev : Some v ≡ neg_quotient a.b g.r = search rules in
    let eu : Some u ≡ quotient a.a g.r = search rules in
    let d : Some (record { s = held g.s; t = held g.t; v = held v; u = held u }) ≡ Some (record { s = g.s; t = g.t; v = v; u = u }) = search rules in
    d ∙ ap (λ r. r then λ u. Some (record { s = g.s; t = g.t; v = v; u = u })) eu ∙ ap (λ r. r then with-v a.a g) ev ∙ combination-by a.a a.b g ∙ ap (λ r. r then combination a.a a.b) e
