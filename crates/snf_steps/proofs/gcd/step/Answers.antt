use Rattle.std.proofs.Common.{◌≡◌, Option, Some, sym, ◌∙◌, ap, rules, ℤ}
use Rattle.integer.proofs.Fits.{held}
use Rattle.snf_steps.specs.declared.gcd.Euclid.{Euclid}
use Rattle.snf_steps.specs.Gcd.{step}
use Rattle.snf_steps.specs.Then.{◌then◌}
use Rattle.snf_steps.proofs.Fitting.{whole_quotient}
use Rattle.snf_steps.proofs.Remainders.{whole, less, with-s, with-quotient, step-by}
use Rattle.snf_steps.proofs.gcd.step.Goals as goal

-- after the quotient q, and after the first coefficient
with-q : (e : Euclid) {r : Option ℤ} {q : ℤ} → r ≡ whole e.r e.r1 → r ≡ Some q → step e ≡ with-quotient e q
with-q e h w = step-by e h ∙ ap (λ r. r then with-quotient e) w

with-less : (e : Euclid) (q : ℤ) {m : Option ℤ} {r : Option Euclid} → m ≡ less e.s q e.s1 → (m then λ s. less e.t q e.t1 then λ t. with-s e s t) ≡ r → with-quotient e q ≡ r
with-less e q h k = ap (λ m. m then λ s. less e.t q e.t1 then λ t. with-s e s t) (sym h) ∙ k

pub returns-in_err-q : goal.returns-in_err-q
returns-in_err-q c =
    let e = c.args.e in
    let h = whole_quotient c.checked_div_euclid.result e.r e.r1 (search rules) (search rules) c.requires (search rules) in
    c.from_residual.ensures ∙ sym (step-by e h ∙ ap (λ r. r then with-quotient e) c.in_err-q.was)

pub returns-in_err-less : goal.returns-in_err-less
returns-in_err-less c =
    let e = c.args.e in
    let q = c.in_ok-q.q in
    let h = whole_quotient c.checked_div_euclid.result e.r e.r1 (search rules) (search rules) c.requires (search rules) in
    let l : c.less.result ≡ less e.s q e.s1 = search rules in
    c.from_residual-in_err-less.ensures ∙ sym (with-q e h c.in_ok-q.was ∙ with-less e q l (ap (λ m. m then λ s. less e.t q e.t1 then λ t. with-s e s t) c.in_err-less.was))

pub returns-in_err-less-2 : goal.returns-in_err-less-2
returns-in_err-less-2 c =
    let e = c.args.e in
    let q = c.in_ok-q.q in
    let h = whole_quotient c.checked_div_euclid.result e.r e.r1 (search rules) (search rules) c.requires (search rules) in
    let l : c.less.result ≡ less e.s q e.s1 = search rules in
    let m : c.less-2.result ≡ less e.t q e.t1 = search rules in
    c.from_residual-in_err-less-2.ensures
    ∙ sym (with-q e h c.in_ok-q.was ∙ with-less e q l (ap (λ m. m then λ s. less e.t q e.t1 then λ t. with-s e s t) c.in_ok-less.was ∙ ap (λ m. m then λ t. with-s e c.in_ok-less.field-0 t) (sym m ∙ c.in_err-less-2.was)))

pub returns : goal.returns
returns c =
    let e = c.args.e in
    let q = c.in_ok-q.q in
    let s = c.in_ok-less.field-0 in
    let t = c.in_ok-less-2.field-0 in
    let h = whole_quotient c.checked_div_euclid.result e.r e.r1 (search rules) (search rules) c.requires (search rules) in
    let l : c.less.result ≡ less e.s q e.s1 = search rules in
    let m : c.less-2.result ≡ less e.t q e.t1 = search rules in
    let d : Some (record { r = held e.r1; r1 = held c.rest.result; s = held e.s1; s1 = held s; t = held e.t1; t1 = held t }) ≡ with-s e s t = search rules in
    d
    ∙ sym (with-q e h c.in_ok-q.was ∙ with-less e q l (ap (λ m. m then λ s. less e.t q e.t1 then λ t. with-s e s t) c.in_ok-less.was ∙ ap (λ m. m then λ t. with-s e s t) (sym m ∙ c.in_ok-less-2.was)))
