use Rattle.std.proofs.Common.{◌≡◌, ℕ, Some, ◌-◌, ◌+◌, sym, ◌∙◌, ap, rules, arith}
use Rattle.integer.proofs.Test.{holds}
use Rattle.snf_steps.specs.Then.{◌then◌}
use Rattle.snf_steps.specs.Gcd.{counted_gcd}
use Rattle.snf_steps.specs.Code.SmallWalk.{walked}
use Rattle.snf_steps.proofs.Fitting.{is-zero, not-zero}
use Rattle.snf_steps.proofs.Remainders.{begun, ended, none_left, divided}
use Rattle.snf_steps.proofs.SmallWalk.{small-room}
use Rattle.snf_steps.proofs.gcd.counted_gcd.Goals as goal

pub loop-i-init : goal.loop-i-init
loop-i-init c = begun _ _

pub returns-then-e-eq0 : goal.returns-then-e-eq0
returns-then-e-eq0 c =
    let l = c.loop-i in
    let h : counted_gcd c.args.a c.args.b ≡ walked (1000 - l.i) l.i l.e = search rules in
    sym (h ∙ ended (1000 - l.i) l.i l.e (is-zero l.e.r1 (search rules) c.if-e-eq0.true))

pub walk_small-requires : goal.walk_small-requires
walk_small-requires c = (small-room c.loop-i.e (holds (sym c.small.ensures ∙ c.if-small.true)), omega (arith, c.loop-i-test.true))

pub returns-then-small : goal.returns-then-small
returns-then-small c =
    let l = c.loop-i in
    let h : counted_gcd c.args.a c.args.b ≡ walked (1000 - l.i) l.i l.e = search rules in
    c.walk_small.ensures ∙ sym h

pub returns-in_err-e : goal.returns-in_err-e
returns-in_err-e c =
    let l = c.loop-i in
    let h : counted_gcd c.args.a c.args.b ≡ walked (1000 - l.i) l.i l.e = search rules in
    let n = 1000 - (l.i + 1) in
    c.from_residual.ensures
    ∙ sym (h ∙ divided n l.i l.e (omega (arith, c.loop-i-test.true)) (not-zero l.e.r1 c.if-e-eq0.false) c.step.ensures ∙ ap (λ r. r then walked n (l.i + 1)) c.in_err-e.was)

pub loop-i-preserved : goal.loop-i-preserved
loop-i-preserved c =
    let l = c.loop-i in
    let n = 1000 - (l.i + 1) in
    l.invariant ∙ divided n l.i l.e (omega (arith, c.loop-i-test.true)) (not-zero l.e.r1 c.if-e-eq0.false) c.step.ensures ∙ ap (λ r. r then walked n (l.i + 1)) c.in_ok-e.was

pub returns : goal.returns
returns c =
    let l = c.loop-i in
    let h : counted_gcd c.args.a c.args.b ≡ walked (1000 - l.i) l.i l.e = search rules in
    sym (h ∙ none_left l.i l.e (omega (arith, c.loop-i-test.false)) ∙ ap (λ (k : ℕ). Some (record { last = l.e; count = k })) (let e : l.i ≡ 1000 = omega (arith, c.loop-i-test.false, l.auto.i-end) in e))
