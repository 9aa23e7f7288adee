use Rattle.std.proofs.Common.{◌≡◌, ℕ, Some, ◌-◌, ◌+◌, refl, sym, ◌∙◌, ap, subst, rules, arith}
use Rattle.integer.proofs.Quotient.{nonzero-size}
use Rattle.snf_steps.specs.Code.SmallWalk.{Room}
use Rattle.snf_steps.proofs.Fitting.{is-zero, not-zero}
use Rattle.snf_steps.proofs.Remainders.{ended, none_left, divided}
use Rattle.snf_steps.proofs.SmallWalk.{next-room, steps-to}
use Rattle.snf_steps.proofs.gcd.walk_small.Goals as goal

pub loop-i-init : goal.loop-i-init
loop-i-init c = (refl, c.requires.0)

pub returns-then-e-eq0 : goal.returns-then-e-eq0
returns-then-e-eq0 c =
    let l = c.loop-i in
    sym (l.invariant.0 ∙ ended (1000 - l.i) l.i l.e (is-zero l.e.r1 (search rules) c.if-e-eq0.true))

pub step_small-e-requires : goal.step_small-e-requires
step_small-e-requires c = (c.loop-i.invariant.1, nonzero-size c.loop-i.e.r1 c.if-e-eq0.false)

pub loop-i-preserved : goal.loop-i-preserved
loop-i-preserved c =
    let l = c.loop-i in
    let h = l.invariant.1 in
    let d = nonzero-size l.e.r1 c.if-e-eq0.false in
    let n = 1000 - (l.i + 1) in
    (l.invariant.0 ∙ divided n l.i l.e (omega (arith, c.loop-i-test.true)) (not-zero l.e.r1 c.if-e-eq0.false) (ap Some c.step_small-e.ensures ∙ steps-to l.e h d), subst Room (sym c.step_small-e.ensures) (next-room l.e h d))

pub returns : goal.returns
returns c =
    let l = c.loop-i in
    sym (l.invariant.0 ∙ none_left l.i l.e (omega (arith, c.loop-i-test.false)) ∙ ap (λ (k : ℕ). Some (record { last = l.e; count = k })) (let e : l.i ≡ 1000 = omega (arith, c.loop-i-test.false, l.auto.i-end c.requires.1) in e))
