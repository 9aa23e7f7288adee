use Rattle.std.proofs.Common.{◌≡◌, ℕ, suc, ◌+◌, ◌-◌, ◌<◌, Some, None, Err, sym, ◌∙◌, ap, arith, rules, cond}
use Rattle.snf_steps.specs.Finalize.{finalize}
use Rattle.snf_steps.specs.Code.StagesView.{three_of, triple_of, outcome_of}
use Rattle.common.specs.declared.Refusal.TheVariants.{Overflow}
use Rattle.snf3x3.specs.Snf3x3.{answer, rounds}
use Rattle.snf3x3.specs.Written.{written}
use Rattle.snf3x3.proofs.Passes.{none_left, one_pass}
use Rattle.snf3x3.proofs.rounds.Goals as goal

left : (n : ℕ) → n < 100 → 100 - n ≡ suc (99 - n)
left n h = omega arith

later : (n : ℕ) → 99 - n ≡ 100 - (n + 1)
later n = omega arith

next : (n : ℕ) → n + 1 ≡ suc n
next n = omega arith

pub returns-in_err-o : goal.returns-in_err-o
returns-in_err-o c =
    let l = c.loop-n in
    let r : c.round.result ≡ None = search rules in
    let e : c.from_residual.result ≡ Err Overflow = search rules in
    e ∙ sym (ap written (l.invariant ∙ one_pass (99 - l.n) l.n (three_of l.t) (left l.n c.loop-n-test.true) (sym c.round.ensures ∙ ap outcome_of r)))

pub returns-in_err-f : goal.returns-in_err-f
returns-in_err-f c =
    let l = c.loop-n in
    let y = three_of c.in_ok-o.o.left in
    let r : c.round.result ≡ Some c.in_ok-o.o = search rules in
    let f : c.finalize.result ≡ None = search rules in
    let e : c.from_residual-in_err-f.result ≡ Err Overflow = search rules in
    e ∙ sym (ap written (l.invariant ∙ one_pass (99 - l.n) l.n (three_of l.t) (left l.n c.loop-n-test.true) (sym c.round.ensures ∙ ap outcome_of r)
    ∙ (λ i. cond (c.if-o.true i) (answer (suc l.n) ((sym c.finalize.ensures ∙ ap triple_of f) i)) (rounds (99 - l.n) (suc l.n) y))))

pub returns-then-o : goal.returns-then-o
returns-then-o c =
    let l = c.loop-n in
    let y = three_of c.in_ok-o.o.left in
    let r : c.round.result ≡ Some c.in_ok-o.o = search rules in
    let f : c.finalize.result ≡ Some c.in_ok-f.f = search rules in
    c.answer.ensures ∙ ap (λ (k : ℕ). written (answer k (Some (three_of c.in_ok-f.f)))) (next l.n)
    ∙ sym (ap written (l.invariant ∙ one_pass (99 - l.n) l.n (three_of l.t) (left l.n c.loop-n-test.true) (sym c.round.ensures ∙ ap outcome_of r)
    ∙ (λ i. cond (c.if-o.true i) (answer (suc l.n) ((sym c.finalize.ensures ∙ ap triple_of f) i)) (rounds (99 - l.n) (suc l.n) y))))

pub loop-n-preserved : goal.loop-n-preserved
loop-n-preserved c =
    let l = c.loop-n in
    let y = three_of c.in_ok-o.o.left in
    let r : c.round.result ≡ Some c.in_ok-o.o = search rules in
    l.invariant ∙ one_pass (99 - l.n) l.n (three_of l.t) (left l.n c.loop-n-test.true) (sym c.round.ensures ∙ ap outcome_of r)
    ∙ (λ i. cond (c.if-o.false i) (answer (suc l.n) (finalize y)) (rounds (99 - l.n) (suc l.n) y))
    ∙ (λ i. rounds (later l.n i) (sym (next l.n) i) y)

pub returns : goal.returns
returns c =
    let l = c.loop-n in
    sym (ap written (l.invariant ∙ none_left l.n (three_of l.t) (omega (arith, c.loop-n-test.false))))
