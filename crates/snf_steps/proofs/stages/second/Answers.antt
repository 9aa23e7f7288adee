use Rattle.std.proofs.Common.{◌≡◌, ◌&&◌, true, refl, sym, ◌∙◌, ap, rules}
use Rattle.integer.specs.Checked.{is_zero}
use Rattle.snf_steps.specs.Then.{◌then◌}
use Rattle.snf_steps.specs.Stages.{second, second_end}
use Rattle.snf_steps.specs.Code.StagesView.{three_of, outcome_of}
use Rattle.snf_steps.proofs.Fitting.{two-zeros}
use Rattle.snf_steps.proofs.Settled.{second-kept}
use Rattle.snf_steps.proofs.stages.second.Goals as goal

pub returns-then-both_zero : goal.returns-then-both_zero
returns-then-both_zero c =
    let s = three_of c.args.s in
    let zeros : true ≡ is_zero s.a.f && is_zero s.a.h = search rules in
    let y = two-zeros zeros refl in
    sym (second-kept s y.0 y.1)

pub returns : goal.returns
unfolding second
returns c =
    let e : outcome_of c.second_tests.result ≡ second_end (three_of c.in_ok-t.t) = search rules in
    e ∙ ap (λ r. r then second_end) c.in_ok-t.ensures
