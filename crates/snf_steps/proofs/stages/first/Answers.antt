use Rattle.std.proofs.Common.{◌≡◌, ◌&&◌, true, refl, sym, rules}
use Rattle.integer.specs.Checked.{is_zero}
use Rattle.snf_steps.specs.Code.StagesView.{three_of}
use Rattle.snf_steps.proofs.Fitting.{two-zeros}
use Rattle.snf_steps.proofs.Settled.{first-kept}
use Rattle.snf_steps.proofs.stages.first.Goals as goal

pub returns-then-both_zero-2 : goal.returns-then-both_zero-2
returns-then-both_zero-2 c =
    let s = three_of c.args.s in
    let row : true ≡ is_zero s.a.b && is_zero s.a.c = search rules in
    let column : true ≡ is_zero s.a.d && is_zero s.a.g = search rules in
    let y = two-zeros row refl in
    let z = two-zeros column refl in
    sym (first-kept s y.0 y.1 z.0 z.1)
