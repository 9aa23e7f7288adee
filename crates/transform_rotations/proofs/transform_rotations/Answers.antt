use mathlib.Core.Path.{◌≡◌, sym, ◌∙◌, ap}
use lib.ListN.{length, replicate}
use lib.IntN.{negsuc}
use borrow.Author.Rules.{rules}
use Rattle.transform_rotations.proofs.ExactCall.{outcome-by}
use Rattle.transform_rotations.proofs.transform_rotations.Goals as goal

pub returns-in-Ok : goal.returns-in-Ok
returns-in-Ok c =
    let a = c.args in
    outcome-by a.rotations.now a.d a.q (length a.out.now) (sym c.in-Ok.is ∙ c.transform_tests.ensures.value) (c.transform_tests.ensures.out_after c.in-Ok.is)

pub returns-in-Err : goal.returns-in-Err
returns-in-Err c =
    let a = c.args in
    let h : length c.transform_tests.new.out ≡ length a.out.now = search rules in
    outcome-by a.rotations.now a.d a.q (length a.out.now) (sym c.in-Err.is ∙ c.transform_tests.ensures.value) (c.fill.ensures.after (λ y e. e) ∙ ap (λ n. replicate n (negsuc 0)) h)
