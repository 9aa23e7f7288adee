use mathlib.Core.Path.{sym, ◌∙◌}
use lib.ListN.{length}
use Rattle.rotation_group.proofs.Outcome.{group-refused, group-told}
use Rattle.rotation_group.proofs.reciprocal_group.Goals as goal

pub returns-in-Ok : goal.returns-in-Ok
returns-in-Ok c =
    let a = c.args in
    c.reciprocal_rotations.ensures ∙ group-told a.rotations.now a.is_time_reversal (length a.out.now) (sym c.in-Ok.ensures)

pub returns-in-Err : goal.returns-in-Err
returns-in-Err c =
    let a = c.args in
    group-refused a.rotations.now a.is_time_reversal (length a.out.now) (sym c.in-Err.ensures) (c.fill.ensures.after (λ y e. e))
