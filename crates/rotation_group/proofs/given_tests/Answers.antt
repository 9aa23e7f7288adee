use mathlib.Core.Path.{sym, ap}
use Rattle.std.proofs.lemmas.Result.{err_from_is_err_and}
use Rattle.common.specs.Array.{matrices}
use Rattle.common.specs.Tested.{require, after, Accepted}
use Rattle.common.specs.declared.Refusal.TheVariants.{NotGroup}
use Rattle.recip_rotations.proofs.Answered.{input-accepted}
use Rattle.rotation_group.specs.Group.{is_group}
use Rattle.rotation_group.specs.ReciprocalGroup.{given_tests}
use Rattle.rotation_group.proofs.given_tests.Goals as goal

pub returns-in_err-input_tests : goal.returns-in_err-input_tests
unfolding given_tests
returns-in_err-input_tests c =
    let r = err_from_is_err_and c.from_residual.result c.from_residual.ensures.1 in
    rw (r.1, r.2) (ap (λ t. after t (require (is_group (matrices c.args.rotations.now)) NotGroup Accepted)) c.in_err-input_tests.ensures)

pub is_group-requires-clause-fact_1 : goal.is_group-requires-clause-fact_1
is_group-requires-clause-fact_1 c = (input-accepted c.args.rotations.now c.args.places (sym c.in_ok-input_tests.ensures)).1

pub is_group-requires-clause-fact_2 : goal.is_group-requires-clause-fact_2
is_group-requires-clause-fact_2 c = (input-accepted c.args.rotations.now c.args.places (sym c.in_ok-input_tests.ensures)).2
