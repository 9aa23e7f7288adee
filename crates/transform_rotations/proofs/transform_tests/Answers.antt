use mathlib.Core.Path.{sym, ◌∙◌, ap}
use lib.ListN.{length}
use Rattle.std.proofs.lemmas.Result.{err_from_is_err_and}
use Rattle.common.specs.Array.{vector_of, matrix_of, matrices}
use Rattle.common.specs.declared.Refusal.TheVariants.{SymmetryBroken}
use Rattle.common.specs.Tested.{require, after, Accepted}
use Rattle.common.proofs.Tests.{not-accepted}
use Rattle.transform_rotations.specs.TransformRotations.{all_whole, transform_tests}
use Rattle.transform_rotations.proofs.Accepted.{input-accepted}
use Rattle.transform_rotations.proofs.transform_tests.Goals as goal

pub returns-in_err-input_tests : goal.returns-in_err-input_tests
unfolding transform_tests
returns-in_err-input_tests c =
    let a = c.args in
    let r = err_from_is_err_and c.from_residual.result c.from_residual.ensures.1 in
    let w = require (all_whole (vector_of a.d) (matrix_of a.q) (matrices a.rotations.now)) SymmetryBroken Accepted in
    record {
      value = rw (r.1, r.2) (ap (λ t. after t w) c.in_err-input_tests.ensures);
      out_after = λ h. absurd (not-accepted (sym r.1 ∙ h));
    }

pub transform_all-requires-clause-same_length : goal.transform_all-requires-clause-same_length
transform_all-requires-clause-same_length c =
    let a = c.args in
    (input-accepted a.rotations.now a.d a.q (length a.out.now) (sym c.in_ok-input_tests.ensures)).places

pub transform_all-requires-clause-whole : goal.transform_all-requires-clause-whole
transform_all-requires-clause-whole c =
    let a = c.args in
    (input-accepted a.rotations.now a.d a.q (length a.out.now) (sym c.in_ok-input_tests.ensures)).whole

pub invariant_of-transform_all : goal.invariant_of-transform_all
invariant_of-transform_all c =
    let a = c.args in
    record { within = (input-accepted a.rotations.now a.d a.q (length a.out.now) (sym c.in_ok-input_tests.ensures)).entries }

pub returns-clause-value : goal.returns-clause-value
unfolding transform_tests
returns-clause-value c =
    let a = c.args in
    let w = require (all_whole (vector_of a.d) (matrix_of a.q) (matrices a.rotations.now)) SymmetryBroken Accepted in
    c.transform_all.ensures.value ∙ ap (λ t. after t w) c.in_ok-input_tests.ensures
