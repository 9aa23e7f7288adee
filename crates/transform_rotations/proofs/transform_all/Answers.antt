use mathlib.Core.Path.{◌≡◌, ◌∙◌, ap, ap₂}
use mathlib.Core.List.{map}
use Rattle.common.specs.FloatMatrix.{float_vector, float_matrix, det_d}
use Rattle.common.specs.Array.{vector_of, matrix_of, rows, matrices, flat}
use Rattle.common.specs.Every.{every}
use Rattle.common.specs.Tested.{require, Accepted}
use Rattle.common.specs.declared.Refusal.TheVariants.{SymmetryBroken}
use Rattle.transform_rotations.specs.Transform.{transform_d, is_whole, rounded}
use Rattle.transform_rotations.specs.Code.Steps.{inverse_over, transform_by}
use Rattle.transform_rotations.proofs.Accepted.{ready, same}
use Rattle.transform_rotations.proofs.transform_all.Goals as goal

pub returns : goal.returns
returns c =
    let s = c.args in
    let d = vector_of s.d in
    let q = matrix_of s.q in
    let ms = matrices s.rotations.list.now in
    let f = c.mat_i_to_d-q_d.ensures in
    let e = c.inverse_f64-q_inv.ensures ∙ ap₂ (λ m t. rows (inverse_over (float_matrix m) t)) f (c.det_d.ensures ∙ ap det_d f) in
    let h = c.row_to_d.ensures in
    -- each rotation transformed
    let a : transform_by (float_matrix c.inverse_f64-q_inv.result) (float_matrix c.mat_i_to_d-q_d.result) (float_vector c.row_to_d.result) ≡ ready d q = λ i. transform_by (float_matrix (e i)) (float_matrix (f i)) (float_vector (h i)) in
    let b : ready d q ≡ transform_d d q = λ i r. same d q r i in
    let g = a ∙ b in
    record {
      value = c.transform_each.ensures.value ∙ ap (λ g. require (every (λ r. is_whole (g r)) ms) SymmetryBroken Accepted) g;
      out_after = λ t. c.transform_each.ensures.out_after t ∙ ap (λ g. flat (map (λ r. rounded (g r)) ms)) g;
    }
