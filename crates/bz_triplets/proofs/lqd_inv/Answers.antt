use Rattle.std.proofs.Common.{◌∙◌, [], ◌∷◌, get_or}
use Rattle.common.specs.Matrix.{entries}
use Rattle.common.specs.FloatMatrix.{float_matrix, matmul_d}
use Rattle.bz_triplets.specs.Code.TripletsView.{row_over}
use Rattle.bz_triplets.proofs.Measured.{lqd-rows}
use Rattle.bz_triplets.proofs.lqd_inv.Goals as goal

pub returns : goal.returns
returns c =
    let s = c.args in
    c.flat.ensures
    ∙ (λ i. entries (float_matrix (c.over_sides.ensures i ∷ c.over_sides-2.ensures i ∷ c.over_sides-3.ensures i ∷ [])) [])
    ∙ (λ i. let m = (c.matmul_d.ensures ∙ (λ i. matmul_d s.lattice (c.mat_i_to_d.ensures i))) i in let v = c.row_to_d-s.ensures i in entries (float_matrix (row_over (get_or m 0 []) v ∷ row_over (get_or m 1 []) v ∷ row_over (get_or m 2 []) v ∷ [])) [])
    ∙ lqd-rows s.lattice s.q s.d c.requires
