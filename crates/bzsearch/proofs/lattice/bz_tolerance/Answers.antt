use mathlib.Core.Path.{ap₂}
use Rattle.std.proofs.Common.{ℤ, pos, nat_abs, ◌*◌, ap, ◌∙◌, List, [], get_or}
use Rattle.std.specs.Prelude.{Float}
use Rattle.std.specs.Float.{binary64}
use Rattle.std.specs.Float.Ieee.{mul, div, of_int}
use Rattle.common.specs.Matrix.{Axis, X, Y, Z}
use Rattle.common.specs.Array.{axis_index}
use Rattle.common.specs.FloatMatrix.{float_vector}
use Rattle.bzsearch.specs.Lattice.{squares_from0, larger, tolerance_factor, bz_tolerance}
use Rattle.bzsearch.proofs.Sizes.{side-held, held-sized}
use Rattle.bzsearch.proofs.Literals.{zero-literal}
use Rattle.bzsearch.proofs.lattice.bz_tolerance.Goals as goal

-- a column, which is a row of the transpose, over a diagonal number
abbrev over : List (List Float) → Axis → ℤ → Float
over t k z = let v = float_vector (get_or t (axis_index k) []) in div binary64 (squares_from0 v.x v.y v.z) (of_int binary64 (pos (nat_abs z * nat_abs z)))

pub returns : goal.returns
unfolding bz_tolerance
returns c =
    let t = c.transpose.ensures in
    let at = side-held c.args.d c.requires in
    let first = c.larger.ensures ∙ ap₂ larger zero-literal (c.step_squared-x.ensures ∙ (λ i. over (t i) X (at X i))) in
    let second = c.larger-2.ensures ∙ ap₂ larger first (c.step_squared-y.ensures ∙ (λ i. over (t i) Y (at Y i))) in
    ap (λ t. mul binary64 t tolerance_factor) (c.larger-3.ensures ∙ ap₂ larger second (c.step_squared-z.ensures ∙ (λ i. over (t i) Z (at Z i))))

pub step_squared-z-requires : goal.step_squared-z-requires
step_squared-z-requires c = held-sized c.args.d c.requires Z
