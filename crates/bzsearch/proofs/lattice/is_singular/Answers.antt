use mathlib.Core.Path.{ap₂}
use Rattle.std.proofs.Common.{Bool, sym, ap, ◌∙◌}
use Rattle.std.specs.Prelude.{not, ◌||◌}
use Rattle.std.specs.Float.Ieee.{eq}
use Rattle.std.specs.Float.Ieee.Scale.{finite}
use Rattle.common.specs.FloatMatrix.{float_matrix}
use Rattle.bzsearch.specs.Lattice.{lattice_det, singular}
use Rattle.bzsearch.proofs.Literals.{zero-literal}
use Rattle.bzsearch.proofs.lattice.is_singular.Goals as goal

pub returns-then-det : goal.returns-then-det
unfolding singular lattice_det
returns-then-det c =
    let m = float_matrix c.args.m in
    c.if-det.true ∙ ap (λ (t : Bool). t || not (finite (lattice_det m))) (sym c.if-det.true ∙ ap₂ eq c.det_d-det.ensures zero-literal)

pub returns-else-det : goal.returns-else-det
unfolding singular lattice_det
returns-else-det c =
    let m = float_matrix c.args.m in
    let e = c.det_d-det.ensures in
    ap not (c.is_finite.ensures ∙ ap finite e) ∙ ap (λ (t : Bool). t || not (finite (lattice_det m))) (sym c.if-det.false ∙ ap₂ eq e zero-literal)
