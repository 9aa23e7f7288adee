use mathlib.Core.Path.{◌∙◌, ap₂}
use Rattle.common.specs.Matrix.{vector}
use Rattle.common.specs.Array.{along, items, matrix_of}
use Rattle.grgrid.specs.Sides.{sides}
use Rattle.grgrid.proofs.Sizes.{sides-small}
use Rattle.mark_candidates.specs.ScaledCoordinates.{rest, rests}
use Rattle.mark_candidates.proofs.PointSizes.{scaled_small}
use Rattle.mark_candidates.proofs.coordinates.Mesh.rests.Goals as goal

pub rests-requires : goal.rests-requires
rests-requires c =
    let m = c.args.self in
    rw c.scaled.ensures (scaled_small (sides m.point.g) (sides-small m.point.g) m.few m.point.p m.point.inside m.ps.sized (matrix_of m.q.m) m.q.within)

pub returns-clause-s : goal.returns-clause-s
unfolding rests
returns-clause-s c = c.rests.ensures ∙ ap₂ (λ n v. items (vector (λ k. rest n (along v k)))) c.points.ensures c.scaled.ensures
