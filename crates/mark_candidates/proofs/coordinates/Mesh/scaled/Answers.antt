use mathlib.Core.Path.{◌≡◌, ◌∙◌, ap}
use lib.Dec.{lit≤}
use Rattle.common.specs.Matrix.{◌▹◌}
use Rattle.common.specs.Array.{vector_of, matrix_of, items, Sized}
use Rattle.common.proofs.Sized.{apply-fits}
use Rattle.grgrid.specs.Grid.{address, double}
use Rattle.grgrid.specs.Sides.{sides}
use Rattle.grgrid.proofs.Sizes.{sides-small}
use Rattle.mark_candidates.specs.ScaledCoordinates.{shares, scaled_by, scaled_grid, scaled}
use Rattle.mark_candidates.proofs.PointSizes.{doubled-small, shared-small}
use Rattle.mark_candidates.proofs.coordinates.Mesh.scaled.Goals as goal
use Rattle.mark_candidates.proofs.coordinates.Mesh.scaled.Goals.{After-double_grid_address-a, After-scaled_grid}

doubled : (c : After-double_grid_address-a) → let m = c.args.self in c.double_grid_address-a.result.v ≡ items (double (address (sides m.point.g) m.point.p) (vector_of m.ps.v))
doubled c = c.double_grid_address-a.ensures ∙ ap (λ a. items (double (vector_of a) (vector_of c.args.self.ps.v))) c.grid_address_from_index-address.ensures

pub scaled_grid-requires : goal.scaled_grid-requires
scaled_grid-requires c =
    let a = (goal.at.scaled_grid-requires c).After-double_grid_address-a in
    let m = c.args.self in
    rw (doubled a) (doubled-small (sides m.point.g) m.few m.point.p m.point.inside m.ps.sized)

gridded : (c : After-scaled_grid) → let m = c.args.self in c.scaled_grid.result ≡ items (scaled_grid (sides m.point.g) (vector_of m.ps.v) (address (sides m.point.g) m.point.p))
gridded c = c.scaled_grid.ensures ∙ ap (λ a. items (scaled_by (shares (sides c.args.self.point.g)) (vector_of a))) (c.double_grid_address-a.ensures ∙ ap (λ a. items (double (vector_of a) (vector_of c.args.self.ps.v))) c.grid_address_from_index-address.ensures)

small : (c : After-scaled_grid) → Sized 34360000512 c.scaled_grid.result
small c =
    let m = c.args.self in
    rw (gridded c)
    (shared-small (sides m.point.g) (sides-small m.point.g) {a = items (double (address (sides m.point.g) m.point.p) (vector_of m.ps.v))}
    (doubled-small (sides m.point.g) m.few m.point.p m.point.inside m.ps.sized))

pub matvec_ii-requires : goal.matvec_ii-requires
matvec_ii-requires c = let q = c.args.self.q in apply-fits 1000 34360000512 (matrix_of q.m) q.within (small (goal.at.matvec_ii-requires c).After-scaled_grid) (lit≤ tt)

pub returns : goal.returns
unfolding scaled
returns c =
    c.matvec_ii.ensures ∙ ap (λ a. items (matrix_of c.args.self.q.m ▹ vector_of a)) (gridded (goal.at.returns c).After-scaled_grid)
