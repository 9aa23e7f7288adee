use mir.Facts.{to_z-of_z}
use Rattle.std.proofs.Common.{◌≡◌, true, [], length, ◌∙◌, ap}
use Rattle.grgrid.specs.Own.{own_places}
use Rattle.bzgrid.specs.BzGridAddresses.{grid_type_of}
use Rattle.bz_triplets.proofs.CallOutcome.{Input, lengths_fit, point_inside, tested}
use Rattle.bz_triplets.proofs.input_tests.Goals as goal
use Rattle.bz_triplets.proofs.input_tests.Goals.{After-point_fits}

-- the call's input; the map and the lengths of the outputs are not read
abbrev input : After-point_fits → Input
input c =
    let a = c.args in
    record { layout = a.layout; q0 = a.q0; addresses = a.addresses.now; map = []; classes = a.class_map.now; d = a.d; q = a.q; lattice = a.lattice; t = a.bz_grid_type; n = a.r.triplets; m = a.r.left; l = a.r.lengths; c = a.r.cells }

room : (c : After-point_fits) → true ≡ lengths_fit (input c) (own_places c.args.class_map.now (length c.args.class_map.now))
room c = c.if-not-lengths_fit.ensures ∙ ap (lengths_fit (input c)) c.own_places.ensures.value

kind : (c : After-point_fits) → c.try_from.result ≡ grid_type_of c.args.bz_grid_type
kind c = c.try_from.ensures ∙ ap grid_type_of (to_z-of_z c.ranges.bz_grid_type)

pub returns-then-not-point_fits : goal.returns-then-not-point_fits
returns-then-not-point_fits c =
    let b = (goal.at.returns-then-not-point_fits c).After-point_fits in
    tested (input b) c.args.q0 c.args.bz_grid_type (room b) c.if-not-limits_fit.ensures (c.if-not-point_fits.ensures ∙ (λ i. point_inside (input b) (to_z-of_z c.ranges.q0 i) (kind b i)))

pub returns : goal.returns
returns c =
    let b = (goal.at.returns c).After-point_fits in
    tested (input b) c.args.q0 c.args.bz_grid_type (room b) c.if-not-limits_fit.ensures (c.if-not-point_fits.ensures ∙ (λ i. point_inside (input b) (to_z-of_z c.ranges.q0 i) (kind b i)))
