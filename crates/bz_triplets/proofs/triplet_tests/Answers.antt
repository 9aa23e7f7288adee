use mir.Facts.{to_z-of_z}
use Rattle.std.proofs.Common.{length, ◌∙◌, ap}
use Rattle.std.proofs.lemmas.Result.{err_from_is_err_and}
use Rattle.common.specs.Array.{vector_of, sides_of}
use Rattle.grgrid.specs.Sides.{sides}
use Rattle.bzgrid.proofs.Outcome.{mesh-fits}
use Rattle.common.specs.Tested.{Accepted, ◌then◌}
use Rattle.bztable.specs.Reading.{got}
use Rattle.bz_triplets.specs.BzTriplets.{triplet_list, cell_list, marks, lengths}
use Rattle.bz_triplets.proofs.Measured.{measured}
use Rattle.bz_triplets.proofs.CallOutcome.{asked-for, whole_below, point-below, Input, input-accepted, tests-read, read-from, walked, walk-answer, walk-output, celled, chosen}
use Rattle.bz_triplets.proofs.triplet_tests.Goals as goal

pub returns-in_err-t-clause-value : goal.returns-in_err-t-clause-value
returns-in_err-t-clause-value c =
    let s = c.args in
    let i : Input = record { layout = s.layout; q0 = s.q0; addresses = s.addresses.now; map = s.map.now; classes = s.class_map.now; d = s.d; q = s.q; lattice = s.lattice; t = s.bz_grid_type; n = length s.out.now; m = length s.left.now; l = length s.left_length.now; c = length s.cells.now } in
    let p = err_from_is_err_and c.from_residual.result c.from_residual.ensures.1 in
    rw (p.1, p.2) (tests-read i (to_z-of_z c.ranges.q0) (to_z-of_z c.ranges.bz_grid_type) c.in_err-t.ensures)

pub grid_of-g-requires : goal.grid_of-g-requires
grid_of-g-requires c =
    let s = c.args in
    let i : Input = record { layout = s.layout; q0 = s.q0; addresses = s.addresses.now; map = s.map.now; classes = s.class_map.now; d = s.d; q = s.q; lattice = s.lattice; t = s.bz_grid_type; n = length s.out.now; m = length s.left.now; l = length s.left_length.now; c = length s.cells.now } in
    let a = input-accepted i (to_z-of_z c.ranges.q0) (to_z-of_z c.ranges.bz_grid_type) c.in_ok-t.ensures in
    a.grid

pub invariant_of-table : goal.invariant_of-table
invariant_of-table c =
    let s = c.args in
    let i : Input = record { layout = s.layout; q0 = s.q0; addresses = s.addresses.now; map = s.map.now; classes = s.class_map.now; d = s.d; q = s.q; lattice = s.lattice; t = s.bz_grid_type; n = length s.out.now; m = length s.left.now; l = length s.left_length.now; c = length s.cells.now } in
    let a = input-accepted i (to_z-of_z c.ranges.q0) (to_z-of_z c.ranges.bz_grid_type) c.in_ok-t.ensures in
    record { fits = mesh-fits s.d a.grid c.grid_of-g.ensures }

pub measure_of-requires : goal.measure_of-requires
measure_of-requires c =
    let s = c.args in
    let i : Input = record { layout = s.layout; q0 = s.q0; addresses = s.addresses.now; map = s.map.now; classes = s.class_map.now; d = s.d; q = s.q; lattice = s.lattice; t = s.bz_grid_type; n = length s.out.now; m = length s.left.now; l = length s.left_length.now; c = length s.cells.now } in
    let a = input-accepted i (to_z-of_z c.ranges.q0) (to_z-of_z c.ranges.bz_grid_type) c.in_ok-t.ensures in
    a.grid

pub returns-in_err-a0-clause-value : goal.returns-in_err-a0-clause-value
returns-in_err-a0-clause-value c =
    let s = c.args in
    let i : Input = record { layout = s.layout; q0 = s.q0; addresses = s.addresses.now; map = s.map.now; classes = s.class_map.now; d = s.d; q = s.q; lattice = s.lattice; t = s.bz_grid_type; n = length s.out.now; m = length s.left.now; l = length s.left_length.now; c = length s.cells.now } in
    let p = err_from_is_err_and c.from_residual-in_err-a0.result c.from_residual-in_err-a0.ensures.1 in
    rw (p.1, p.2) (ap (λ x. x then λ _. Accepted) (read-from i c.in_ok-t.t (to_z-of_z c.ranges.q0) c.in_err-a0.ensures) ∙ tests-read i (to_z-of_z c.ranges.q0) (to_z-of_z c.ranges.bz_grid_type) c.in_ok-t.ensures)

pub invariant_of-point : goal.invariant_of-point
invariant_of-point c =
    let s = c.args in
    let i : Input = record { layout = s.layout; q0 = s.q0; addresses = s.addresses.now; map = s.map.now; classes = s.class_map.now; d = s.d; q = s.q; lattice = s.lattice; t = s.bz_grid_type; n = length s.out.now; m = length s.left.now; l = length s.left_length.now; c = length s.cells.now } in
    let a = input-accepted i (to_z-of_z c.ranges.q0) (to_z-of_z c.ranges.bz_grid_type) c.in_ok-t.ensures in
    record {
      fits = rw c.point_of.ensures
          (point-below (sides c.grid_of-g.result) (mesh-fits s.d a.grid c.grid_of-g.ensures).grid c.in_ok-t.t (whole_below c.ranges.q0 (asked-for s.addresses.now _ c.in_ok-a0.ensures)) (vector_of c.in_ok-a0.a0.v));
    }

pub fill_triplets-requires : goal.fill_triplets-requires
fill_triplets-requires c =
    let s = c.args in
    let i : Input = record { layout = s.layout; q0 = s.q0; addresses = s.addresses.now; map = s.map.now; classes = s.class_map.now; d = s.d; q = s.q; lattice = s.lattice; t = s.bz_grid_type; n = length s.out.now; m = length s.left.now; l = length s.left_length.now; c = length s.cells.now } in
    let a = input-accepted i (to_z-of_z c.ranges.q0) (to_z-of_z c.ranges.bz_grid_type) c.in_ok-t.ensures in
    a.room

pub returns : goal.returns
returns c =
    let s = c.args in
    let i : Input = record { layout = s.layout; q0 = s.q0; addresses = s.addresses.now; map = s.map.now; classes = s.class_map.now; d = s.d; q = s.q; lattice = s.lattice; t = s.bz_grid_type; n = length s.out.now; m = length s.left.now; l = length s.left_length.now; c = length s.cells.now } in
    let w = walked i c.in_ok-t.t (to_z-of_z c.ranges.q0) c.in_ok-a0.ensures c.grid_of-g.ensures (measured s.addresses.now s.d s.q s.lattice c.measure_of.result c.measure_of.ensures.lqd_value c.measure_of.ensures.tolerance_value) c.point_of.ensures in
    let a = input-accepted i (to_z-of_z c.ranges.q0) (to_z-of_z c.ranges.bz_grid_type) c.in_ok-t.ensures in
    let f = c.fill_triplets in
    let triplets = f.ensures.out_after ∙ ap (λ x. x then λ l. got (triplet_list l)) w in
    let e = walk-answer i c.in_ok-t.t triplet_list f.result f.new.out triplets ∙ tests-read i (to_z-of_z c.ranges.q0) (to_z-of_z c.ranges.bz_grid_type) c.in_ok-t.ensures in
    record {
      value = e;
      chosen = chosen i f.result e (walk-output i c.in_ok-t.t triplet_list f.result f.new.out triplets a)
          (walk-output i c.in_ok-t.t marks f.result f.new.left (f.ensures.left_after ∙ ap (λ x. x then λ l. got (marks l)) w) a)
          (walk-output i c.in_ok-t.t lengths f.result f.new.left_length (f.ensures.left_length_after ∙ ap (λ x. x then λ l. got (lengths l)) w) a)
          (walk-output i c.in_ok-t.t (cell_list (sides_of s.d)) f.result f.new.cells
          (celled i c.in_ok-t.t f.result f.new.cells f.ensures.cells_after c.grid_of-g.ensures w) a);
    }
