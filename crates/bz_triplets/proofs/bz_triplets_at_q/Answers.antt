use mir.Facts.{to_z-of_z}
use Rattle.std.proofs.Common.{length, ◌∙◌, ap}
use Rattle.bztable.specs.Agreement.{agrees_grid, layout_where}
use Rattle.bz_triplets.specs.BzTriplets.{triplets_in, bz_triplets_at_q}
use Rattle.bz_triplets.proofs.bz_triplets_at_q.Goals as goal

pub returns : goal.returns
unfolding bz_triplets_at_q
returns c =
    let s = c.args in
    let q0 = to_z-of_z c.ranges.q0 in
    let t = to_z-of_z c.ranges.bz_grid_type in
    let agreed = c.agrees_grid-agreed.ensures ∙ ap (agrees_grid s.table s.d) t in
    let layout = c.layout_where-layout.ensures ∙ (λ i. layout_where (agreed i) (t i)) in
    c.triplets_in.ensures
    ∙ (λ i. triplets_in (layout i) (q0 i) s.addresses.now s.map.now s.class_map.now s.d s.q s.lattice (t i) (length s.out.now) (length s.left.now) (length s.left_length.now) (length s.cells.now))
