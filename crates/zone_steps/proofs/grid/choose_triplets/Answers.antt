use mir.Facts.{to_z-of_z}
use borrow.Author.Rules.{rules}
use Rattle.zone_steps.specs.StepsView.{input_grid}
use Rattle.zone_steps.proofs.CallSteps.{triplets-chosen}
use Rattle.zone_steps.proofs.grid.choose_triplets.Goals as goal

pub returns : goal.returns
returns c =
    let s = c.args in
    let r = c.requires in
    let o = c.own_places-k.ensures in
    triplets-chosen (input_grid s.input.now) s.addresses.now s.map.now s.table r.begin r.class_map s.triplets.now s.left.now s.lengths.now s.cells.now r.room
    o.value o.upper_bound (to_z-of_z c.ranges.start) (search rules) c.bz_triplets_at_q.ensures
