use Rattle.std.proofs.Common.{◌≡◌}
use Rattle.grgrid.specs.Sides.{sides}
use Rattle.bzgrid.specs.Code.Writing.{placed_flat}
use Rattle.bzgrid.proofs.tables.place_images.Given as goal

abbrev pub invariant-loop-k : goal.invariant-loop-k
invariant-loop-k l = l.map ≡ placed_flat (sides l.g) l.addresses l.k l.initial.map
