use Rattle.std.proofs.Common.{◌≡◌, ◌*◌, ◌/◌, length, take}
use Rattle.grgrid.specs.Sides.{sides}
use Rattle.bztable.specs.Reading.{got}
use Rattle.bztable.specs.Neighbours.{read_rows, neighbours_from}
use Rattle.bztable.proofs.NeighbourRows.{row_of}
use Rattle.bztable.proofs.neighbours.fill_rows.Given as goal

abbrev pub invariant-loop-point : goal.invariant-loop-point
invariant-loop-point l = record {
  at_is : l.at ≡ l.point-index * (length l.offsets / 3);
  read : read_rows (row_of (neighbours_from l.table.t (sides l.table.g) l.offsets l.table.addresses.now l.table.map.now) l.table.addresses.now l.points) l.point-index ≡ got (take l.at l.out);
}
