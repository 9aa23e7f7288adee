use Rattle.std.proofs.Common.{◌≡◌, take}
use Rattle.common.specs.Array.{vector_of}
use Rattle.grgrid.specs.Sides.{sides}
use Rattle.bztable.specs.Reading.{got}
use Rattle.bztable.specs.Neighbours.{read_rows, neighbour_at}
use Rattle.bztable.proofs.neighbours.fill_row.Given as goal

-- the first j rows, of one image each
abbrev pub invariant-loop-j : goal.invariant-loop-j
invariant-loop-j l = read_rows (neighbour_at l.table.t (sides l.table.g) l.offsets l.table.addresses.now l.table.map.now (vector_of l.base.v)) l.j ≡ got (take l.j l.out)
