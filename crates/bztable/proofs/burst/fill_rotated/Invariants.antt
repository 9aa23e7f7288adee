use Rattle.common.specs.Array.{vector_of, matrix_of}
use Rattle.grgrid.specs.Sides.{sides}
use Rattle.bztable.specs.Rotate.{rotated_at}
use Rattle.bztable.specs.Burst.{place_told, fallback_told}
use Rattle.bztable.proofs.BurstCall.{Filled}
use Rattle.bztable.proofs.burst.fill_rotated.Given as goal

abbrev pub invariant-loop-i : goal.invariant-loop-i
invariant-loop-i l =
    Filled (rotated_at l.table.t (sides l.table.g) l.table.addresses.now l.table.map.now (matrix_of l.rotation.m) (vector_of l.ps.v)) l.indices place_told fallback_told l.i l.out l.fallbacks
