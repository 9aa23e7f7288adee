-- The finished list of a second job, with all that the first lacks: a shift, an operation that keeps q0 = 0 and carries point 1 to point 2, two images of a point, and
-- neither swapping nor time reversal. Its list is the identity and the inversion, which meets the four conditions. The triplet of point 1 closes at its second choice.
use mathlib.Core.Path.{◌≡◌, refl}
use mathlib.Core.Bool.{false}
use mathlib.Core.List.{List, [], ◌∷◌, ◌++◌}
use lib.IntN.{ℤ, pos, negsuc}
use lib.ListN.{replicate}
use lib.Ieee.{round, add, sub, mul, div, neg, lt, le, eq, of_int, of_bits, to_signed, size}
use Rattle.std.specs.Prelude.{Ok}
use Rattle.common.specs.Tested.{Accepted}
use Rattle.common.specs.Array.{items, rows, matrices}
use Rattle.float.specs.Rounding.{round_of, nint_of, floor_of, ceil_of, abs_of}
use Rattle.float.specs.Sqrt.{root, sqrt_of}
use Rattle.grgrid.specs.Grid.{index, cell}
use Rattle.grgrid.specs.MatrixGroup.{MatrixGroup}
use Rattle.recip_rotations.specs.PointGroup.{with_negatives}
use Rattle.bzgrid.specs.declared.Built.{Built}
use Rattle.bzgrid.specs.declared.GridType.TheVariants.{Sparse}
use Rattle.bzsearch.specs.Lattice.{bz_tolerance, lattice_det, dual_lengths_of}
use Rattle.bzgrid.specs.BzGridAddresses.{tables_told, bz_grid_addresses}
use Rattle.triplet_grid.specs.IrTriplets.{ir_triplets_at_q}
use Rattle.bz_triplets.specs.BzTriplets.{lqd_inv, squared_distance, triplets_in, bz_triplets_at_q}
use Rattle.demand3.specs.FinishedList.{as-it-stands, Calls, FinishedList}
use Rattle.demand3.proofs.Example.{matrix, lattice, d, p, q, diagonalises, returned, transforms, conditions}
use Rattle.demand3.proofs.FinishedList.{finished-list}

abbrev half-step : List ℤ
half-step = pos 0 ∷ pos 0 ∷ pos 1 ∷ []

abbrev addresses : List ℤ
addresses = pos 0 ∷ pos 0 ∷ pos 0 ∷ pos 0 ∷ pos 0 ∷ negsuc 1 ∷ pos 0 ∷ pos 0 ∷ negsuc 0 ∷ pos 0 ∷ pos 0 ∷ pos 1 ∷ []

-- the doubled mesh of 2, 2 and 6, and the counts of the others
abbrev map : List ℤ
map =
    (pos 0 ∷ replicate 3 (pos 24)) ++ (pos 3 ∷ replicate 11 (pos 24)) ++ (pos 1 ∷ replicate 3 (pos 24)) ++ (pos 2 ∷ replicate 3 (pos 24))
    ++ (pos 0 ∷ pos 0 ∷ pos 1 ∷ pos 1 ∷ [])

abbrev built : Built
built = record { lengths = record { addresses = 12; map = 28; grg = 4 }; table = record { d = items d; ps = half-step; bz_grid_type = pos 1 } }

builds : ((bz_grid_addresses (items d) (rows q) half-step lattice (pos 1) 12 28 4).answer ≡ Ok built)
    × (addresses ≡ (bz_grid_addresses (items d) (rows q) half-step lattice (pos 1) 12 28 4).addresses)
    × (map ≡ (bz_grid_addresses (items d) (rows q) half-step lattice (pos 1) 12 28 4).map)
unfolding bz_grid_addresses tables_told index bz_tolerance lattice_det dual_lengths_of nint_of round_of floor_of ceil_of abs_of sqrt_of root size round add sub mul div neg lt le eq of_int of_bits to_signed
builds = (refl, refl, refl)

abbrev classes : List ℤ
classes = pos 0 ∷ pos 1 ∷ pos 1 ∷ []

classifies : ((ir_triplets_at_q (pos 0) (items d) returned false false 3 3).answer ≡ Ok (pos 2)) × (classes ≡ (ir_triplets_at_q (pos 0) (items d) returned false false 3 3).map_triplets)
unfolding ir_triplets_at_q
classifies = (refl, refl)

abbrev triplets : List ℤ
triplets = pos 0 ∷ pos 0 ∷ pos 0 ∷ pos 0 ∷ pos 3 ∷ pos 2 ∷ []

abbrev cells : List ℤ
cells = replicate 6 (pos 0)

chooses : ((bz_triplets_at_q (pos 0) addresses map built.table classes (items d) (rows q) lattice (pos 1) 6 2 2 6).answer ≡ Accepted)
    × (triplets ≡ (bz_triplets_at_q (pos 0) addresses map built.table classes (items d) (rows q) lattice (pos 1) 6 2 2 6).out)
    × (cells ≡ (bz_triplets_at_q (pos 0) addresses map built.table classes (items d) (rows q) lattice (pos 1) 6 2 2 6).cells)
unfolding bz_triplets_at_q triplets_in cell lqd_inv squared_distance bz_tolerance abs_of round add sub mul div lt le of_int of_bits
chooses = (refl, refl, refl)

pub kept-job : Calls
kept-job = record {
  list = returned;
  matrix = matrix;
  lattice = lattice;
  shift = half-step;
  type = pos 1;
  kind = Sparse;
  kind-is = refl;
  time_reversal = false;
  swappable = false;
  q0 = 0;
  rotations = returned;
  given = as-it-stands;
  d = d;
  p = p;
  q = q;
  rounds = 1;
  diagonalises = diagonalises;
  transformed = returned;
  room = 18;
  transforms = transforms.0;
  transforms-to = transforms.1;
  addresses = addresses;
  map = map;
  rooms = record { x = 12; y = 28; z = 4 };
  built = built;
  builds = builds.0;
  builds-addresses = builds.1;
  builds-map = builds.2;
  classes = classes;
  class-room = 3;
  point-room = 3;
  count = pos 2;
  classifies = classifies.0;
  classifies-to = classifies.1;
  start = 0;
  starts = refl;
  triplets = triplets;
  cells = cells;
  triplet-rooms = record { x = 6; y = 2; z = 2 };
  cell-room = 6;
  chooses = chooses.0;
  chooses-to = chooses.1;
  tells-cells = chooses.2;
}

pub kept-conditions : MatrixGroup (with_negatives false (matrices returned))
kept-conditions = conditions

pub kept-finished : FinishedList kept-job
unfolding kept-job
kept-finished = finished-list kept-job kept-conditions
