-- The job of document 01 as a value of the calls, every one accepted by computation: A = diag(3, 1, 1), the identity alone, the identity lattice, no shift, type 2, time
-- reversal and swapping on, q0 = 1. So the hypotheses of demand 3 can be met, and the finished list is the one that document 01 prints. Type 1 likewise, with the list as it
-- stands.
use mathlib.Core.Path.{◌≡◌, refl, sym, ap₂, subst}
use mathlib.Core.Bool.{true}
use mathlib.Core.List.Memᴰ.{eq_of_singleton}
use mathlib.Core.List.Memᴰ.{head as here}
use mathlib.Core.List.Memᴰ.{not-nil}
use mathlib.Core.List.{List, [], ◌∷◌, ◌++◌}
use lib.IntN.{ℤ, pos, negsuc}
use lib.ListN.{replicate}
use lib.Ieee.{Float, binary64, round, add, sub, mul, div, neg, lt, le, eq, of_int, of_bits, to_signed, size}
use Rattle.std.specs.Prelude.{Ok}
use Rattle.common.specs.Tested.{Accepted}
use Rattle.float.specs.Rounding.{round_of, nint_of, floor_of, ceil_of, abs_of}
use Rattle.float.specs.Sqrt.{root, sqrt_of}
use Rattle.common.specs.Matrix.{Vec, Mat, ◌·◌, identity, inversion, map_mat, diagonal}
use Rattle.common.specs.Array.{items, rows, matrix_of, matrices, flat}
use Rattle.common.specs.IntegerMatrix.{product_fits, det_fits}
use Rattle.common.proofs.Unimodular.{Unimodular}
use Rattle.grgrid.specs.Grid.{index, cell}
use Rattle.grgrid.proofs.MatrixGroup.{MatrixGroup}
use Rattle.recip_rotations.specs.PointGroup.{with_negatives, get_reciprocal_point_group}
use Rattle.recip_rotations.proofs.Told.{joined-group}
use Rattle.snf_steps.specs.Gcd.{step, euclid, extended_gcd}
use Rattle.snf_steps.specs.Columns.{multiply, make_zero, first_column, second_column}
use Rattle.snf_steps.specs.Stages.{one_loop, first, second}
use Rattle.snf_steps.specs.Finalize.{make_diag_positive, finalize_sort, finalize_disturb, flip_pq, put_in_order, finalize}
use Rattle.snf3x3.specs.Snf3x3.{diagonalised, round as snf_round, rounds, snf3x3}
use Rattle.transform_rotations.specs.Transform.{transform_d, is_whole, rounded}
use Rattle.transform_rotations.specs.TransformRotations.{transform_rotations}
use Rattle.bzgrid.specs.declared.Built.{Built}
use Rattle.bzsearch.specs.Lattice.{bz_tolerance, lattice_det, dual_lengths_of}
use Rattle.bzgrid.specs.declared.GridType.TheVariants.{Sparse, Dense}
use Rattle.bzgrid.specs.BzGridAddresses.{tables_told, bz_grid_addresses}
use Rattle.triplet_grid.specs.IrTriplets.{ir_triplets_at_q}
use Rattle.bz_triplets.specs.BzTriplets.{lqd_inv, squared_distance, triplets_in, bz_triplets_at_q}
use Rattle.demand3.specs.FinishedList.{Given, as-it-stands, as-returned, Calls}

-- ---- what comes from outside
abbrev list : List ℤ
list = flat (identity ∷ [])

abbrev pub matrix : List (List ℤ)
matrix = rows (diagonal (record { x = pos 3; y = pos 1; z = pos 1 }))

abbrev pub lattice : List (List Float)
lattice = rows (map_mat (of_int binary64) identity)

abbrev shift : List ℤ
shift = pos 0 ∷ pos 0 ∷ pos 0 ∷ []

-- the list's four conditions, and so those of the list with its negatives
alone : MatrixGroup (matrices list)
alone = record {
  one = here refl;
  distinct = (not-nil, tt);
  units = λ A k. subst Unimodular (sym (eq_of_singleton k)) (record { unit = refl });
  times = λ A B j k. here (ap₂ ◌·◌ (eq_of_singleton j) (eq_of_singleton k));
}

pub conditions : MatrixGroup (with_negatives true (matrices list))
conditions = joined-group true alone

-- ---- diagonalising
abbrev pub d : Vec ℤ
d = record { x = pos 1; y = pos 1; z = pos 3 }

abbrev pub p : Mat ℤ
p = record { a = pos 0; b = pos 1; c = pos 0; d = pos 0; e = pos 0; f = pos 1; g = pos 1; h = pos 0; i = pos 0 }

abbrev pub q : Mat ℤ
q = record { a = pos 0; b = pos 0; c = pos 1; d = pos 1; e = pos 0; f = pos 0; g = pos 0; h = pos 1; i = pos 0 }

pub diagonalises : snf3x3 (matrix_of matrix) ≡ diagonalised d p q 1
unfolding snf3x3 rounds snf_round finalize put_in_order make_diag_positive finalize_sort finalize_disturb flip_pq first second one_loop first_column second_column make_zero multiply extended_gcd euclid step product_fits det_fits
diagonalises = refl

-- ---- the list that is transformed: as it stands, or as the reciprocal call returns it; by Q it goes to itself
abbrev pub returned : List ℤ
returned = flat (identity ∷ inversion ∷ [])

given-returned : Given true list returned
unfolding get_reciprocal_point_group
given-returned = as-returned true 432 2 refl

pub transforms : ((transform_rotations returned (items d) (rows q) 18).answer ≡ Accepted) × (returned ≡ (transform_rotations returned (items d) (rows q) 18).out)
    × ((transform_rotations list (items d) (rows q) 9).answer ≡ Accepted) × (list ≡ (transform_rotations list (items d) (rows q) 9).out)
unfolding transform_rotations transform_d is_whole rounded nint_of round_of abs_of round of_bits of_int to_signed add sub mul div lt eq
transforms = (refl, refl, refl, refl)

-- ---- images: one of each point
abbrev addresses : List ℤ
addresses = pos 0 ∷ pos 0 ∷ pos 0 ∷ pos 0 ∷ pos 0 ∷ pos 1 ∷ pos 0 ∷ pos 0 ∷ negsuc 0 ∷ []

abbrev dense : List ℤ
dense = pos 0 ∷ pos 1 ∷ pos 2 ∷ pos 3 ∷ []

-- the doubled mesh of 2, 2 and 6, and the counts of the others
abbrev sparse : List ℤ
sparse = (pos 0 ∷ replicate 3 (pos 24)) ++ (pos 1 ∷ replicate 15 (pos 24)) ++ (pos 2 ∷ replicate 3 (pos 24)) ++ replicate 4 (pos 0)

abbrev dense-built : Built
dense-built = record { lengths = record { addresses = 9; map = 4; grg = 3 }; table = record { d = items d; ps = shift; bz_grid_type = pos 2 } }

abbrev sparse-built : Built
sparse-built = record { lengths = record { addresses = 9; map = 28; grg = 3 }; table = record { d = items d; ps = shift; bz_grid_type = pos 1 } }

abbrev Builds : ℤ → List ℤ → Built → Type 0
Builds type map b =
    ((bz_grid_addresses (items d) (rows q) shift lattice type 9 b.lengths.map 3).answer ≡ Ok b)
    × (addresses ≡ (bz_grid_addresses (items d) (rows q) shift lattice type 9 b.lengths.map 3).addresses)
    × (map ≡ (bz_grid_addresses (items d) (rows q) shift lattice type 9 b.lengths.map 3).map)

builds : Builds (pos 2) dense dense-built × Builds (pos 1) sparse sparse-built
unfolding bz_grid_addresses tables_told index bz_tolerance lattice_det dual_lengths_of nint_of round_of floor_of ceil_of abs_of sqrt_of root size round add sub mul div neg lt le eq of_int of_bits to_signed
builds = ((refl, refl, refl), (refl, refl, refl))

-- ---- classes
abbrev classes : List ℤ
classes = pos 0 ∷ pos 1 ∷ pos 0 ∷ []

classifies : ((ir_triplets_at_q (pos 1) (items d) returned true true 3 3).answer ≡ Ok (pos 2)) × (classes ≡ (ir_triplets_at_q (pos 1) (items d) returned true true 3 3).map_triplets)
    × ((ir_triplets_at_q (pos 1) (items d) list true true 3 3).answer ≡ Ok (pos 2)) × (classes ≡ (ir_triplets_at_q (pos 1) (items d) list true true 3 3).map_triplets)
unfolding ir_triplets_at_q
classifies = (refl, refl, refl, refl)

-- ---- triplets
abbrev triplets : List ℤ
triplets = pos 1 ∷ pos 0 ∷ pos 2 ∷ pos 1 ∷ pos 1 ∷ pos 1 ∷ []

-- 1 1 1 has the sum (0,0,3)
abbrev cells : List ℤ
cells = pos 0 ∷ pos 0 ∷ pos 0 ∷ pos 0 ∷ pos 0 ∷ pos 1 ∷ []

abbrev Chosen : ℤ → List ℤ → Built → Type 0
Chosen type map b =
    ((bz_triplets_at_q (pos 1) addresses map b.table classes (items d) (rows q) lattice type 6 2 2 6).answer ≡ Accepted)
    × (triplets ≡ (bz_triplets_at_q (pos 1) addresses map b.table classes (items d) (rows q) lattice type 6 2 2 6).out)
    × (cells ≡ (bz_triplets_at_q (pos 1) addresses map b.table classes (items d) (rows q) lattice type 6 2 2 6).cells)

chooses : Chosen (pos 2) dense dense-built × Chosen (pos 1) sparse sparse-built
unfolding bz_triplets_at_q triplets_in cell lqd_inv squared_distance bz_tolerance abs_of round add sub mul div lt le of_int of_bits
chooses = ((refl, refl, refl), (refl, refl, refl))

-- ---- the calls
pub job : Calls
job = record {
  list = list;
  matrix = matrix;
  lattice = lattice;
  shift = shift;
  type = pos 2;
  kind = Dense;
  kind-is = refl;
  time_reversal = true;
  swappable = true;
  q0 = 1;
  rotations = returned;
  given = given-returned;
  d = d;
  p = p;
  q = q;
  rounds = 1;
  diagonalises = diagonalises;
  transformed = returned;
  room = 18;
  transforms = transforms.0;
  transforms-to = transforms.1;
  addresses = addresses;
  map = dense;
  rooms = record { x = 9; y = 4; z = 3 };
  built = dense-built;
  builds = builds.0.0;
  builds-addresses = builds.0.1;
  builds-map = builds.0.2;
  classes = classes;
  class-room = 3;
  point-room = 3;
  count = pos 2;
  classifies = classifies.0;
  classifies-to = classifies.1;
  start = 1;
  starts = record { places = 1 ∷ []; read = refl; stands = here refl };
  triplets = triplets;
  cells = cells;
  triplet-rooms = record { x = 6; y = 2; z = 2 };
  cell-room = 6;
  chooses = chooses.0.0;
  chooses-to = chooses.0.1;
  tells-cells = chooses.0.2;
}

pub sparse-job : Calls
sparse-job = record {
  list = list;
  matrix = matrix;
  lattice = lattice;
  shift = shift;
  type = pos 1;
  kind = Sparse;
  kind-is = refl;
  time_reversal = true;
  swappable = true;
  q0 = 1;
  rotations = list;
  given = as-it-stands;
  d = d;
  p = p;
  q = q;
  rounds = 1;
  diagonalises = diagonalises;
  transformed = list;
  room = 9;
  transforms = transforms.2;
  transforms-to = transforms.3;
  addresses = addresses;
  map = sparse;
  rooms = record { x = 9; y = 28; z = 3 };
  built = sparse-built;
  builds = builds.1.0;
  builds-addresses = builds.1.1;
  builds-map = builds.1.2;
  classes = classes;
  class-room = 3;
  point-room = 3;
  count = pos 2;
  classifies = classifies.2;
  classifies-to = classifies.3;
  start = 1;
  starts = refl;
  triplets = triplets;
  cells = cells;
  triplet-rooms = record { x = 6; y = 2; z = 2 };
  cell-room = 6;
  chooses = chooses.1.0;
  chooses-to = chooses.1.1;
  tells-cells = chooses.1.2;
}
