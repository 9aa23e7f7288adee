-- What the exports of triplet_grid and bz_triplets answer and leave in their outputs.
use Rattle.std.specs.Prelude.{Bool, ◌&&◌, List, ℕ, eqb, ℤ, negsuc, length, replicate, Float, cond}
use Rattle.std.specs.Float.{binary64}
use Rattle.std.specs.Float.Ieee.{of_int}
use Rattle.common.specs.Tested.{answer_of}
use Rattle.common.specs.Array.{rows, matrix_at}
use Rattle.answers.specs.Lengths.{wrong_length, unwritten}
use Rattle.answers.specs.Grids.{classes_told}
use Rattle.answers.specs.Images.{table_at}
use Rattle.bzsearch.specs.SearchView.{float_nine}
use Rattle.triplet_grid.specs.IrTriplets.{ir_triplets_at_q}
use Rattle.bz_triplets.specs.BzTriplets.{bz_triplets_at_q}

-- ---- the classes at q0
-- of d and `told`
abbrev pub triplet_class_lengths : ℕ → ℕ → Bool
triplet_class_lengths d told = eqb d 3 && eqb told 1

pub record ZoneIrTripletsAtQ : Type 0 where
  pub answer : ℤ
  pub map_triplets : List ℤ
  pub map_q : List ℤ
  pub told : List ℤ

-- the outputs have n, m and k places
abbrev pub zone_ir_triplets_at_q : ℤ → (d rotations : List ℤ) → (time_reversal swappable : Bool) → (n m k : ℕ) → ZoneIrTripletsAtQ
zone_ir_triplets_at_q q0 d rotations time_reversal swappable n m k =
    let o = ir_triplets_at_q q0 d rotations time_reversal swappable n m in
    cond (triplet_class_lengths (length d) k)
    (record { answer = answer_of o.answer; map_triplets = o.map_triplets; map_q = o.map_q; told = classes_told o.answer })
    (record { answer = wrong_length; map_triplets = unwritten n; map_q = unwritten m; told = unwritten k })

-- ---- the triplets
-- of the record, d, Q and the lattice
abbrev pub triplet_lengths : ℕ → ℕ → ℕ → ℕ → Bool
triplet_lengths table d q lattice = eqb table 7 && (eqb d 3 && (eqb q 9 && eqb lattice 9))

pub record ZoneBzTripletsAtQ : Type 0 where
  pub answer : ℤ
  pub out : List ℤ
  pub left : List ℤ
  pub left_length : List Float
  pub cells : List ℤ

-- the outputs have n, m, l and k places
abbrev pub zone_bz_triplets_at_q : ℤ → (addresses map table classes d q : List ℤ) → List Float → ℤ → (n m l k : ℕ) → ZoneBzTripletsAtQ
zone_bz_triplets_at_q q0 addresses map table classes d q lattice t n m l k =
    let o = bz_triplets_at_q q0 addresses map (table_at table) classes d (rows (matrix_at q 0)) (rows (float_nine lattice)) t n m l k in
    cond (triplet_lengths (length table) (length d) (length q) (length lattice))
    (record { answer = answer_of o.answer; out = o.out; left = o.left; left_length = o.left_length; cells = o.cells })
    (record { answer = wrong_length; out = unwritten n; left = unwritten m; left_length = replicate l (of_int binary64 (negsuc 0)); cells = unwritten k })
