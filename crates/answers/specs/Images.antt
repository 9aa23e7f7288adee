-- What the exports of bzgrid, bztable and bzconvert answer and leave in their outputs.
use Rattle.std.specs.Prelude.{Bool, ◌&&◌, List, [], ◌∷◌, ◌++◌, ℕ, ◌<◌, eqb, ℤ, pos, Float, length, get_or, Result, cond}
use Rattle.common.specs.declared.Refusal.{Refusal}
use Rattle.common.specs.Tested.{answer_of, told_of}
use Rattle.common.specs.Array.{rows, row_at, matrix_at}
use Rattle.answers.specs.Lengths.{wrong_length, unwritten}
use Rattle.bzsearch.specs.SearchView.{float_nine}
use Rattle.bzgrid.specs.declared.Lengths.{Lengths}
use Rattle.bzgrid.specs.declared.TableRecord.{TableRecord}
use Rattle.bzgrid.specs.declared.Built.{Built}
use Rattle.bzgrid.specs.BzGridAddresses.{BzGridAddresses, bz_grid_addresses, bz_grid_fill, bz_grid_sizes}
use Rattle.bzgrid.specs.KnownSizes.{numbers}
use Rattle.bztable.specs.declared.rotate.Rotated.{Rotated}
use Rattle.bztable.specs.Rotate.{rotate_bz_grid_index}
use Rattle.bztable.specs.Burst.{place_told, fallback_told, rotate_bz_grid_indices}
use Rattle.bztable.specs.Neighbours.{neighboring_grid_points_many}
use Rattle.bzconvert.specs.Convert.{convert_bz_grid}

-- ---- image tables
-- the three lengths, then the record: the diagonal, the shift and the type
abbrev pub built_places : Built → List ℤ
built_places b = numbers b.lengths ++ (row_at b.table.d 0 ++ (row_at b.table.ps 0 ++ (b.table.bz_grid_type ∷ [])))

abbrev pub images_told : Result Built Refusal → List ℤ
images_told = told_of built_places 10

-- the three lengths alone
abbrev pub sizes_told : Result Lengths Refusal → List ℤ
sizes_told = told_of numbers 3

-- a table's record, of seven numbers
abbrev pub table_at : List ℤ → TableRecord
table_at l = record { d = row_at l 0; ps = row_at l 3; bz_grid_type = get_or l 6 (pos 0) }

-- they are lengths of slices
pub record Held (l : Lengths) : Type 0 where
  pub addresses : l.addresses < 0x8000000000000000
  pub map : l.map < 0x8000000000000000
  pub grg : l.grg < 0x8000000000000000

-- of d, Q, ps, the lattice and `told`, of n places
abbrev pub image_lengths : (d q ps lattice told n : ℕ) → Bool
image_lengths d q ps lattice told n = eqb d 3 && ((eqb q 9 && (eqb ps 3 && eqb lattice 9)) && eqb told n)

pub record ZoneBzGridAddresses : Type 0 where
  pub answer : ℤ
  pub addresses : List ℤ
  pub map : List ℤ
  pub grg : List ℤ
  pub told : List ℤ

-- of an outcome
abbrev pub tables_left : BzGridAddresses Built → ZoneBzGridAddresses
tables_left o = record { answer = answer_of o.answer; addresses = o.addresses; map = o.map; grg = o.grg; told = images_told o.answer }

-- where a slice has another length; the outputs have a, b, c and n places
abbrev pub no_tables : (a b c n : ℕ) → ZoneBzGridAddresses
no_tables a b c n = record { answer = wrong_length; addresses = unwritten a; map = unwritten b; grg = unwritten c; told = unwritten n }

abbrev pub zone_bz_grid_addresses : (d q ps : List ℤ) → List Float → ℤ → (a b c n : ℕ) → ZoneBzGridAddresses
zone_bz_grid_addresses d q ps lattice t a b c n =
    cond (image_lengths (length d) (length q) (length ps) (length lattice) n 10)
    (tables_left (bz_grid_addresses d (rows (matrix_at q 0)) ps (rows (float_nine lattice)) t a b c)) (no_tables a b c n)

-- the same from the lengths, three numbers
abbrev pub zone_bz_grid_fill : (d q ps : List ℤ) → List Float → ℤ → List ℤ → (a b c n : ℕ) → ZoneBzGridAddresses
zone_bz_grid_fill d q ps lattice t sizes a b c n =
    cond (eqb (length sizes) 3 && image_lengths (length d) (length q) (length ps) (length lattice) n 10)
    (tables_left (bz_grid_fill d (rows (matrix_at q 0)) ps (rows (float_nine lattice)) t sizes a b c)) (no_tables a b c n)

pub record ZoneBzGridSizes : Type 0 where
  pub answer : ℤ
  pub told : List ℤ

-- `told` has n places
abbrev pub zone_bz_grid_sizes : (d q ps : List ℤ) → List Float → ℤ → ℕ → ZoneBzGridSizes
zone_bz_grid_sizes d q ps lattice t n =
    let o = bz_grid_sizes d (rows (matrix_at q 0)) ps (rows (float_nine lattice)) t in
    cond (image_lengths (length d) (length q) (length ps) (length lattice) n 3)
    (record { answer = answer_of o; told = sizes_told o }) (record { answer = wrong_length; told = unwritten n })

-- ---- the rotation of an image
-- the index, and 1 for a fallback
abbrev pub rotated_places : Rotated → List ℤ
rotated_places r = place_told r ∷ fallback_told r ∷ []

abbrev pub rotated_told : Result Rotated Refusal → List ℤ
rotated_told = told_of rotated_places 2

-- of the rotation, the record, d, ps and `told`
abbrev pub rotate_lengths : ℕ → ℕ → ℕ → ℕ → ℕ → Bool
rotate_lengths rotation table d ps told = eqb rotation 9 && (eqb table 7 && (eqb d 3 && (eqb ps 3 && eqb told 2)))

pub record ZoneRotateBzGridIndex : Type 0 where
  pub answer : ℤ
  pub told : List ℤ

-- the output has n places
abbrev pub zone_rotate_bz_grid_index : ℤ → (rotation addresses map table d ps : List ℤ) → ℤ → ℕ → ZoneRotateBzGridIndex
zone_rotate_bz_grid_index index rotation addresses map table d ps t n =
    let o = rotate_bz_grid_index index (rows (matrix_at rotation 0)) addresses map (table_at table) d ps t in
    cond (rotate_lengths (length rotation) (length table) (length d) (length ps) n)
    (record { answer = answer_of o; told = rotated_told o }) (record { answer = wrong_length; told = unwritten n })

-- ---- of many images
-- of the rotation, the record, d and ps
abbrev pub burst_lengths : ℕ → ℕ → ℕ → ℕ → Bool
burst_lengths rotation table d ps = eqb rotation 9 && (eqb table 7 && (eqb d 3 && eqb ps 3))

pub record ZoneRotateBzGridIndices : Type 0 where
  pub answer : ℤ
  pub out : List ℤ
  pub fallbacks : List ℤ

-- the outputs have n and m places
abbrev pub zone_rotate_bz_grid_indices : (indices rotation addresses map table d ps : List ℤ) → ℤ → (n m : ℕ) → ZoneRotateBzGridIndices
zone_rotate_bz_grid_indices indices rotation addresses map table d ps t n m =
    let o = rotate_bz_grid_indices indices (rows (matrix_at rotation 0)) addresses map (table_at table) d ps t n m in
    cond (burst_lengths (length rotation) (length table) (length d) (length ps))
    (record { answer = answer_of o.answer; out = o.out; fallbacks = o.fallbacks })
    (record { answer = wrong_length; out = unwritten n; fallbacks = unwritten m })

-- ---- neighbours
pub record ZoneNeighboringGridPoints : Type 0 where
  pub answer : ℤ
  pub out : List ℤ

-- the output has n places
abbrev pub zone_neighboring_grid_points : (points offsets addresses map table d : List ℤ) → ℤ → ℕ → ZoneNeighboringGridPoints
zone_neighboring_grid_points points offsets addresses map table d t n =
    let o = neighboring_grid_points_many points offsets addresses map (table_at table) d t n in
    cond (eqb (length table) 7 && eqb (length d) 3) (record { answer = answer_of o.answer; out = o.out }) (record { answer = wrong_length; out = unwritten n })

-- ---- the table of the other type
abbrev pub zone_convert_bz_grid : (table addresses map grg : List ℤ) → (a b c n : ℕ) → ZoneBzGridAddresses
zone_convert_bz_grid table addresses map grg a b c n =
    cond (eqb (length table) 7 && eqb n 10)
    (tables_left (convert_bz_grid (table_at table) (record { addresses = addresses; map = map; grg = grg }) a b c)) (no_tables a b c n)
