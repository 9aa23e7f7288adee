-- Triplets from a table and from what an accepted `convert_bz_grid` made of it are the same by address.
use Rattle.std.specs.Prelude.{◌≡◌, List, ℕ, ◌≤◌, ℤ, T, length, Float, Ok}
use Rattle.common.specs.Array.{sides_of}
use Rattle.grgrid.specs.Grid.{size}
use Rattle.bzgrid.specs.declared.GridType.{GridType}
use Rattle.bzgrid.specs.declared.TableRecord.{TableRecord}
use Rattle.bzgrid.specs.declared.Built.{Built}
use Rattle.bzgrid.specs.BzGridAddresses.{grid_type_of}
use Rattle.bztable.specs.Reading.{whole_addresses}
use Rattle.bzconvert.specs.Layout.{Table}
use Rattle.bzconvert.specs.Convert.{other, convert_bz_grid}
use Rattle.bzconvert.specs.ThereAndBack.{table_in}
use Rattle.bzconvert.specs.Addressed.{AtPoint}
use Rattle.bzconvert.specs.SameTriplets.{Asked, triplets_of}

-- q0 of a table of record r
abbrev pub asked : ℤ → Table → TableRecord → Asked
asked q0 x r = record { q0 = q0; table = x; known = r; type = r.bz_grid_type }

-- u of the one and v of the other table at one grid point; the addresses that were left are handed on whole
abbrev pub ConvertedTriplets : Type 0
ConvertedTriplets = (r : TableRecord) (x : Table) (a b c : ℕ) (l : Built) (t : GridType)
    → let o = convert_bz_grid r x a b c in
    o.answer ≡ Ok l → grid_type_of r.bz_grid_type ≡ Ok t → T (whole_addresses o.addresses)
    → (p : ℕ) (u v : ℤ) → AtPoint t (sides_of r.d) x u p → AtPoint (other t) (sides_of r.d) (table_in o) v p
    → (classes : List ℤ) → length classes ≤ size (sides_of r.d) → (q : List (List ℤ)) (lattice : List (List Float)) (n m k e : ℕ)
    → triplets_of (asked u x r) classes r.d q lattice n m k e ≡ triplets_of (asked v (table_in o) l.table) classes r.d q lattice n m k e
