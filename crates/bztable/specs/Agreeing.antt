-- Of the records of tables: that which an accepted image call leaves agrees with its input, and where the record agrees a call's outcome is that by the layout
-- alone, as if tables had no record.
use Rattle.std.specs.Prelude.{◌≡◌, List, ℕ, T, ℤ, Float, Ok}
use Rattle.bzgrid.specs.declared.TableRecord.{TableRecord}
use Rattle.bzgrid.specs.declared.Built.{Built}
use Rattle.bzgrid.specs.BzGridAddresses.{grid_type_of, bz_grid_addresses}
use Rattle.bztable.specs.Agreement.{agrees_grid, agrees}
use Rattle.bztable.specs.Rotate.{rotate_in, rotate_bz_grid_index}
use Rattle.bztable.specs.Neighbours.{neighbours_in, neighboring_grid_points_many}

abbrev pub LeftRecord : Type 0
LeftRecord = (d : List ℤ) (q : List (List ℤ)) (ps : List ℤ) (lattice : List (List Float)) (type : ℤ) (a b c : ℕ) (l : Built)
    → (bz_grid_addresses d q ps lattice type a b c).answer ≡ Ok l → T (agrees l.table d ps type)

abbrev pub AgreeingRotation : Type 0
AgreeingRotation = (i : ℤ) (rotation : List (List ℤ)) (addresses map : List ℤ) (r : TableRecord) (d ps : List ℤ) (type : ℤ) → T (agrees r d ps type)
    → rotate_bz_grid_index i rotation addresses map r d ps type ≡ rotate_in (grid_type_of type) i rotation addresses map d ps

abbrev pub AgreeingNeighbours : Type 0
AgreeingNeighbours = (points offsets addresses map : List ℤ) (r : TableRecord) (d : List ℤ) (type : ℤ) (n : ℕ) → T (agrees_grid r d type)
    → neighboring_grid_points_many points offsets addresses map r d type n ≡ neighbours_in (grid_type_of type) points offsets addresses map d n
