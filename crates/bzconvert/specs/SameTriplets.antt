-- Triplets from two tables of the same images, of whatever types, are the same by address: marks, lengths, cells and refusals too.
use Rattle.std.specs.Prelude.{◌≡◌, List, map as map_list, ℕ, ◌≤◌, ℤ, T, length, Float, Ok}
use Rattle.common.specs.Matrix.{Vec}
use Rattle.common.specs.Array.{sides_of}
use Rattle.common.specs.Limits.{diagonal_fits}
use Rattle.grgrid.specs.Grid.{size}
use Rattle.bzgrid.specs.declared.GridType.{GridType}
use Rattle.bzgrid.specs.declared.TableRecord.{TableRecord}
use Rattle.bzgrid.specs.BzGridAddresses.{grid_type_of}
use Rattle.bztable.specs.Agreement.{agrees_grid}
use Rattle.bztable.specs.Reading.{got, whole_addresses}
use Rattle.bz_triplets.specs.BzTriplets.{State, triplets_read, bz_triplets_at_q}
use Rattle.bzconvert.specs.Layout.{Table}
use Rattle.bzconvert.specs.Standing.{Good}
use Rattle.bzconvert.specs.Addressed.{Reads, AtPoint, addressed, triplets_among, ByAddresses, by_addresses}

-- ---- from a table that reads good lists no triplet is refused, and by address they are those of the lists
abbrev pub TripletsAmong : Type 0
TripletsAmong = (d : List ℤ) (g : ℕ → List (Vec ℤ)) → T (diagonal_fits d) → Good (sides_of d) g
    → (t : GridType) (x : Table) → Reads t (sides_of d) x g → (q0 : ℤ) (p : ℕ) → AtPoint t (sides_of d) x q0 p
    → (classes : List ℤ) → length classes ≤ size (sides_of d) → (q : List (List ℤ)) (lattice : List (List Float))
    → (s : List State) × (triplets_read q0 x.addresses x.map classes d q lattice t ≡ got s)
    × (map_list (addressed x.addresses) s ≡ triplets_among classes d q lattice g p)

-- ---- what a call is given of a table: q0, the table, its record and its type's number
pub record Asked : Type 0 where
  pub q0 : ℤ
  pub table : Table
  pub known : TableRecord
  pub type : ℤ

-- a table of the lists g on the grid of d, whose record agrees, with q0 at point p
pub record AskedOf (d : List ℤ) (g : ℕ → List (Vec ℤ)) (p : ℕ) (i : Asked) : Type 0 where
  pub kind : GridType
  pub typed : grid_type_of i.type ≡ Ok kind
  pub agrees : T (agrees_grid i.known d i.type)
  pub whole : T (whole_addresses i.table.addresses)
  pub reads : Reads kind (sides_of d) i.table g
  pub at : AtPoint kind (sides_of d) i.table i.q0 p

-- with outputs of n, m, l and c places
abbrev pub triplets_of : Asked → (classes d : List ℤ) → List (List ℤ) → List (List Float) → (n m l c : ℕ) → ByAddresses
triplets_of i classes d q lattice n m l c =
    by_addresses i.table.addresses (bz_triplets_at_q i.q0 i.table.addresses i.table.map i.known classes d q lattice i.type n m l c)

-- any class map of at most N places, and any Q, lattice and outputs
abbrev pub SameTriplets : Type 0
SameTriplets = (d : List ℤ) (g : ℕ → List (Vec ℤ)) (p : ℕ) → T (diagonal_fits d) → Good (sides_of d) g
    → (i j : Asked) → AskedOf d g p i → AskedOf d g p j
    → (classes : List ℤ) → length classes ≤ size (sides_of d) → (q : List (List ℤ)) (lattice : List (List Float)) (n m l c : ℕ)
    → triplets_of i classes d q lattice n m l c ≡ triplets_of j classes d q lattice n m l c
