-- What the three outputs of an accepted `bz_grid_addresses` hold: every image folds back to its point, and no two are equal.
use Rattle.std.specs.Prelude.{◌≡◌, List, ℕ, ◌<◌, ℤ, Float, Ok}
use Rattle.common.specs.Array.{sides_of}
use Rattle.grgrid.specs.Grid.{size, index}
use Rattle.bzgrid.specs.declared.GridType.{GridType}
use Rattle.bzgrid.specs.declared.Built.{Built}
use Rattle.bzgrid.specs.BzGridAddresses.{grid_type_of, bz_grid_addresses}
use Rattle.bztable.specs.Access.{ImageAt}
use Rattle.bztable.specs.Reading.{got, triple_at, place_at}

-- of m images, in the tables of either type
pub record FoldBack (d addresses map points : List ℤ) (kind : GridType) (m : ℕ) : Type 0 where
  -- the image at a place of point p folds back to p, and the table of points names p there
  pub folds : (p : ℕ) → p < size (sides_of d) → (i : ℕ) → ImageAt kind map (size (sides_of d)) p i
      → (i < m) × (index (sides_of d) (triple_at addresses i) ≡ p) × (place_at points i ≡ got p)
  -- every image stands at a place of the point that the table names
  pub stands : (i : ℕ) → i < m → (p : ℕ) × (place_at points i ≡ got p) × (p < size (sides_of d)) × ImageAt kind map (size (sides_of d)) p i
  pub once : (i j : ℕ) → i < m → j < m → triple_at addresses i ≡ triple_at addresses j → i ≡ j

abbrev pub EveryImage : Type 0
EveryImage = (d : List ℤ) (q : List (List ℤ)) (ps : List ℤ) (lattice : List (List Float)) (type : ℤ) (a b c : ℕ) (kind : GridType) (l : Built)
    → let o = bz_grid_addresses d q ps lattice type a b c in
    grid_type_of type ≡ Ok kind → o.answer ≡ Ok l → FoldBack d o.addresses o.map o.grg kind l.lengths.grg
