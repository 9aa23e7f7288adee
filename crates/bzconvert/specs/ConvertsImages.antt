-- The tables of an accepted image call convert to what the image call of the other type leaves, in any outputs.
use Rattle.std.specs.Prelude.{◌≡◌, List, ℕ, T, ℤ, Float, Ok}
use Rattle.bzgrid.specs.declared.GridType.{GridType}
use Rattle.bzgrid.specs.declared.Built.{Built}
use Rattle.bzgrid.specs.BzGridAddresses.{grid_type_of, bz_grid_addresses}
use Rattle.bztable.specs.Reading.{whole_addresses}
use Rattle.bzconvert.specs.Convert.{other, type_number, convert_bz_grid}
use Rattle.bzconvert.specs.ThereAndBack.{table_in}

-- where the addresses are handed on whole; outputs that are too short are refused alike
abbrev pub ConvertsImages : Type 0
ConvertsImages = (d : List ℤ) (q : List (List ℤ)) (ps : List ℤ) (lattice : List (List Float)) (type : ℤ) (a b c : ℕ) (l : Built) (t : GridType)
    → let o = bz_grid_addresses d q ps lattice type a b c in
    o.answer ≡ Ok l → grid_type_of type ≡ Ok t → T (whole_addresses o.addresses)
    → (a' b' c' : ℕ) → convert_bz_grid l.table (table_in o) a' b' c' ≡ bz_grid_addresses d q ps lattice (type_number (other t)) a' b' c'
