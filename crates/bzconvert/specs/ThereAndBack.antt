-- A table that was converted converts back to the table that was given, as far as its map counts it.
use Rattle.std.specs.Prelude.{◌≡◌, ℕ, ◌*◌, T, Ok}
use Rattle.common.specs.Array.{sides_of}
use Rattle.common.specs.Matrix.{Vec}
use Rattle.bzgrid.specs.declared.GridType.{GridType}
use Rattle.bzgrid.specs.declared.Lengths.{Lengths}
use Rattle.bzgrid.specs.declared.TableRecord.{TableRecord}
use Rattle.bzgrid.specs.declared.Built.{Built}
use Rattle.bzgrid.specs.BzGridAddresses.{grid_type_of, map_length, has_room, padded, BzGridAddresses}
use Rattle.bztable.specs.Reading.{got, whole_addresses}
use Rattle.bzconvert.specs.Layout.{Table, table_read, told}
use Rattle.bzconvert.specs.Convert.{convert_bz_grid}

-- the outputs of a call, handed on
abbrev pub table_in : BzGridAddresses Built → Table
table_in o = record { addresses = o.addresses; map = o.map; grg = o.grg }

-- what a table of m images needs
abbrev pub told_lengths : GridType → Vec ℕ → ℕ → Lengths
told_lengths t d m = record { addresses = 3 * m; map = map_length t d; grg = m }

-- a call that leaves table x in outputs of a, b and c places
abbrev pub leaving : Table → Built → (a b c : ℕ) → BzGridAddresses Built
leaving x l a b c = record { answer = Ok l; addresses = padded x.addresses a; map = padded x.map b; grg = padded x.grg c }

-- in outputs that have room, where the addresses are handed on whole
abbrev pub ThereAndBack : Type 0
ThereAndBack = (r : TableRecord) (x : Table) (a b c : ℕ) (l : Built) (t : GridType) (m : ℕ)
    → let o = convert_bz_grid r x a b c in
    let n = told_lengths t (sides_of r.d) m in
    o.answer ≡ Ok l → grid_type_of r.bz_grid_type ≡ Ok t → table_read t (sides_of r.d) x ≡ got m → T (whole_addresses o.addresses)
    → (a' b' c' : ℕ) → T (has_room n a' b' c')
    → convert_bz_grid l.table (table_in o) a' b' c' ≡ leaving (told t (sides_of r.d) x m) (record { lengths = n; table = r }) a' b' c'
