-- `convert_bz_grid`: the table of the other type, with the same images in the same order, and the record that knows its grid.
use Rattle.std.specs.Prelude.{◌&&◌, ℕ, ℤ, pos, Result, Ok, Err}
use Rattle.common.specs.Array.{sides_of}
use Rattle.common.specs.Limits.{diagonal_fits, shift_fits}
use Rattle.common.specs.Tested.{require, Tested, Accepted, ◌then◌}
use Rattle.common.specs.declared.Refusal.{Refusal}
use Rattle.common.specs.declared.Refusal.TheVariants.{OutsideLimits, WrongLength, CouldNotStand}
use Rattle.bzgrid.specs.declared.GridType.{GridType}
use Rattle.bzgrid.specs.declared.GridType.TheVariants.{Sparse, Dense}
use Rattle.bzgrid.specs.declared.TableRecord.{TableRecord}
use Rattle.bzgrid.specs.declared.Built.{Built}
use Rattle.bzgrid.specs.Table.{named}
use Rattle.bzgrid.specs.BzGridAddresses.{grid_type_of, lengths_of, has_room, BzGridAddresses, unbuilt, laid_out, recorded}
use Rattle.bztable.specs.Reading.{whole_addresses}
use Rattle.bzconvert.specs.Layout.{Table, list_at, table_read, could_stand}

abbrev pub other : GridType → GridType
other Sparse = Dense
other Dense = Sparse

abbrev pub type_number : GridType → ℤ
type_number Sparse = pos 1
type_number Dense = pos 2

-- the record of the same grid, for a table of type t
abbrev pub with_type : GridType → TableRecord → TableRecord
with_type t r = record { d = r.d; ps = r.ps; bz_grid_type = type_number t }

-- the type of the table
unfoldable pub layout_tests : TableRecord → Table → Result GridType Refusal
layout_tests r x =
    require (whole_addresses x.addresses) WrongLength
    (require (diagonal_fits r.d && shift_fits r.ps) OutsideLimits (grid_type_of r.bz_grid_type))

-- of a table of type t; the outputs have a, b and c places
module _ (t : GridType) (r : TableRecord) (x : Table) (a b c : ℕ) where
  unfoldable pub stand_tests : Tested
  unfolding table_read could_stand
  stand_tests =
      let d = sides_of r.d in
      table_read t d x then λ m.
      require (could_stand t d x m) CouldNotStand
      (require (has_room (lengths_of (other t) d (named (list_at t d x))) a b c) WrongLength Accepted)

  unfoldable pub converted : BzGridAddresses Built
  unfolding stand_tests
  converted =
      let d = sides_of r.d in
      recorded (with_type (other t) r) (laid_out (other t) d (named (list_at t d x)) a b c stand_tests)

abbrev pub converted_for : Result GridType Refusal → TableRecord → Table → (a b c : ℕ) → BzGridAddresses Built
converted_for (Ok t) r x a b c = converted t r x a b c
converted_for (Err e) r x a b c = unbuilt a b c e

unfoldable pub convert_bz_grid : TableRecord → Table → (a b c : ℕ) → BzGridAddresses Built
unfolding layout_tests converted
convert_bz_grid r x a b c = converted_for (layout_tests r x) r x a b c
