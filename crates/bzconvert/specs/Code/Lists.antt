-- The images of each point, as the code reads them of a table, and the other table that it lays out from them.
use Rattle.std.specs.Prelude.{◌≡◌, T, List, [], ℕ, ◌<◌, ℤ}
use Rattle.common.specs.Matrix.{Vec}
use Rattle.common.specs.Tested.{require, Accepted, ◌then◌}
use Rattle.common.specs.declared.Refusal.TheVariants.{WrongLength}
use Rattle.grgrid.specs.Grid.{size}
use Rattle.grgrid.specs.Sides.{sides}
use Rattle.bzgrid.specs.declared.GridType.{GridType}
use Rattle.bzgrid.specs.declared.Lengths.{Lengths}
use Rattle.bzgrid.specs.Table.{Image, named}
use Rattle.bzgrid.specs.BzGridAddresses.{BzGridAddresses, all_found, lengths_of, has_room, laid_out}
use Rattle.bztable.specs.declared.reading.Table.{Table}
use Rattle.bztable.specs.Access.{image_places}
use Rattle.bztable.specs.Reading.{Read, got, address_at, read_each}
use Rattle.bzconvert.specs.Layout.{list_at}
use Rattle.bzconvert.specs.Code.ByPlaces.{table_view}

module _ (x : Table) where
  abbrev pub list_read : ℕ → Read (List (Vec ℤ))
  list_read p = image_places x.t x.map.now (size (sides x.g)) p then read_each (address_at x.addresses.now)

  -- they say nothing of the third table
  abbrev pub list_held : ℕ → List (Vec ℤ)
  list_held = list_at x.t (sides x.g) (table_view x [])

  abbrev pub images_held : ℕ → List Image
  images_held = named list_held

  -- each can be read, and no point is without
  pub record ListsRead : Type 0 where
    pub reads : (p : ℕ) → p < size (sides x.g) → list_read p ≡ got (list_held p)
    pub some : T (all_found images_held (size (sides x.g)))

  -- laid out for type t, in outputs that have a, b and c places
  abbrev pub laid_anew : GridType → (a b c : ℕ) → BzGridAddresses Lengths
  laid_anew t a b c =
      let d = sides x.g in
      laid_out t d images_held a b c (require (has_room (lengths_of t d images_held) a b c) WrongLength Accepted)
