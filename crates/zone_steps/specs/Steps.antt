-- The steps of the chain: the rotations in the basis of a grid, its images, classes and triplets. Their tests are those of the calls, one after the
-- other, and their outputs what the calls leave; an output may be longer than needed, and the rest holds -1.
use Rattle.std.specs.Prelude.{Bool, true, List, ◌++◌, ℕ, ◌*◌, ◌-◌, leb, ℤ, pos, negsuc, nat_abs, length, get_or, replicate, Float, ⊤, Result, Ok, Err}
use Rattle.std.specs.Float.{binary64}
use Rattle.std.specs.Float.Ieee.{of_int}
use Rattle.common.specs.declared.Refusal.{Refusal}
use Rattle.common.specs.Array.{sides_of, matrices, flat}
use Rattle.common.specs.Tested.{require, after, Tested, without_value}
use Rattle.common.specs.declared.Refusal.TheVariants.{WrongLength}
use Rattle.grgrid.specs.Grid.{size}
use Rattle.grgrid.specs.Own.{own_places}
use Rattle.recip_rotations.specs.PointGroup.{point_group}
use Rattle.rotation_group.specs.ReciprocalGroup.{reciprocal_tests}
use Rattle.transform_rotations.specs.TransformRotations.{transform_tests, transform_rotations}
use Rattle.bzgrid.specs.declared.GridType.{GridType}
use Rattle.bzgrid.specs.declared.GridType.TheVariants.{Sparse, Dense}
use Rattle.bzgrid.specs.declared.TableRecord.{TableRecord}
use Rattle.bzgrid.specs.declared.Built.{Built}
use Rattle.bzgrid.specs.BzGridAddresses.{grid_type_of, padded, BzGridAddresses, bz_grid_addresses}
use Rattle.triplet_grid.specs.IrTriplets.{IrTriplets, ir_triplets_at_q}
use Rattle.bz_triplets.specs.BzTriplets.{BzTriplets, bz_triplets_at_q}

-- how many places are lent: for the image tables, and for each point one in `classes`, `points`, `left` and `lengths`, three in `triplets` and `cells`
pub record Rooms : Type 0 where
  pub addresses : ℕ
  pub map : ℕ
  pub grg : ℕ
  pub classes : ℕ
  pub points : ℕ
  pub triplets : ℕ
  pub left : ℕ
  pub lengths : ℕ
  pub cells : ℕ

-- ---- the rotations in the basis of a grid
-- the told part of the reciprocal call
unfoldable pub group : List ℤ → Bool → List ℤ
unfolding point_group
group rotations time_reversal = flat (point_group (matrices rotations) time_reversal true)

module _ (rotations : List ℤ) (time_reversal : Bool) (d : List ℤ) (q : List (List ℤ)) where
  unfoldable pub transformed : List ℤ
  unfolding group transform_rotations
  transformed = (transform_rotations (group rotations time_reversal) d q (length (group rotations time_reversal))).out

  unfoldable pub rotation_tests : Tested
  unfolding group reciprocal_tests transform_tests
  rotation_tests =
      after (reciprocal_tests rotations time_reversal 432)
      (transform_tests (group rotations time_reversal) d q (length (group rotations time_reversal)))

-- ---- images, classes and triplets of a grid, whose rotations are in its basis
pub record Setting : Type 0 where
  pub d : List ℤ
  pub q : List (List ℤ)
  pub rotations : List ℤ
  pub lattice : List (List Float)
  pub time_reversal : Bool
  pub swappable : Bool
  pub type : ℤ
  pub q0 : ℤ

-- what the class and triplet calls leave
pub record Lists : Type 0 where
  pub classes : List ℤ
  pub points : List ℤ
  pub triplets : List ℤ
  pub left : List ℤ
  pub lengths : List Float
  pub cells : List ℤ

-- an answer, and what is left in the image tables and in the lists
pub record Outcome (A : Type 0) : Type 0 where
  pub answer : Result A Refusal
  pub addresses : List ℤ
  pub map : List ℤ
  pub grg : List ℤ
  pub lists : Lists

-- type 2 starts from the first image of q0
abbrev pub start_of : Result GridType Refusal → List ℤ → ℤ → ℤ
start_of (Ok Sparse) map q0 = q0
start_of (Ok Dense) map q0 = get_or map (nat_abs q0) (pos 0)
start_of (Err r) map q0 = q0

-- the record that the image call left, or -1 in every place
abbrev pub table_of : Result Built Refusal → TableRecord
table_of (Ok b) = b.table
table_of (Err r) = let none = replicate 3 (negsuc 0) in record { d = none; ps = none; bz_grid_type = negsuc 0 }

-- -1 in the places past the list
abbrev pub padded_lengths : List Float → ℕ → List Float
padded_lengths l n = l ++ replicate (n - length l) (of_int binary64 (negsuc 0))

module _ (g : Setting) where
  -- N
  abbrev pub points_of : ℕ
  points_of = size (sides_of g.d)

  -- the classes of the triplets, one number a point
  unfoldable pub classified : IrTriplets
  unfolding ir_triplets_at_q
  classified = ir_triplets_at_q g.q0 g.d g.rotations g.time_reversal g.swappable points_of points_of

  abbrev pub class_map_of : List ℤ
  class_map_of = classified.map_triplets

  -- how many triplets there are
  abbrev pub count : ℕ
  count = own_places class_map_of (length class_map_of)

  -- ---- from a table of images, and its record
  module _ (addresses map : List ℤ) (table : TableRecord) where
    abbrev pub start : ℤ
    start = start_of (grid_type_of g.type) map g.q0

    unfoldable pub chosen : BzTriplets
    unfolding classified bz_triplets_at_q
    chosen = bz_triplets_at_q start addresses map table class_map_of g.d g.q g.lattice g.type (count * 3) count count (count * 3)

    unfoldable pub list_tests : Tested
    unfolding classified chosen
    list_tests = after (without_value classified.answer) chosen.answer

    -- in outputs with room for n points
    unfoldable pub lists_of : ℕ → Lists
    unfolding classified chosen
    lists_of n = record {
      classes = padded class_map_of n;
      points = padded classified.map_q n;
      triplets = padded chosen.out (n * 3);
      left = padded chosen.left n;
      lengths = padded_lengths chosen.left_length n;
      cells = padded chosen.cells (n * 3);
    }

  -- ---- the table of images
  module _ (shift : List ℤ) (r : Rooms) where
    unfoldable pub images : BzGridAddresses Built
    unfolding bz_grid_addresses
    images = bz_grid_addresses g.d g.q shift g.lattice g.type r.addresses r.map r.grg

    abbrev pub table : TableRecord
    table = table_of images.answer

    -- its tests, and what passing them leaves; the points must find room
    unfoldable pub listed : Outcome ⊤
    unfolding images list_tests lists_of
    listed = record {
      answer = require (leb points_of r.classes) WrongLength (after (without_value images.answer) (list_tests images.addresses images.map table));
      addresses = images.addresses;
      map = images.map;
      grg = images.grg;
      lists = lists_of images.addresses images.map table r.classes;
    }
