-- On the tables of an accepted image call, an accepted triplet call of the same diagonal and type leaves a triplet of images for each class, whose sum is its
-- cell times the diagonal: for any q0, record, class map, Q, lattice, shift and room.
use Rattle.std.specs.Prelude.{◌≡◌, List, ℕ, ◌<◌, ℤ, pos, ◌*ℤ◌, length, Float, Ok}
use Rattle.common.specs.Tested.{Accepted}
use Rattle.common.specs.Matrix.{Axis, Vec, side, map_vec}
use Rattle.common.specs.Array.{sides_of}
use Rattle.grgrid.specs.Own.{own_places}
use Rattle.bzgrid.specs.declared.TableRecord.{TableRecord}
use Rattle.bzgrid.specs.declared.Built.{Built}
use Rattle.bzgrid.specs.BzGridAddresses.{bz_grid_addresses}
use Rattle.bztable.specs.Reading.{triple_at}
use Rattle.bz_triplets.specs.BzTriplets.{sum_of, bz_triplets_at_q}

-- triplet j of images i, by the three lists
pub record WholeSum (addresses triplets cells d : List ℤ) (j : ℕ) : Type 0 where
  pub i : Vec ℕ
  pub places : triple_at triplets j ≡ map_vec pos i
  pub whole : (k : Axis) → side (sum_of (triple_at addresses i.x) (triple_at addresses i.y) (triple_at addresses i.z)) k
      ≡ side (triple_at cells j) k *ℤ pos (side (sides_of d) k)

abbrev pub EverySum : Type 0
EverySum = (d : List ℤ) (q : List (List ℤ)) (ps : List ℤ) (lattice : List (List Float)) (type : ℤ) (a b c : ℕ) (l : Built)
    → (q0 : ℤ) (table : TableRecord) (classes : List ℤ) (change : List (List ℤ)) (basis : List (List Float)) (n m k o : ℕ)
    → let t = bz_grid_addresses d q ps lattice type a b c in
    let r = bz_triplets_at_q q0 t.addresses t.map table classes d change basis type n m k o in
    t.answer ≡ Ok l → r.answer ≡ Accepted → (j : ℕ) → j < own_places classes (length classes) → WholeSum t.addresses r.out r.cells d j
