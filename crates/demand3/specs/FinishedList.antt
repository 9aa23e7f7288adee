-- Demand 3: what holds of the finished list that diagonalising, transforming, images, classes and triplets leave, each accepted and each given what
-- those before it left. The theorem is `demand-3` of proofs/FinishedList.
use Rattle.std.specs.Prelude.{◌≡◌, ◌↔◌, Bool, List, ℕ, ◌*◌, ◌<◌, T, ℤ, pos, ◌*ℤ◌, length, get_or, take, Float, Ok}
use Rattle.std.specs.Float.{binary64}
use Rattle.std.specs.Float.Ieee.{sub, le}
use Rattle.common.specs.Tested.{Accepted}
use Rattle.common.specs.Matrix.{Axis, Vec, Mat, side, map_vec, origin}
use Rattle.common.specs.Array.{items, rows, sides_of, matrix_of, matrices}
use Rattle.common.specs.FloatMatrix.{float_matrix}
use Rattle.grgrid.specs.Grid.{size}
use Rattle.grgrid.specs.Lists.{◌∈◌}
use Rattle.grgrid.specs.MatrixGroup.{MatrixGroup}
use Rattle.grgrid.specs.Picked.{Rising}
use Rattle.grgrid.specs.Own.{own_points}
use Rattle.grgrid.specs.Orbits.{Least, OneEach}
use Rattle.recip_rotations.specs.PointGroup.{with_negatives, get_reciprocal_point_group}
use Rattle.snf3x3.specs.Snf3x3.{snf3x3, diagonalised}
use Rattle.transform_rotations.specs.TransformRotations.{transform_rotations}
use Rattle.bzgrid.specs.declared.GridType.{GridType}
use Rattle.bzgrid.specs.declared.GridType.TheVariants.{Sparse, Dense}
use Rattle.bzgrid.specs.declared.Built.{Built}
use Rattle.bzsearch.specs.Lattice.{bz_tolerance}
use Rattle.bzsearch.specs.Search.{Search, images}
use Rattle.bzgrid.specs.BzGridAddresses.{grid_type_of, search_of, bz_grid_addresses}
use Rattle.bztable.specs.Access.{ImageAt}
use Rattle.bztable.specs.Reading.{triple_at}
use Rattle.triplet_grid.specs.Partner.{partner}
use Rattle.triplet_grid.specs.IrTriplets.{ir_triplets_at_q}
use Rattle.triplet_grid.specs.Classes.{Joined, Meets, Operation, Carries}
use Rattle.bz_triplets.specs.BzTriplets.{lqd_inv, squared_distance, sum_of, bz_triplets_at_q}

-- ---- the calls
-- the list goes into transforming as it stands, or as the reciprocal call returned it: the told part
pub data Given (time_reversal : Bool) (list : List ℤ) : List ℤ → Type 0 where
  as-it-stands : Given time_reversal list list
  as-returned : (transposed : Bool) (n count : ℕ) → (get_reciprocal_point_group list time_reversal transposed n).answer ≡ Ok count
      → Given time_reversal list (take (count * 9) (get_reciprocal_point_group list time_reversal transposed n).out)

-- the triplet call gets q0 as a grid point for type 1, and as any image index of q0 for type 2
abbrev pub Starts : GridType → List ℤ → (n q0 start : ℕ) → Type 0
Starts Sparse map n q0 start = start ≡ q0
Starts Dense map n q0 start = ImageAt Dense map n q0 start

-- what comes from outside, what each call left, and that each accepted. The lengths of lent slices are free.
pub record Calls : Type 0 where
  pub list : List ℤ
  pub matrix : List (List ℤ)
  pub lattice : List (List Float)
  pub shift : List ℤ
  pub type : ℤ
  -- the layout that an accepted type names
  pub kind : GridType
  pub kind-is : grid_type_of type ≡ Ok kind
  pub time_reversal : Bool
  pub swappable : Bool
  pub q0 : ℕ
  -- the list that is transformed
  pub rotations : List ℤ
  pub given : Given time_reversal list rotations
  -- diagonalising
  pub d : Vec ℤ
  pub p : Mat ℤ
  pub q : Mat ℤ
  pub rounds : ℕ
  pub diagonalises : snf3x3 (matrix_of matrix) ≡ diagonalised d p q rounds
  -- transforming
  pub transformed : List ℤ
  pub room : ℕ
  pub transforms : (transform_rotations rotations (items d) (rows q) room).answer ≡ Accepted
  pub transforms-to : transformed ≡ (transform_rotations rotations (items d) (rows q) room).out
  -- images
  pub addresses : List ℤ
  pub map : List ℤ
  pub rooms : Vec ℕ
  pub built : Built
  pub builds : (bz_grid_addresses (items d) (rows q) shift lattice type rooms.x rooms.y rooms.z).answer ≡ Ok built
  pub builds-addresses : addresses ≡ (bz_grid_addresses (items d) (rows q) shift lattice type rooms.x rooms.y rooms.z).addresses
  pub builds-map : map ≡ (bz_grid_addresses (items d) (rows q) shift lattice type rooms.x rooms.y rooms.z).map
  -- classes
  pub classes : List ℤ
  pub class-room : ℕ
  pub point-room : ℕ
  pub count : ℤ
  pub classifies : (ir_triplets_at_q (pos q0) (items d) transformed time_reversal swappable class-room point-room).answer ≡ Ok count
  pub classifies-to : classes ≡ (ir_triplets_at_q (pos q0) (items d) transformed time_reversal swappable class-room point-room).map_triplets
  -- triplets
  pub start : ℕ
  pub starts : Starts kind map (size (sides_of (items d))) q0 start
  pub triplets : List ℤ
  pub cells : List ℤ
  pub triplet-rooms : Vec ℕ
  pub cell-room : ℕ
  pub chooses : (bz_triplets_at_q (pos start) addresses map built.table classes (items d) (rows q) lattice type
      triplet-rooms.x triplet-rooms.y triplet-rooms.z cell-room).answer ≡ Accepted
  pub chooses-to : triplets ≡ (bz_triplets_at_q (pos start) addresses map built.table classes (items d) (rows q) lattice type
      triplet-rooms.x triplet-rooms.y triplet-rooms.z cell-room).out
  pub tells-cells : cells ≡ (bz_triplets_at_q (pos start) addresses map built.table classes (items d) (rows q) lattice type
      triplet-rooms.x triplet-rooms.y triplet-rooms.z cell-room).cells

-- ---- the finished list
module _ (c : Calls) where
  abbrev pub grid : Vec ℕ
  grid = sides_of (items c.d)

  abbrev pub points : ℕ
  points = size grid

  -- the class number of a point
  abbrev pub number : ℕ → ℤ
  number q1 = get_or c.classes q1 (pos 0)

  -- an operation that keeps q0 carries one point to the other
  abbrev pub carries : ℕ → ℕ → Type 0
  carries = Carries grid (Operation c.time_reversal (matrices c.transformed)) c.q0

  -- -q0 - q1
  abbrev pub partner_of : ℕ → ℕ
  partner_of q1 = partner grid c.q0 q1

  -- the class of a point: where such operations carry it and, with swapping, the partners of these
  abbrev pub Class : ℕ → ℕ → Type 0
  Class = Joined c.swappable carries partner_of

  -- the points with their own number, from the lowest up
  abbrev pub lowest_points : List ℕ
  lowest_points = own_points c.classes (length c.classes)

  -- ---- a choice: one image each of q0, q1 and its partner
  abbrev pub search : Search
  search = search_of (items c.d) (rows c.q) c.shift c.lattice

  abbrev pub trio : ℕ → Vec ℕ
  trio q1 = record { x = c.q0; y = q1; z = partner_of q1 }

  abbrev pub Choice : ℕ → Vec (Vec ℤ) → Type 0
  Choice q1 a = (k : Axis) → side a k ∈ images search (side (trio q1) k)

  abbrev pub sum : Vec (Vec ℤ) → Vec ℤ
  sum a = sum_of a.x a.y a.z

  abbrev pub squared_length : Vec (Vec ℤ) → Float
  squared_length a = squared_distance (lqd_inv (float_matrix c.lattice) c.q grid) (sum a)

  abbrev pub less_tolerance : Float → Float
  less_tolerance x = sub binary64 x (bz_tolerance (float_matrix c.lattice) grid)

  -- the addresses at image indices
  abbrev pub at : Vec ℕ → Vec (Vec ℤ)
  at i = map_vec (triple_at c.addresses) i

  -- a triplet of image indices for the class of q1, whose sum lies in cell g
  pub record Best (q1 : ℕ) (i : Vec ℕ) (g : Vec ℤ) : Type 0 where
    pub stands : (k : Axis) → ImageAt c.kind c.map points (side (trio q1) k) (side i k)
    pub choice : Choice q1 (at i)
    -- the sum is the cell times the diagonal
    pub whole : (k : Axis) → side (sum (at i)) k ≡ side g k *ℤ pos (side grid k)
    -- it sums to zero if any choice does
    pub closes : (a : Vec (Vec ℤ)) → Choice q1 a → sum a ≡ origin → sum (at i) ≡ origin
    -- else every choice has at least its squared length less the tolerance
    pub least : ¬ (sum (at i) ≡ origin) → (a : Vec (Vec ℤ)) → Choice q1 a → T (le (less_tolerance (squared_length (at i))) (squared_length a))

  -- ---- what holds of every accepted list
  pub record EveryList : Type 0 where
    -- every point has a number
    pub full : length c.classes ≡ points
    -- the lowest points rise
    pub rising : Rising lowest_points
    -- and in their order each has one triplet, with its cell
    pub as_many : length c.triplets ≡ length lowest_points * 3
    pub cells_too : length c.cells ≡ length lowest_points * 3
    pub best : (j : ℕ) → j < length lowest_points
        → (i : Vec ℕ) × (triple_at c.triplets j ≡ map_vec pos i) × Best (get_or lowest_points j 0) i (triple_at c.cells j)

  -- ---- and where the list of rotations is a group
  pub record TrueClasses : Type 0 where
    -- two points bear one number exactly if an operation that keeps q0 carries one to the other or, with swapping, to the other's partner
    pub same_number : (p q : ℕ) → p < points → q < points → (number p ≡ number q) ↔ Meets c.swappable carries partner_of p q
    -- the number is the lowest point of the class
    pub lowest : (p : ℕ) → p < points → (r : ℕ) × (number p ≡ pos r) × Least (Class p) r
    -- the lowest points are one of each class
    pub one_each : OneEach points Class lowest_points

  pub record FinishedList : Type 0 where
    pub every : EveryList
    pub true-classes : TrueClasses

-- The list's four conditions are one record: identity, no repeats, determinants of 1 or -1, products. They are asked of the list with its negatives
-- joined, where time reversal joins them; a list that meets them itself meets them so (proofs/JoinedList).
pub record Demand3 (c : Calls) : Type 0 where
  pub every : EveryList c
  pub true-classes : MatrixGroup (with_negatives c.time_reversal (matrices c.list)) → TrueClasses c
