-- The triplets of classes by the addresses of their images: what `bz_triplets_at_q` finds, said without a table.
use Rattle.std.specs.Prelude.{◌≡◌, List, map as map_list, ℕ, ◌<◌, ℤ, pos, negsuc, length, Float, Option, Some, None}
use Rattle.std.specs.Float.{binary64}
use Rattle.std.specs.Float.Ieee.{sub, lt}
use Rattle.common.specs.Matrix.{Vec, Mat, map_vec}
use Rattle.common.specs.Array.{sides_of, matrix_of}
use Rattle.common.specs.FloatMatrix.{float_matrix}
use Rattle.common.specs.Tested.{Tested, ◌then◌}
use Rattle.grgrid.specs.Grid.{size, index}
use Rattle.grgrid.specs.Own.{own_points}
use Rattle.bzsearch.specs.Lattice.{bz_tolerance}
use Rattle.bzgrid.specs.declared.GridType.{GridType}
use Rattle.bzgrid.specs.declared.GridType.TheVariants.{Sparse, Dense}
use Rattle.bztable.specs.Access.{image_places}
use Rattle.bztable.specs.Reading.{got, triple_at, address_at, address_of, read_each}
use Rattle.triplet_grid.specs.Partner.{partner}
use Rattle.bz_triplets.specs.Choosing.{Found, start, left, closed, tried, nested}
use Rattle.bz_triplets.specs.BzTriplets.{Choice, State, sum_of, is_zero, squared_distance, lqd_inv, BzTriplets}
use Rattle.bzconvert.specs.Layout.{Table}

-- ---- a table as a triplet call reads it
-- a table of type t reads the lists g: at the places of each point stand its images, in order
abbrev pub Reads : GridType → Vec ℕ → Table → (ℕ → List (Vec ℤ)) → Type 0
Reads t d x g = (p : ℕ) → p < size d → (image_places t x.map (size d) p then read_each (address_at x.addresses)) ≡ got (g p)

-- q0 is at grid point p: in type 1 the point itself, in type 2 any place whose address folds to it
abbrev pub AtPoint : GridType → Vec ℕ → Table → ℤ → ℕ → Type 0
AtPoint Sparse d x q0 p = (q0 ≡ pos p) × (p < size d)
AtPoint Dense d x q0 p = (a : Vec ℤ) × (address_of x.addresses q0 ≡ got a) × (index d a ≡ p)

-- ---- triplets by addresses
-- a choice of three images by their addresses, with the sum of these
pub record Trio : Type 0 where
  pub at : Vec (Vec ℤ)
  pub sum : Vec ℤ

abbrev pub Chosen : Type 0
Chosen = Found Trio Float

-- what a walk over the places of table l found
abbrev pub trio_of : List ℤ → Choice → Trio
trio_of l c = record { at = map_vec (triple_at l) c.at; sum = c.sum }

abbrev pub addressed : List ℤ → State → Chosen
addressed l start = start
addressed l (left x c) = left x (trio_of l c)
addressed l (closed c) = closed (trio_of l c)

-- the same walk over addresses
module _ (lqd : Mat Float) (tolerance : Float) where
  abbrev pub try_trio : Chosen → Vec (Vec ℤ) → Chosen
  try_trio s a =
      tried (λ c. is_zero c.sum) (λ c. squared_distance lqd c.sum) lt (λ x. sub binary64 x tolerance) s (record { at = a; sum = sum_of a.x a.y a.z })

  -- the triplet of the class of q1, where q0 is at point p and g tells the images of each point
  abbrev pub triplet_among : Vec ℕ → (ℕ → List (Vec ℤ)) → (p q1 : ℕ) → Chosen
  triplet_among d g p q1 = nested try_trio start (record { x = g p; y = g q1; z = g (partner d p q1) })

-- one for each class
abbrev pub triplets_among : (classes d : List ℤ) → List (List ℤ) → List (List Float) → (ℕ → List (Vec ℤ)) → ℕ → List Chosen
triplets_among classes d q lattice g p =
    map_list (triplet_among (lqd_inv (float_matrix lattice) (matrix_of q) (sides_of d)) (bz_tolerance (float_matrix lattice) (sides_of d)) (sides_of d) g p)
    (own_points classes (length classes))

-- ---- what a call leaves, with addresses for places
pub record ByAddresses : Type 0 where
  pub answer : Tested
  pub out : List (Option (Vec ℤ))
  pub left : List ℤ
  pub left_length : List Float
  pub cells : List ℤ

-- at a place that `out` names; none at -1
abbrev pub address_in : List ℤ → ℤ → Option (Vec ℤ)
address_in l (pos i) = Some (triple_at l i)
address_in l (negsuc i) = None

abbrev pub by_addresses : List ℤ → BzTriplets → ByAddresses
by_addresses l r =
    record { answer = r.answer; out = map_list (address_in l) r.out; left = r.left; left_length = r.left_length; cells = r.cells }
