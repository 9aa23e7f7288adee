-- `bz_triplets_at_q`: for each class a triplet of images of q0, q1 and q2, and the cell of their sum. The image table and the class map may hold anything.
use Rattle.std.specs.Prelude.{Bool, true, false, ◌&&◌, ◌||◌, List, [], ◌∷◌, ◌++◌, map as map_list, ℕ}
use Rattle.std.specs.Prelude.{◌*◌, eqb, ℤ, pos, negsuc, nat_abs, ◌+ℤ◌, length, Float, Result, Ok, Err}
use Rattle.std.specs.Float.{binary64}
use Rattle.std.specs.Float.Ieee.{sub, div, of_int, lt}
use Rattle.integer.specs.Same.{same}
use Rattle.common.specs.Matrix.{Vec, Mat, side, vector, entry, matrix, map_vec, map_mat, all_axes, product_over, apply_over}
use Rattle.common.specs.Array.{sides_of, matrix_of, items}
use Rattle.common.specs.FloatMatrix.{floats, float_matrix}
use Rattle.common.specs.Limits.{matrix_within, diagonal_fits, point_fits}
use Rattle.common.specs.Tested.{require, filled_or, output_of, Tested, Accepted, ◌then◌}
use Rattle.common.specs.declared.Refusal.{Refusal}
use Rattle.common.specs.declared.Refusal.TheVariants.{OutsideLimits, WrongLength}
use Rattle.grgrid.specs.Grid.{size, index, cell}
use Rattle.grgrid.specs.Own.{own_places, own_points}
use Rattle.bzgrid.specs.declared.GridType.{GridType}
use Rattle.bzgrid.specs.declared.TableRecord.{TableRecord}
use Rattle.bzgrid.specs.declared.GridType.TheVariants.{Sparse, Dense}
use Rattle.bzsearch.specs.Lattice.{bz_tolerance, lattice_fits}
use Rattle.bzsearch.specs.Search.{length_squared}
use Rattle.bzgrid.specs.BzGridAddresses.{grid_type_of}
use Rattle.bztable.specs.Access.{image_places, first_place}
use Rattle.bztable.specs.Agreement.{agrees_grid, layout_where}
use Rattle.bztable.specs.Reading.{Read, got, whole_addresses, address_at, address_of, list_of, read_each}
use Rattle.triplet_grid.specs.Partner.{third}
use Rattle.bz_triplets.specs.Choosing.{Found, start, left, closed, tried, nested}

-- ---- the squared length of a sum, operation by operation as the Rust works it out
-- lattice · Q · diag(1 / d)
unfoldable pub lqd_inv : Mat Float → Mat ℤ → Vec ℕ → Mat Float
lqd_inv lattice q d =
    let m = product_over floats lattice (map_mat (of_int binary64) q) in
    matrix (λ j k. div binary64 (entry m j k) (of_int binary64 (pos (side d k))))

unfoldable pub squared_distance : Mat Float → Vec ℤ → Float
squared_distance m g = length_squared (apply_over floats m (map_vec (of_int binary64) g))

-- ---- one choice, by the places of its three images
abbrev pub sum_of : Vec ℤ → Vec ℤ → Vec ℤ → Vec ℤ
sum_of a b c = vector (λ k. side a k +ℤ side b k +ℤ side c k)

abbrev pub is_zero : Vec ℤ → Bool
is_zero g = all_axes (λ k. same (side g k) (pos 0))

-- with its sum
pub record Choice : Type 0 where
  pub at : Vec ℕ
  pub sum : Vec ℤ

abbrev pub State : Type 0
State = Found Choice Float

-- what a walk goes by: how lengths are measured, and the table of addresses
pub record Walk : Type 0 where
  pub lqd : Mat Float
  pub tolerance : Float
  pub addresses : List ℤ

-- with sum g
abbrev pub tried_sum : Walk → State → Vec ℕ → Vec ℤ → State
tried_sum w s p g =
    tried (λ c. is_zero c.sum) (λ c. squared_distance w.lqd c.sum) lt (λ x. sub binary64 x w.tolerance) s (record { at = p; sum = g })

abbrev pub try_read : Walk → State → Vec ℕ → Read State
try_read w s p =
    address_at w.addresses p.x then λ a. address_at w.addresses p.y then λ b. address_at w.addresses p.z then λ c.
    got (tried_sum w s p (sum_of a b c))

-- once a choice closes, nothing more is read
unfoldable pub try_at : Walk → Read State → Vec ℕ → Read State
unfolding squared_distance
try_at w (Ok start) p = try_read w start p
try_at w (Ok (left x c)) p = try_read w (left x c) p
try_at w (Ok (closed c)) p = got (closed c)
try_at w (Err r) p = Err r

-- ---- the triplet of the class of q1
unfoldable pub chosen : GridType → ℕ → List ℤ → Walk → (q0 q1 q2 : ℕ) → Read State
unfolding try_at
chosen t n map w q0 q1 q2 =
    image_places t map n q0 then λ x. image_places t map n q1 then λ y. image_places t map n q2 then λ z.
    nested (try_at w) (got start) (record { x = x; y = y; z = z })

-- the address of the first image of q1
abbrev pub first_of : (map addresses : List ℤ) → GridType → ℕ → Read (Vec ℤ)
first_of map addresses t q1 = first_place t map q1 then address_at addresses

-- where a0 is an address of q0
unfoldable pub triplet_of : GridType → Vec ℕ → List ℤ → Walk → Vec ℤ → (q0 q1 : ℕ) → Read State
unfolding chosen index
triplet_of t d map w a0 q0 q1 = first_of map w.addresses t q1 then λ a1. chosen t (size d) map w q0 q1 (index d (third a0 a1))

-- the grid point of q0, which type 2 is given by an image at address a0
abbrev pub point_of : Vec ℕ → GridType → ℕ → Vec ℤ → ℕ
point_of d Sparse q0 a0 = q0
point_of d Dense q0 a0 = index d a0

-- ---- as the outputs hold them
abbrev pub places_of : State → List ℤ
places_of start = negsuc 0 ∷ negsuc 0 ∷ negsuc 0 ∷ []
places_of (left x c) = items (map_vec pos c.at)
places_of (closed c) = items (map_vec pos c.at)

-- the cell of the sum, on the grid of d
abbrev pub cells_of : Vec ℕ → State → List ℤ
cells_of d start = negsuc 0 ∷ negsuc 0 ∷ negsuc 0 ∷ []
cells_of d (left x c) = items (cell d c.sum)
cells_of d (closed c) = items (cell d c.sum)

-- 1 closed, 0 a length left over, -1 no choice
abbrev pub mark_of : State → ℤ
mark_of start = negsuc 0
mark_of (left x c) = pos 0
mark_of (closed c) = pos 1

abbrev pub length_of : State → Float
length_of start = of_int binary64 (pos 0)
length_of (left x c) = x
length_of (closed c) = of_int binary64 (pos 0)

-- three numbers of each
abbrev pub by_threes : (State → List ℤ) → List State → List ℤ
by_threes f [] = []
by_threes f (s ∷ l) = f s ++ by_threes f l

abbrev pub triplet_list : List State → List ℤ
triplet_list l = by_threes places_of l

unfoldable pub cell_list : Vec ℕ → List State → List ℤ
unfolding cell
cell_list d l = by_threes (cells_of d) l

abbrev pub marks : List State → List ℤ
marks l = map_list mark_of l

abbrev pub lengths : List State → List Float
lengths l = map_list length_of l

-- ---- the call
abbrev pub is_dense : Result GridType Refusal → Bool
is_dense (Ok Sparse) = false
is_dense (Ok Dense) = true
is_dense (Err r) = false

module _ (k : Result GridType Refusal) (q0 : ℤ) (addresses classes d : List ℤ) (q : List (List ℤ)) (lattice : List (List Float)) (t : ℤ) (n m l c : ℕ) where
  -- the four outputs have n, m, l and c places; k, the layout of the tables, where the tests pass
  unfoldable pub input_tests : Result GridType Refusal
  input_tests =
      let own = own_places classes (length classes) in
      require (whole_addresses addresses && (eqb n (own * 3) && (eqb m own && (eqb l own && eqb c (own * 3))))) WrongLength
      (require (diagonal_fits d && (matrix_within 1000 (matrix_of q) && lattice_fits (float_matrix lattice))) OutsideLimits
      (require (is_dense (grid_type_of t) || point_fits q0 (pos (size (sides_of d)))) OutsideLimits k))

abbrev pub walk_of : (addresses d : List ℤ) → List (List ℤ) → List (List Float) → Walk
walk_of addresses d q lattice = record {
  lqd = lqd_inv (float_matrix lattice) (matrix_of q) (sides_of d);
  tolerance = bz_tolerance (float_matrix lattice) (sides_of d);
  addresses = addresses;
}

module _ (q0 : ℤ) (addresses map classes d : List ℤ) (q : List (List ℤ)) (lattice : List (List Float)) (t : GridType) where
  abbrev pub triplet_at : Vec ℤ → ℕ → Read State
  triplet_at a0 = triplet_of t (sides_of d) map (walk_of addresses d q lattice) a0 (point_of (sides_of d) t (nat_abs q0) a0)

  -- one for each class; the address of q0 is read first
  unfoldable pub triplets_read : Read (List State)
  unfolding triplet_of lqd_inv
  triplets_read = address_of addresses q0 then λ a0. read_each (triplet_at a0) (own_points classes (length classes))

pub record BzTriplets : Type 0 where
  pub answer : Tested
  pub out : List ℤ
  pub left : List ℤ
  pub left_length : List Float
  pub cells : List ℤ

-- of tables of layout k
module _ (k : Result GridType Refusal) (q0 : ℤ) (addresses map classes d : List ℤ) (q : List (List ℤ)) (lattice : List (List Float)) where
  -- what a call reads whose tests pass
  unfoldable pub states_read : List State
  unfolding triplets_read
  states_read = list_of (k then triplets_read q0 addresses map classes d q lattice)

  module _ (t : ℤ) (n m l c : ℕ) where
    unfoldable pub triplet_tests : Tested
    unfolding input_tests triplets_read
    triplet_tests = input_tests k q0 addresses classes d q lattice t n m l c then λ t. triplets_read q0 addresses map classes d q lattice t then λ _. Accepted

    unfoldable pub triplets_in : BzTriplets
    unfolding triplet_tests states_read cell_list
    triplets_in = record {
      answer = triplet_tests;
      out = output_of triplet_tests n (triplet_list states_read);
      left = output_of triplet_tests m (marks states_read);
      left_length = filled_or (of_int binary64 (negsuc 0)) triplet_tests l (lengths states_read);
      cells = output_of triplet_tests c (cell_list (sides_of d) states_read);
    }

-- the record of the tables agrees with the call, or refusal 17
module _ (q0 : ℤ) (addresses map : List ℤ) (r : TableRecord) (classes d : List ℤ) (q : List (List ℤ)) (lattice : List (List Float)) (t : ℤ) (n m l c : ℕ) where
  unfoldable pub bz_triplets_at_q : BzTriplets
  unfolding triplets_in
  bz_triplets_at_q = triplets_in (layout_where (agrees_grid r d t) t) q0 addresses map classes d q lattice t n m l c
