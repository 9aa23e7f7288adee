-- The listing of document 01, worked out by the definitions: d (1,1,3), Q of diag(3,1,1), identity lattice, q0 = 1, class map 0 1 0.
use mathlib.Core.Path.{◌≡◌, refl}
use mathlib.Core.List.{List, [], ◌∷◌, ◌++◌}
use lib.IntN.{ℤ, pos, negsuc}
use lib.ListN.{replicate}
use lib.Ieee.{Float, binary64, round, add, sub, mul, div, lt, le, of_int, of_bits, size}
use Rattle.common.specs.Tested.{Accepted}
use Rattle.float.specs.Rounding.{abs_of}
use Rattle.common.specs.Matrix.{identity, map_mat}
use Rattle.common.specs.Array.{rows}
use Rattle.grgrid.specs.Grid.{index, cell}
use Rattle.bzsearch.specs.Lattice.{bz_tolerance}
use Rattle.bzgrid.specs.declared.TableRecord.{TableRecord}
use Rattle.bz_triplets.specs.BzTriplets.{squared_distance, lqd_inv, try_at, chosen, triplet_of, input_tests, triplets_read, states_read, cell_list, triplets_in, bz_triplets_at_q}

-- one image of each point
abbrev addresses : List ℤ
addresses = pos 0 ∷ pos 0 ∷ pos 0 ∷ pos 0 ∷ pos 0 ∷ pos 1 ∷ pos 0 ∷ pos 0 ∷ negsuc 0 ∷ []

abbrev classes : List ℤ
classes = pos 0 ∷ pos 1 ∷ pos 0 ∷ []

abbrev d113 : List ℤ
d113 = pos 1 ∷ pos 1 ∷ pos 3 ∷ []

abbrev q : List (List ℤ)
q = (pos 0 ∷ pos 0 ∷ pos 1 ∷ []) ∷ (pos 1 ∷ pos 0 ∷ pos 0 ∷ []) ∷ (pos 0 ∷ pos 1 ∷ pos 0 ∷ []) ∷ []

abbrev lattice : List (List Float)
lattice = rows (map_mat (of_int binary64) identity)

-- with the shift (0,0,1), which is not compared
abbrev record_of : ℤ → TableRecord
record_of t = record { d = d113; ps = pos 0 ∷ pos 0 ∷ pos 1 ∷ []; bz_grid_type = t }

-- a map of images of type t, and the outputs
pub record Row : Type 0 where
  pub t : ℤ
  pub map : List ℤ
  pub triplets : List ℤ
  pub marks : List ℤ
  pub lengths : List Float
  pub cells : List ℤ

pub record Right (r : Row) : Type 0 where
  pub answer : (bz_triplets_at_q (pos 1) addresses r.map (record_of r.t) classes d113 q lattice r.t 6 2 2 6).answer ≡ Accepted
  pub triplets : (bz_triplets_at_q (pos 1) addresses r.map (record_of r.t) classes d113 q lattice r.t 6 2 2 6).out ≡ r.triplets
  pub marks : (bz_triplets_at_q (pos 1) addresses r.map (record_of r.t) classes d113 q lattice r.t 6 2 2 6).left ≡ r.marks
  pub lengths : (bz_triplets_at_q (pos 1) addresses r.map (record_of r.t) classes d113 q lattice r.t 6 2 2 6).left_length ≡ r.lengths
  pub cells : (bz_triplets_at_q (pos 1) addresses r.map (record_of r.t) classes d113 q lattice r.t 6 2 2 6).cells ≡ r.cells

abbrev AllRight : List Row → Type 0
AllRight [] = Unit {0}
AllRight (r ∷ rows) = Right r × AllRight rows

-- 1 0 2 closes; 1 1 1 has the sum (0,0,3), of length 1, which lies in cell (0,0,1)
abbrev listed : ℤ → List ℤ → Row
listed t map = record {
  t = t;
  map = map;
  triplets = pos 1 ∷ pos 0 ∷ pos 2 ∷ pos 1 ∷ pos 1 ∷ pos 1 ∷ [];
  marks = pos 1 ∷ pos 0 ∷ [];
  lengths = of_int binary64 (pos 0) ∷ of_int binary64 (pos 1) ∷ [];
  cells = pos 0 ∷ pos 0 ∷ pos 0 ∷ pos 0 ∷ pos 0 ∷ pos 1 ∷ [];
}

-- point 2 has no image
abbrev empty : Row
empty = record {
  t = pos 2;
  map = pos 0 ∷ pos 1 ∷ pos 2 ∷ pos 2 ∷ [];
  triplets = negsuc 0 ∷ negsuc 0 ∷ negsuc 0 ∷ pos 1 ∷ pos 1 ∷ pos 1 ∷ [];
  marks = negsuc 0 ∷ pos 0 ∷ [];
  lengths = of_int binary64 (pos 0) ∷ of_int binary64 (pos 1) ∷ [];
  cells = negsuc 0 ∷ negsuc 0 ∷ negsuc 0 ∷ pos 0 ∷ pos 0 ∷ pos 1 ∷ [];
}

-- of type 1 only the counts after the doubled mesh are read
abbrev table : List Row
table = listed (pos 2) (pos 0 ∷ pos 1 ∷ pos 2 ∷ pos 3 ∷ []) ∷ listed (pos 1) (replicate 24 (pos 24) ++ replicate 4 (pos 0)) ∷ empty ∷ []

points : AllRight table
unfolding bz_triplets_at_q triplets_in cell_list cell states_read input_tests triplets_read triplet_of chosen try_at squared_distance lqd_inv bz_tolerance index abs_of size round add sub mul div lt le of_int of_bits
points =
    (record { answer = refl; triplets = refl; marks = refl; lengths = refl; cells = refl }, (record { answer = refl; triplets = refl; marks = refl; lengths = refl; cells = refl }, (record { answer = refl; triplets = refl; marks = refl; lengths = refl; cells = refl }, tt)))
