-- `ir_triplets_at_q`: its tests, in document 01's order, and its answer with the two outputs, which have n and m places, as one outcome.
use Rattle.std.specs.Prelude.{Bool, true, false, ◌&&◌, List, map, ℕ, eqb, ltb, ℤ, pos, nat_abs, get_or, Result, cond}
use Rattle.common.specs.declared.Refusal.{Refusal}
use Rattle.common.specs.Matrix.{Vec, Mat, origin}
use Rattle.common.specs.Array.{sides_of, matrices}
use Rattle.common.specs.Limits.{whole_matrices, rotations_fit, diagonal_fits, point_fits}
use Rattle.common.specs.Tested.{require, giving, output_of, after, Tested, Accepted}
use Rattle.common.specs.declared.Refusal.TheVariants.{OutsideLimits, WrongLength}
use Rattle.grgrid.specs.Grid.{size}
use Rattle.grgrid.specs.Build.{build}
use Rattle.grgrid.specs.ClassMap.{class_map_of}
use Rattle.grgrid.specs.Own.{own_places}
use Rattle.recip_rotations.specs.PointGroup.{point_group, room_tests}
use Rattle.triplet_grid.specs.Partner.{stabilizer, partner}

-- the class map of the operations that keep q0
unfoldable pub map_q_of : Vec ℕ → ℕ → List (Mat ℤ) → List ℕ
unfolding class_map_of stabilizer
map_q_of d q0 l = class_map_of d origin (stabilizer d q0 l)

-- ---- with swapping, a point of number r gets the lower of r and the number of r's partner; proofs/Joining says when that makes one class of two
abbrev pub lower_of : ℕ → ℕ → ℕ
lower_of a b = cond (ltb a b) a b

abbrev pub swapped_number : Vec ℕ → ℕ → List ℕ → ℕ → ℕ
swapped_number d q0 classes q1 = let r = get_or classes q1 0 in lower_of (get_or classes (partner d q0 r) 0) r

abbrev pub numbers_of : Bool → Vec ℕ → ℕ → List ℕ → ℕ → ℕ
numbers_of true d q0 classes q1 = swapped_number d q0 classes q1
numbers_of false d q0 classes q1 = get_or classes q1 0

unfoldable pub map_triplets_of : Bool → Vec ℕ → ℕ → List ℕ → List ℕ
unfolding partner
map_triplets_of swappable d q0 classes = build (λ q1 done. numbers_of swappable d q0 classes q1) (size d)

-- ---- the call
unfoldable pub input_tests : ℤ → List ℤ → List ℤ → ℕ → ℕ → Tested
input_tests q0 d rotations n m =
    require (whole_matrices rotations) WrongLength
    (require (diagonal_fits d) OutsideLimits
    (require (eqb n (size (sides_of d)) && eqb m (size (sides_of d))) WrongLength
    (require (point_fits q0 (pos (size (sides_of d)))) OutsideLimits
    (require (rotations_fit 100000 rotations) OutsideLimits Accepted))))

unfoldable pub triplet_tests : ℤ → List ℤ → List ℤ → Bool → ℕ → ℕ → Tested
unfolding input_tests room_tests
triplet_tests q0 d rotations time_reversal n m = after (input_tests q0 d rotations n m) (room_tests (matrices rotations) time_reversal false)

-- the class map at q0: of the list without repeats, with its negatives where time reversal joins them
unfoldable pub classes_at : ℕ → Vec ℕ → List (Mat ℤ) → Bool → List ℕ
unfolding map_q_of point_group
classes_at q0 d l time_reversal = map_q_of d q0 (point_group l time_reversal false)

pub record IrTriplets : Type 0 where
  pub answer : Result ℤ Refusal
  pub map_triplets : List ℤ
  pub map_q : List ℤ

module _ (q0 : ℤ) (d rotations : List ℤ) (time_reversal swappable : Bool) (n m : ℕ) where
  abbrev tests : Tested
  tests = triplet_tests q0 d rotations time_reversal n m

  abbrev here : List ℕ
  here = classes_at (nat_abs q0) (sides_of d) (matrices rotations) time_reversal

  abbrev triplets : List ℕ
  triplets = map_triplets_of swappable (sides_of d) (nat_abs q0) here

  unfoldable pub ir_triplets_at_q : IrTriplets
  unfolding triplet_tests classes_at map_triplets_of
  ir_triplets_at_q = record {
    answer = giving tests (pos (own_places (map pos triplets) (size (sides_of d))));
    map_triplets = output_of tests n (map pos triplets);
    map_q = output_of tests m (map pos here);
  }
