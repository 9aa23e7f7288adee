-- `mark_candidates`: the tests, the answer and the output, which has n places; and what the marks say.
use Rattle.std.specs.Prelude.{◌≡◌, Bool, ◌&&◌, ℕ, eqb, ℤ, pos, nat_abs, cond}
use mathlib.Core.List.{List, map, Memᴰ}
use Rattle.common.specs.Matrix.{Vec}
use Rattle.common.specs.Array.{vector_of, sides_of, matrix_of}
use Rattle.common.specs.Limits.{all_within, matrix_within, diagonal_fits, shift_fits, point_fits}
use Rattle.common.specs.Every.{every, some}
use Rattle.common.specs.Tested.{require, output_of, Tested, Accepted}
use Rattle.common.specs.declared.Refusal.TheVariants.{OutsideLimits, NotUnimodularQ, WrongLength, InvertedRange}
use Rattle.grgrid.specs.Grid.{size}
use Rattle.bzsearch.specs.Search.{unimodular}
use Rattle.mark_candidates.specs.InnerProducts.{Ranges, products, ordered, NeverLonger, Shorter, never_longer, shorter, most}
use Rattle.mark_candidates.specs.ScaledCoordinates.{rests, position, candidates125}

-- ---- the words of document 02, of a candidate m, where `at` places the candidates
module _ (r : Ranges) (at : Vec ℤ → Vec ℤ) (ms : List (Vec ℤ)) (m : Vec ℤ) where
  pub record NearestForCertain : Type 0 where
    pub against : (o : Vec ℤ) → Memᴰ o ms → ¬ (o ≡ m) → NeverLonger r (at m) (at o)

  pub record BeatenForCertain : Type 0 where
    pub by : Vec ℤ
    pub among : Memᴰ by ms
    pub other : ¬ (by ≡ m)
    pub always : Shorter r (at by) (at m)

-- ---- the same as tests
module _ (r : Ranges) (at : Vec ℤ → Vec ℤ) (ms : List (Vec ℤ)) (m : Vec ℤ) where
  unfoldable pub nearest : Bool
  unfolding most
  nearest = every (λ o. never_longer r (at m) (at o)) ms

  unfoldable pub beaten : Bool
  unfolding most
  beaten = some (λ o. shorter r (at o) (at m)) ms

  -- 1 nearest for certain, 2 beaten for certain, 0 open
  unfoldable pub mark : ℤ
  unfolding nearest beaten
  mark = cond beaten (pos 2) (cond nearest (pos 1) (pos 0))

-- ---- the call
abbrev pub ranges_of : List ℤ → List ℤ → Ranges
ranges_of lowest highest = record { lowest = products lowest; highest = products highest }

-- where each candidate of a point stands
abbrev pub placed : List ℤ → List (List ℤ) → List ℤ → ℤ → Vec ℤ → Vec ℤ
placed d q ps point = position (size (sides_of d)) (rests (sides_of d) (vector_of ps) (matrix_of q) (nat_abs point))

abbrev pub grid_fits : List ℤ → List (List ℤ) → List ℤ → Bool
grid_fits d q ps = diagonal_fits d && (matrix_within 1000 (matrix_of q) && shift_fits ps)

module _ (d : List ℤ) (q : List (List ℤ)) (ps lowest highest : List ℤ) (point : ℤ) where
  abbrev pub within_limits : Bool
  within_limits = grid_fits d q ps && (all_within 1000000 lowest && (all_within 1000000 highest && point_fits point (pos (size (sides_of d)))))

  unfoldable pub mark_tests : ℕ → Tested
  mark_tests n =
      require (eqb n 125) WrongLength
      (require within_limits OutsideLimits
      (require (ordered (ranges_of lowest highest)) InvertedRange
      (require (unimodular (matrix_of q)) NotUnimodularQ Accepted)))

  unfoldable pub marks : List ℤ
  unfolding rests candidates125 mark
  marks = map (mark (ranges_of lowest highest) (placed d q ps point) candidates125) candidates125

pub record Marked : Type 0 where
  pub answer : Tested
  pub marks : List ℤ

abbrev pub marked : Tested → List ℤ → Marked
marked t l = record { answer = t; marks = l }

unfoldable pub mark_candidates : List ℤ → List (List ℤ) → List ℤ → List ℤ → List ℤ → ℤ → ℕ → Marked
unfolding mark_tests marks
mark_candidates d q ps lowest highest point n =
    let t = mark_tests d q ps lowest highest point n in
    marked t (output_of t n (marks d q ps lowest highest point))
