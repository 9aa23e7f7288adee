-- What the records of the triplet call stand for, and the sizes that it relies on.
use Rattle.std.specs.Prelude.{◌≡◌, Bool, true, false, List, ℕ, ◌*◌, ℤ, pos, negsuc, length, Float}
use Rattle.std.specs.Float.{binary64}
use Rattle.std.specs.Float.Ieee.{sub, div, lt}
use Rattle.common.specs.Matrix.{Vec, side, vector}
use Rattle.common.specs.Array.{items, vector_of}
use Rattle.common.specs.FloatMatrix.{float_vector}
use Rattle.grgrid.specs.Own.{own_places}
use Rattle.bzsearch.specs.SearchView.{float_nine}
use Rattle.common.specs.Tested.{◌then◌}
use Rattle.bztable.specs.Reading.{Read, got}
use Rattle.bz_triplets.specs.declared.choices.Step.{Step}
use Rattle.bz_triplets.specs.declared.choices.Step.TheVariants as step
use Rattle.bz_triplets.specs.declared.choices.Choice as choices
use Rattle.bz_triplets.specs.declared.choices.Triplet.{Triplet}
use Rattle.bz_triplets.specs.declared.choices.Measure.{Measure}
use Rattle.bz_triplets.specs.Choosing.{start, left, closed}
use Rattle.bz_triplets.specs.BzTriplets.{Choice, State, Walk}

-- a row of lattice · Q over the diagonal numbers
abbrev pub row_over : List Float → List Float → List Float
row_over a d = items (vector (λ k. div binary64 (side (float_vector a) k) (side (float_vector d) k)))

abbrev pub found_by : Step → Choice → State
found_by step.Empty c = start
found_by (step.Left x) c = left x c
found_by step.Closed c = closed c

abbrev pub choice_view : choices.Choice → Vec ℕ
choice_view c = record { x = c.x.at; y = c.y.at; z = c.z.at }

abbrev pub summed : Triplet → Choice
summed t = record { at = choice_view t.choice; sum = vector_of t.sum.v }

abbrev pub state_of : Triplet → State
state_of t = found_by t.step (summed t)

abbrev pub state_read : Read Triplet → Read State
state_read r = r then λ t. got (state_of t)

abbrev pub walk_by : Measure → List ℤ → Walk
walk_by m addresses = record { lqd = float_nine m.lqd; tolerance = m.tolerance; addresses = addresses }

-- a sum of squared length d2 takes the place of what was found
abbrev pub shorter : Step → (d2 tolerance : Float) → Bool
shorter step.Empty d2 tolerance = true
shorter (step.Left x) d2 tolerance = lt d2 (sub binary64 x tolerance)
shorter step.Closed d2 tolerance = false

abbrev pub is_closed : Step → Bool
is_closed step.Empty = false
is_closed (step.Left x) = false
is_closed step.Closed = true

-- an image of a triplet, as the outputs hold it
abbrev pub step_place : Step → ℕ → ℤ
step_place step.Empty p = negsuc 0
step_place (step.Left x) p = pos p
step_place step.Closed p = pos p

-- the outputs have room for the triplets of a class map
pub record RoomFor (classes : List ℤ) (n m l c : ℕ) : Type 0 where
  pub triplets : n ≡ own_places classes (length classes) * 3
  pub left : m ≡ own_places classes (length classes)
  pub lengths : l ≡ own_places classes (length classes)
  pub cells : c ≡ own_places classes (length classes) * 3
