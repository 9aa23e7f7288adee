-- Two matrices make the same grid if they have the same points: their Hermite forms are equal.
use Rattle.std.specs.Prelude.{◌≡◌, ◌↔◌, List, Bool, true, false, ◌<◌, ℤ, nat_abs, Result, Ok, Err}
use Rattle.std.specs.Ordering.{is_eq}
use Rattle.common.specs.declared.Refusal.{Refusal}
use Rattle.common.specs.Matrix.{Mat, det}
use Rattle.hermite3x3.specs.Points.{SamePoints, LeftMultiple}
use Rattle.hermite3x3.specs.Hermite3x3.{hermite3x3}
use Rattle.hermite3x3.specs.OrderForms.{order_forms}

-- the first refusal met is the answer
abbrev pub compared : Result (List ℤ) Refusal → Result (List ℤ) Refusal → Result Bool Refusal
compared (Err r) k = Err r
compared (Ok g) (Err r) = Err r
compared (Ok g) (Ok h) = Ok (is_eq (order_forms g h))

abbrev pub same_grid : Mat ℤ → Mat ℤ → Result Bool Refusal
same_grid A B = compared (hermite3x3 A) (hermite3x3 B)

-- what the answer says of the points
abbrev pub Says : Mat ℤ → Mat ℤ → Result Bool Refusal → Type 0
Says A B (Ok true) = SamePoints A B
Says A B (Ok false) = SamePoints A B → ⊥
Says A B (Err r) = Unit {0}

-- ---- the rule of document 02
pub record GridRule : Type 0 where
  -- the points are the same exactly if a matrix with a determinant of 1 or -1, on the left of one, makes the other
  pub left-multiple : (A B : Mat ℤ) → 0 < nat_abs (det A) → 0 < nat_abs (det B) → SamePoints A B ↔ LeftMultiple A B
  -- and for accepted matrices exactly if their forms are equal
  pub equal-forms : (A B : Mat ℤ) (g h : List ℤ) → hermite3x3 A ≡ Ok g → hermite3x3 B ≡ Ok h → g ≡ h ↔ SamePoints A B
