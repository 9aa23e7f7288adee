-- What the exports of hermite3x3 answer and leave in their outputs.
use Rattle.std.specs.Prelude.{Bool, ◌&&◌, List, [], ◌∷◌, ℕ, eqb, ℤ, pos, length, true, false, Result, cond}
use Rattle.std.specs.declared.cmp.Ordering.{Ordering}
use Rattle.std.specs.declared.cmp.Ordering.TheVariants.{Less, Equal, Greater}
use Rattle.common.specs.declared.Refusal.{Refusal}
use Rattle.common.specs.Tested.{answer_of, told_of}
use Rattle.common.specs.Array.{matrix_at}
use Rattle.answers.specs.Lengths.{wrong_length, unwritten}
use Rattle.hermite3x3.specs.Hermite3x3.{hermite3x3}
use Rattle.hermite3x3.specs.OrderForms.{order_forms}
use Rattle.hermite3x3.specs.SameGrid.{same_grid}

-- ---- the form of a matrix
-- of the matrix and its form
abbrev pub form_lengths : ℕ → ℕ → Bool
form_lengths a h = eqb a 9 && eqb h 9

pub record ZoneHermite3x3 : Type 0 where
  pub answer : ℤ
  pub h : List ℤ

-- the output has n places
abbrev pub zone_hermite3x3 : List ℤ → ℕ → ZoneHermite3x3
zone_hermite3x3 a n =
    let o = hermite3x3 (matrix_at a 0) in
    cond (form_lengths (length a) n) (record { answer = answer_of o; h = told_of (λ h. h) 9 o }) (record { answer = wrong_length; h = unwritten n })

-- ---- two forms
-- of two matrices or forms and `told`
abbrev pub two_lengths : ℕ → ℕ → ℕ → Bool
two_lengths a b told = eqb a 9 && (eqb b 9 && eqb told 1)

-- in the one place of `told`
abbrev pub order_told : Ordering → List ℤ
order_told Less = pos 0 ∷ []
order_told Equal = pos 1 ∷ []
order_told Greater = pos 2 ∷ []

pub record ZoneOrderForms : Type 0 where
  pub answer : ℤ
  pub told : List ℤ

-- the output has n places
abbrev pub zone_order_forms : (g h : List ℤ) → ℕ → ZoneOrderForms
zone_order_forms g h n =
    cond (two_lengths (length g) (length h) n)
    (record { answer = pos 0; told = order_told (order_forms g h) }) (record { answer = wrong_length; told = unwritten n })

-- ---- two matrices
-- in the one place of `told`
abbrev pub same_place : Bool → List ℤ
same_place true = pos 1 ∷ []
same_place false = pos 0 ∷ []

abbrev pub same_told : Result Bool Refusal → List ℤ
same_told = told_of same_place 1

pub record ZoneSameGrid : Type 0 where
  pub answer : ℤ
  pub told : List ℤ

-- the output has n places
abbrev pub zone_same_grid : (a b : List ℤ) → ℕ → ZoneSameGrid
zone_same_grid a b n =
    let o = same_grid (matrix_at a 0) (matrix_at b 0) in
    cond (two_lengths (length a) (length b) n) (record { answer = answer_of o; told = same_told o }) (record { answer = wrong_length; told = unwritten n })
