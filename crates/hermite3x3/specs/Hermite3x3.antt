-- The walk to the Hermite form: every step is the Rust's matrix product from the left.
use Rattle.std.specs.Prelude.{Bool, ◌&&◌, [], ℕ, ℤ, pos, neg_ℤ, Option, Some, None, List, Result, Ok, Err, IfOk, cond}
use Rattle.std.specs.Int.Signed.{lt_z}
use Rattle.integer.specs.Checked.{fits64, is_zero}
use Rattle.integer.specs.Division.{div_euclid}
use Rattle.common.specs.declared.Refusal.{Refusal}
use Rattle.common.specs.declared.Refusal.TheVariants.{Singular, OutsideLimits, Overflow}
use Rattle.common.specs.Limits.{matrix_within}
use Rattle.common.specs.Matrix.{Mat, entries, ◌·◌, det}
use Rattle.common.specs.Array.{matrix_of, matrix_at}
use Rattle.common.specs.IntegerMatrix.{product_fits}
use Rattle.snf_steps.specs.Then.{◌then◌, provided, when}
use Rattle.snf_steps.specs.Gcd.{extended_gcd}
use Rattle.snf_steps.specs.Elementary.{elementary_flip_sign_row, elementary_add_rows, quotient_fits}
use Rattle.snf_steps.specs.declared.columns.Combination.{Combination}
use Rattle.snf_steps.specs.Columns.{combination, combination_matrix}
use Rattle.hermite3x3.specs.Points.{FormOf}

-- the row step: nothing in the product leaves 64 bits
unfoldable pub row_step : Mat ℤ → Mat ℤ → Option (Mat ℤ)
row_step l m = provided (product_fits l m) (l · m)

-- y in row j becomes 0 by the pivot x in row i; it is passed over if it is 0 already
abbrev pub combine_by : ℕ → ℕ → Option Combination → Mat ℤ → Option (Mat ℤ)
combine_by i j c m = c then λ c. row_step (combination_matrix i j c) m

unfoldable pub clear : ℕ → ℕ → (x y : ℤ) → Mat ℤ → Option (Mat ℤ)
clear i j x y m = cond (is_zero y) (Some m) (combine_by i j (extended_gcd x y then combination x y) m)

-- of row i, which has x on the diagonal
unfoldable pub sign : ℕ → ℤ → Mat ℤ → Option (Mat ℤ)
sign i x m = when (lt_z x (pos 0)) (row_step (matrix_of (elementary_flip_sign_row i))) m

-- x in row i becomes its remainder by the pivot p in row j: the Euclidean quotient, which for a positive pivot is the floor, times that row is taken off
abbrev pub neg_floor_fits : ℤ → ℤ → Bool
neg_floor_fits x p = quotient_fits x p && fits64 (neg_ℤ (div_euclid x p))

abbrev pub neg_floor : ℤ → ℤ → Option ℤ
neg_floor x p = provided (neg_floor_fits x p) (neg_ℤ (div_euclid x p))

abbrev pub add_by : ℕ → ℕ → Option ℤ → Mat ℤ → Option (Mat ℤ)
add_by i j q m = q then λ q. row_step (matrix_of (elementary_add_rows i j q)) m

unfoldable pub reduce : ℕ → ℕ → (x p : ℤ) → Mat ℤ → Option (Mat ℤ)
reduce i j x p m = cond (is_zero x) (Some m) (add_by i j (neg_floor x p) m)

-- ---- the steps in order
unfoldable pub columns : Mat ℤ → Option (Mat ℤ)
columns m = clear 0 1 m.a m.d m then (λ m. clear 0 2 m.a m.g m) then λ m. clear 1 2 m.e m.h m

unfoldable pub signs : Mat ℤ → Option (Mat ℤ)
signs m = sign 0 m.a m then (λ m. sign 1 m.e m) then λ m. sign 2 m.i m

unfoldable pub above : Mat ℤ → Option (Mat ℤ)
above m = reduce 0 1 m.b m.e m then (λ m. reduce 0 2 m.c m.i m) then λ m. reduce 1 2 m.f m.i m

unfoldable pub steps : Mat ℤ → Option (Mat ℤ)
steps m = columns m then signs then above

-- ---- the call: the nine numbers of the form, by rows
abbrev pub refused : Refusal → Result (List ℤ) Refusal
refused r = Err r

abbrev pub formed : Option (Mat ℤ) → Result (List ℤ) Refusal
formed (Some m) = Ok (entries m [])
formed None = refused Overflow

unfoldable pub hermite3x3 : Mat ℤ → Result (List ℤ) Refusal
hermite3x3 m = cond (matrix_within 1000000 m) (cond (is_zero (det m)) (refused Singular) (formed (steps m))) (refused OutsideLimits)

-- an accepted call returns the form of A
abbrev pub Promised : Mat ℤ → Result (List ℤ) Refusal → Type 0
Promised A r = IfOk r (λ h. FormOf A (matrix_at h 0))
