-- The steps that clear a column, on a and the matrix that goes with it: P, or the transpose of Q.
use Rattle.std.specs.Prelude.{Bool, not, ◌&&◌, [], ◌∷◌, ℕ, eqb, ℤ, pos, neg_ℤ, get_or, Option, Some, None, cond}
use Rattle.std.specs.Int.Signed.{quot_z}
use Rattle.integer.specs.Checked.{is_zero}
use Rattle.common.specs.Matrix.{Axis, all_axes, Mat, ◌·◌}
use Rattle.common.specs.Array.{matrix_of}
use Rattle.common.specs.Limits.{within, matrix_within}
use Rattle.common.specs.IntegerMatrix.{product_fits}
use Rattle.snf_steps.specs.Then.{◌then◌, provided}
use Rattle.snf_steps.specs.declared.gcd.Euclid.{Euclid}
use Rattle.snf_steps.specs.declared.columns.Combination.{Combination}
use Rattle.snf_steps.specs.Gcd.{extended_gcd}
use Rattle.snf_steps.specs.Elementary.{elementary_swap_rows, combining, set_zero_fits}

pub record Pair : Type 0 where
  pub a : Mat ℤ
  pub p : Mat ℤ

-- both, multiplied from the left
unfoldable pub multiply : Mat ℤ → Pair → Option Pair
multiply l s = provided (product_fits l s.a && product_fits l s.p) (record { a = l · s.a; p = l · s.p })

-- the four numbers by which b in row j becomes 0 by a in row i, and the step by them
abbrev pub combination : ℤ → ℤ → Euclid → Option Combination
combination a b g = provided (set_zero_fits a b g.r) (record { s = g.s; t = g.t; v = quot_z (neg_ℤ b) g.r; u = quot_z a g.r })

abbrev pub combination_matrix : ℕ → ℕ → Combination → Mat ℤ
combination_matrix i j c = matrix_of (combining i j c.s c.t c.v c.u)

abbrev pub combine_by : ℕ → ℕ → Option Combination → Pair → Option Pair
combine_by i j c s = c then λ c. multiply (combination_matrix i j c) s

-- numbers of which three products of two and their sums fit
abbrev pub small : ℤ → Bool
small z = within 0x3fffffff z

abbrev pub small_row : (Axis → ℤ) → Bool
small_row u = all_axes (λ k. small (u k))

abbrev pub small_matrix : Mat ℤ → Bool
small_matrix m = matrix_within 0x3fffffff m

abbrev pub small_combination : Combination → Bool
small_combination c = (small c.s && small c.t) && (small c.v && small c.u)

unfoldable pub make_zero : ℕ → ℕ → ℤ → ℤ → Pair → Option Pair
make_zero i j a b s = cond (is_zero b) (Some s) (combine_by i j (extended_gcd a b then combination a b) s)

-- ---- the first column
-- the first row whose entry is not 0
abbrev pub search_first_pivot : Mat ℤ → Option ℕ
search_first_pivot m = cond (is_zero m.a) (cond (is_zero m.d) (cond (is_zero m.g) None (Some 2)) (Some 1)) (Some 0)

abbrev pub to_top : ℕ → Pair → Option Pair
to_top i s = cond (eqb i 0) (Some s) (multiply (matrix_of (elementary_swap_rows 0 i)) s)

abbrev pub zero_first_column : ℕ → Pair → Option Pair
zero_first_column j s = make_zero 0 j s.a.a (get_or (s.a.a ∷ s.a.d ∷ s.a.g ∷ []) j (pos 0)) s

abbrev pub clear_from : Option ℕ → Pair → Option Pair
clear_from None s = Some s
clear_from (Some i) s = to_top i s then zero_first_column 1 then zero_first_column 2

unfoldable pub first_column : Pair → Option Pair
first_column s = clear_from (search_first_pivot s.a) s

-- ---- the second column
abbrev pub second_to_top : Pair → Option Pair
second_to_top s = cond (is_zero s.a.e && not (is_zero s.a.h)) (multiply (matrix_of (elementary_swap_rows 1 2)) s) (Some s)

abbrev pub zero_second_column : Pair → Option Pair
zero_second_column s = make_zero 1 2 s.a.e s.a.h s

unfoldable pub second_column : Pair → Option Pair
second_column s = second_to_top s then zero_second_column
