-- `first` and `second`: rows with p, columns with q, then what the pivot divides.
use Rattle.std.specs.Prelude.{Bool, true, false, ◌&&◌, ℤ, Option, Some, cond}
use Rattle.integer.specs.Checked.{is_zero}
use Rattle.common.specs.Matrix.{Mat, transpose}
use Rattle.common.specs.Array.{matrix_of}
use Rattle.snf_steps.specs.Then.{◌then◌}
use Rattle.snf_steps.specs.Elementary.{below_first, below_second, is_multiple, neg_quotient}
use Rattle.snf_steps.specs.Columns.{Pair, multiply, first_column, second_column}

-- q is held transposed
pub record Triple : Type 0 where
  pub a : Mat ℤ
  pub p : Mat ℤ
  pub q : Mat ℤ

abbrev pub rows_of : Triple → Pair
rows_of s = record { a = s.a; p = s.p }

abbrev pub columns_of : Triple → Pair
columns_of s = record { a = transpose s.a; p = s.q }

abbrev pub with_rows : Triple → Pair → Triple
with_rows s u = record { a = u.a; p = u.p; q = s.q }

abbrev pub with_columns : Triple → Pair → Triple
with_columns s u = record { a = transpose u.a; p = s.p; q = u.p }

abbrev pub on_rows : (Pair → Option Pair) → Triple → Option Triple
on_rows f s = f (rows_of s) then λ u. Some (with_rows s u)

abbrev pub on_columns : (Pair → Option Pair) → Triple → Option Triple
on_columns f s = f (columns_of s) then λ u. Some (with_columns s u)

-- a column step on the rows, then on the columns
unfoldable pub one_loop : (Pair → Option Pair) → Triple → Option Triple
one_loop f s = on_rows f s then on_columns f

-- what a stage leaves, and whether it is through
pub record Outcome : Type 0 where
  pub done : Bool
  pub left : Triple

abbrev pub through : Triple → Option Outcome
through s = Some (record { done = true; left = s })

abbrev pub again : Triple → Option Outcome
again s = Some (record { done = false; left = s })

-- ---- first
abbrev pub first_finalize : (d y z : ℤ) → Triple → Option Outcome
first_finalize d y z s = neg_quotient y d then λ u. neg_quotient z d then λ v. on_rows (multiply (matrix_of (below_first u v))) s then through

abbrev pub first_tests : (d y z : ℤ) → Triple → Option Outcome
first_tests d y z s =
    cond (is_zero y && is_zero z) (through s)
    (is_multiple y d then λ b. cond b (is_multiple z d then λ c. cond c (first_finalize d y z s) (again s)) (again s))

abbrev pub first_end : Triple → Option Outcome
first_end s = first_tests s.a.a s.a.d s.a.g s

unfoldable pub first : Triple → Option Outcome
first s = one_loop first_column s then first_end

-- ---- second
abbrev pub second_finalize : (d z : ℤ) → Triple → Option Outcome
second_finalize d z s = neg_quotient z d then λ v. on_rows (multiply (matrix_of (below_second v))) s then through

abbrev pub second_tests : (d z : ℤ) → Triple → Option Outcome
second_tests d z s = cond (is_zero z) (through s) (is_multiple z d then λ b. cond b (second_finalize d z s) (again s))

abbrev pub second_end : Triple → Option Outcome
second_end s = second_tests s.a.e s.a.h s

unfoldable pub second : Triple → Option Outcome
second s = one_loop second_column s then second_end
