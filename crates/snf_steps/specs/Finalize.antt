-- `finalize`: signs, order, and what makes the diagonal numbers divide each other where it can.
use Rattle.std.specs.Prelude.{not, ◌&&◌, ℕ, ℤ, pos, Option, Some}
use Rattle.std.specs.Int.Signed.{lt_z}
use Rattle.common.specs.Matrix.{negate, det}
use Rattle.common.specs.Array.{matrix_of}
use Rattle.common.specs.IntegerMatrix.{det_fits, negation_fits}
use Rattle.snf_steps.specs.Then.{◌then◌, provided, when}
use Rattle.snf_steps.specs.Elementary.{elementary_swap_rows, elementary_flip_sign_row, elementary_disturb_rows, is_multiple}
use Rattle.snf_steps.specs.Columns.{multiply}
use Rattle.snf_steps.specs.Stages.{Triple, Outcome, on_rows, on_columns, first, second}

-- row i, with x on the diagonal
abbrev pub make_positive : ℕ → ℤ → Triple → Option Triple
make_positive i x s = when (lt_z x (pos 0)) (on_rows (multiply (matrix_of (elementary_flip_sign_row i)))) s

unfoldable pub make_diag_positive : Triple → Option Triple
make_diag_positive s = make_positive 0 s.a.a s then (λ s. make_positive 1 s.a.e s) then λ s. make_positive 2 s.a.i s

abbrev pub swap_diag_elems : ℕ → ℕ → Triple → Option Triple
swap_diag_elems i j s =
    let l = matrix_of (elementary_swap_rows i j) in
    on_rows (multiply l) s then on_columns (multiply l)

-- rows i and j, with x and y on the diagonal
abbrev pub order : ℕ → ℕ → (x y : ℤ) → Triple → Option Triple
order i j x y s = when (lt_z y x) (swap_diag_elems i j) s

abbrev pub order01 : Triple → Option Triple
order01 s = order 0 1 s.a.a s.a.e s

abbrev pub order12 : Triple → Option Triple
order12 s = order 1 2 s.a.e s.a.i s

unfoldable pub finalize_sort : Triple → Option Triple
finalize_sort s = order01 s then order12 then order01

unfoldable pub finalize_disturb : ℕ → ℕ → (x y : ℤ) → Triple → Option Triple
finalize_disturb i j x y s = is_multiple y x then λ b. when (not b) (on_columns (multiply (matrix_of (elementary_disturb_rows i j)))) s

abbrev pub negate_pq : Triple → Option Triple
negate_pq s = provided (negation_fits s.p && negation_fits s.q) (record { a = s.a; p = negate s.p; q = negate s.q })

unfoldable pub flip_pq : Triple → Option Triple
flip_pq s = provided (det_fits s.p) (lt_z (det s.p) (pos 0)) then λ b. when b negate_pq s

-- whether the stage is through is not asked here
abbrev pub leaving : (Triple → Option Outcome) → Triple → Option Triple
leaving f s = f s then λ o. Some o.left

abbrev pub disturb01 : Triple → Option Triple
disturb01 s = finalize_disturb 0 1 s.a.a s.a.e s

abbrev pub disturb12 : Triple → Option Triple
disturb12 s = finalize_disturb 1 2 s.a.e s.a.i s

unfoldable pub put_in_order : Triple → Option Triple
put_in_order s = finalize_sort s then disturb01 then leaving first then finalize_sort then disturb12 then leaving second

unfoldable pub finalize : Triple → Option Triple
finalize s = make_diag_positive s then put_in_order then flip_pq
