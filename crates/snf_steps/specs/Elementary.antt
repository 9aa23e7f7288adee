-- The elementary matrices, written entry by entry as in the Rust.
use Rattle.std.specs.Prelude.{Bool, not, ◌&&◌, List, [], ℕ, ℤ, pos, negsuc, neg_ℤ, get_or, set, Option}
use Rattle.std.specs.Int.Signed.{quot_z, rem_z}
use Rattle.integer.specs.Checked.{fits64, is_zero}
use Rattle.common.specs.Matrix.{identity}
use Rattle.common.specs.Array.{rows}
use Rattle.snf_steps.specs.Then.{provided}

-- x at row i, column j
abbrev pub put : ℕ → ℕ → ℤ → List (List ℤ) → List (List ℤ)
put i j x m = set m i (set (get_or m i []) j x)

abbrev pub unit : List (List ℤ)
unit = rows identity

abbrev pub elementary_swap_rows : ℕ → ℕ → List (List ℤ)
elementary_swap_rows i j = put j i (pos 1) (put i j (pos 1) (put j j (pos 0) (put i i (pos 0) unit)))

-- rows i and j become s·i + t·j and v·i + u·j
abbrev pub combining : ℕ → ℕ → (s t v u : ℤ) → List (List ℤ)
combining i j s t v u = put j j u (put j i v (put i j t (put i i s unit)))

abbrev pub elementary_flip_sign_row : ℕ → List (List ℤ)
elementary_flip_sign_row i = put i i (negsuc 0) unit

abbrev pub elementary_disturb_rows : ℕ → ℕ → List (List ℤ)
elementary_disturb_rows i j = put i j (pos 1) unit

-- x times row j, added to row i
abbrev pub elementary_add_rows : ℕ → ℕ → ℤ → List (List ℤ)
elementary_add_rows i j x = put i j x unit

-- what `first_finalize` and `second_finalize` add of the pivot's row to the rows below
abbrev pub below_first : ℤ → ℤ → List (List ℤ)
below_first u v = put 2 0 v (put 1 0 u unit)

abbrev pub below_second : ℤ → List (List ℤ)
below_second v = put 2 1 v unit

-- ---- the numbers worked out for them fit
-- a quotient, or a remainder: in Rust both are refused where the quotient does not fit
abbrev pub quotient_fits : ℤ → ℤ → Bool
quotient_fits a d = not (is_zero d) && fits64 (quot_z a d)

abbrev pub quotient : ℤ → ℤ → Option ℤ
quotient a d = provided (quotient_fits a d) (quot_z a d)

-- -z / d
abbrev pub neg_quotient_fits : ℤ → ℤ → Bool
neg_quotient_fits z d = fits64 (neg_ℤ z) && quotient_fits (neg_ℤ z) d

abbrev pub neg_quotient : ℤ → ℤ → Option ℤ
neg_quotient z d = provided (neg_quotient_fits z d) (quot_z (neg_ℤ z) d)

-- is z a multiple of d
abbrev pub is_multiple : ℤ → ℤ → Option Bool
is_multiple z d = provided (quotient_fits z d) (is_zero (rem_z z d))

abbrev pub set_zero_fits : (a b r : ℤ) → Bool
set_zero_fits a b r = neg_quotient_fits b r && quotient_fits a r
