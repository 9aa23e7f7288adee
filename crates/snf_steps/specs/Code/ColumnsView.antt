-- What the code's pairs stand for.
use Rattle.std.specs.Prelude.{[], ℕ, ℤ, pos, get_or, Option, option_map}
use Rattle.common.specs.Array.{matrix_of}
use Rattle.snf_steps.specs.declared.columns.Pair as code
use Rattle.snf_steps.specs.Columns.{Pair}

abbrev pub matrices_of : code.Pair → Pair
matrices_of s = record { a = matrix_of s.a; p = matrix_of s.p }

abbrev pub pair_of : Option code.Pair → Option Pair
pair_of s = option_map matrices_of s

-- at row i, column j
abbrev pub entry_of : code.Pair → ℕ → ℕ → ℤ
entry_of s i j = get_or (get_or s.a i []) j (pos 0)
