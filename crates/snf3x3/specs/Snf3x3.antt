-- Diagonalising a 3 by 3 matrix: the walk of the Rust's snf3x3 on whole numbers, with its rounds.
use Rattle.std.specs.Prelude.{ℕ, zero, suc, ℤ, Option, Some, None, cond}
use Rattle.integer.specs.Checked.{is_zero}
use Rattle.common.specs.declared.Refusal.{Refusal}
use Rattle.common.specs.declared.Refusal.TheVariants.{Singular, NotConverged, OutsideLimits, Overflow}
use Rattle.common.specs.Limits.{matrix_within}
use Rattle.common.specs.IntegerMatrix.{det_fits}
use Rattle.common.specs.Matrix.{Vec, Mat, transpose, det, identity}
use Rattle.snf_steps.specs.Then.{◌then◌}
use Rattle.snf_steps.specs.Stages.{Triple, Outcome, first, second}
use Rattle.snf_steps.specs.Finalize.{finalize}

pub data Answer : Type 0 where
  refused : Refusal → Answer
  diagonalised : (d : Vec ℤ) (p q : Mat ℤ) (rounds : ℕ) → Answer

-- after n rounds
abbrev pub answer : ℕ → Option Triple → Answer
answer n None = refused Overflow
answer n (Some s) = diagonalised (record { x = s.a.a; y = s.a.e; z = s.a.i }) s.p (transpose s.q) n

unfoldable pub round : Triple → Option Outcome
round s = first s then λ o. cond o.done (second o.left) (Some o)

-- after n rounds: the answer, or what the other rounds give
abbrev pub after : ℕ → (Triple → Answer) → Option Outcome → Answer
after n more None = refused Overflow
after n more (Some o) = cond o.done (answer n (finalize o.left)) (more o.left)

-- m rounds are left, n were made
unfoldable pub rounds : (m n : ℕ) → Triple → Answer
rounds zero n s = refused NotConverged
rounds (suc m) n s = after (suc n) (rounds m (suc n)) (round s)

-- where the walk starts
abbrev pub begun : Mat ℤ → Triple
begun m = record { a = m; p = identity; q = identity }

-- the walk, on a matrix whose determinant fits
abbrev pub diagonalise : Mat ℤ → Answer
diagonalise m = cond (is_zero (det m)) (refused Singular) (rounds 100 0 (begun m))

unfoldable pub snf3x3 : Mat ℤ → Answer
snf3x3 m = cond (matrix_within 1000000 m) (diagonalise m) (refused OutsideLimits)

-- the same without the limit of the entries
unfoldable pub snf3x3_unlimited : Mat ℤ → Answer
snf3x3_unlimited m = cond (det_fits m) (diagonalise m) (refused Overflow)
