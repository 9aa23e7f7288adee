-- What the call returns for each answer: matrices by rows, or the refusal.
use Rattle.std.specs.Prelude.{[], List, ℤ, Option, Result, Ok, Err, IfOk, IfErr}
use Rattle.common.specs.declared.Refusal.{Refusal}
use Rattle.common.specs.Matrix.{Mat, entries, ◌·◌}
use Rattle.common.specs.IntegerMatrix.{product_fits}
use Rattle.common.specs.Array.{items, vector_of, matrix_at}
use Rattle.snf_steps.specs.Then.{provided}
use Rattle.snf3x3.specs.FewRounds.{Given}
use Rattle.smith3x3.specs.declared.Smith.{Smith}
use Rattle.smith3x3.specs.Factors.{SmithForm}
use Rattle.smith3x3.specs.Smith3x3.{Answer, refused, divided}

abbrev pub written : Answer → Result Smith Refusal
written (refused r) = Err r
written (divided d p q) = Ok (record { d_diag = items d; p = entries p []; q = entries q [] })

-- a product that leaves 64 bits is not worked out
abbrev pub product_of : (l m : Mat ℤ) → Option (List ℤ)
product_of l m = provided (product_fits l m) (entries (l · m) [])

-- an accepted call returns the Smith form of A, any other refuses by 1, 3 or 4
pub record Promised (A : Mat ℤ) (r : Result Smith Refusal) : Type 0 where
  pub form : IfOk r (λ s. SmithForm A (vector_of s.d_diag) (matrix_at s.p 0) (matrix_at s.q 0))
  pub refusals : IfErr r Given
