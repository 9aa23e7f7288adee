use Rattle.std.proofs.Common.{◌≡◌, Bool, true, ℤ, sym, ◌∙◌, ap, subst, rules}
use Rattle.std.specs.Prelude.{Result, cond}
use Rattle.integer.proofs.Test.{holds}
use Rattle.common.specs.declared.Refusal.{Refusal}
use Rattle.common.specs.declared.Refusal.TheVariants.{OutsideLimits}
use Rattle.common.specs.Matrix.{Mat}
use Rattle.common.specs.Array.{matrix_of}
use Rattle.common.specs.Limits.{matrix_within}
use Rattle.common.proofs.Bounds.{matrix-sizes}
use Rattle.common.proofs.Whole.{sized-det}
use Rattle.snf3x3.specs.declared.Snf.{Snf}
use Rattle.snf3x3.specs.Snf3x3.{refused, diagonalise, snf3x3}
use Rattle.snf3x3.specs.Written.{written}
use Rattle.snf3x3.specs.FewRounds.{RoundsWithin}
use Rattle.snf3x3.proofs.Diagonal.{Returned, returned}
use Rattle.snf3x3.proofs.FewRounds.{call_within}
use Rattle.snf3x3.proofs.snf3x3.Goals as goal

pub diagonalise-requires : goal.diagonalise-requires
diagonalise-requires c =
    let m = matrix_of c.args.a in
    let t : matrix_within 1000000 m ≡ true = search rules in
    sized-det m (matrix-sizes 1000000 m (holds t))

-- within the limit the answer is the walk's
walked : (A : Mat ℤ) → true ≡ matrix_within 1000000 A → {r : Result Snf Refusal} → r ≡ written (diagonalise A) → r ≡ written (snf3x3 A)
unfolding snf3x3
walked A t e = e ∙ ap (λ (t : Bool). written (cond t (diagonalise A) (refused OutsideLimits))) t

pub returns-clause-diagonalises : goal.returns-clause-diagonalises
returns-clause-diagonalises c =
    let m = matrix_of c.args.a in
    let t : true ≡ matrix_within 1000000 m = search rules in
    subst (Returned m) (sym (walked m t c.diagonalise.ensures)) (returned m)

pub returns-clause-rounds_within : goal.returns-clause-rounds_within
returns-clause-rounds_within c =
    let m = matrix_of c.args.a in
    let t : true ≡ matrix_within 1000000 m = search rules in
    subst (RoundsWithin 82) (sym (walked m t c.diagonalise.ensures)) (call_within m)
