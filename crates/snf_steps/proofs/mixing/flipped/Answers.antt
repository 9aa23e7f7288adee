use Rattle.std.proofs.Common.{◌≡◌, List, [], ◌∷◌, ℕ, ℤ, get_or, sym, ◌∙◌, arith}
use Rattle.common.specs.Matrix.{X, Y, Z, entry, ◌·◌}
use Rattle.common.specs.Array.{matrix_of}
use Rattle.snf_steps.specs.Elementary.{elementary_flip_sign_row}
use Rattle.snf_steps.proofs.RowOperations.{stack, flip-0, flip-1, flip-2}
use Rattle.snf_steps.proofs.SmallRows.{rows-small, negated}
use Rattle.snf_steps.proofs.mixing.flipped.Goals as goal

-- at the row that the tests say
at : (m : List (List ℤ)) (i' : ℕ) {i : ℕ} → i' ≡ i → matrix_of (elementary_flip_sign_row i') · matrix_of m ≡ matrix_of (elementary_flip_sign_row i) · matrix_of m
at m i' e n = matrix_of (elementary_flip_sign_row (e n)) · matrix_of m

pub mix_rows-requires : goal.mix_rows-requires
mix_rows-requires c = (tt, rows-small c.args.m c.requires.1 X, rows-small c.args.m c.requires.1 X)

pub mix_rows-requires-then-i-eq1 : goal.mix_rows-requires-then-i-eq1
mix_rows-requires-then-i-eq1 c = (tt, rows-small c.args.m c.requires.1 Y, rows-small c.args.m c.requires.1 Y)

pub mix_rows-requires-2 : goal.mix_rows-requires-2
mix_rows-requires-2 c = (tt, rows-small c.args.m c.requires.1 Z, rows-small c.args.m c.requires.1 Z)

pub returns-then-i-eq0 : goal.returns-then-i-eq0
returns-then-i-eq0 c =
    let l = c.args.m in
    let m = matrix_of l in
    (λ n. matrix_of (c.mix_rows.ensures n ∷ get_or l 1 [] ∷ get_or l 2 [] ∷ [])) ∙ (λ n. stack (λ k. negated (entry m X k) n) (entry m Y) (entry m Z)) ∙ sym (flip-0 m)
    ∙ at l 0 (omega (arith, c.if-i-eq0.true))

pub returns-then-i-eq1 : goal.returns-then-i-eq1
returns-then-i-eq1 c =
    let l = c.args.m in
    let m = matrix_of l in
    (λ n. matrix_of (get_or l 0 [] ∷ c.mix_rows-then-i-eq1.ensures n ∷ get_or l 2 [] ∷ [])) ∙ (λ n. stack (entry m X) (λ k. negated (entry m Y k) n) (entry m Z)) ∙ sym (flip-1 m)
    ∙ at l 1 (omega (arith, c.if-i-eq1.true))

pub returns : goal.returns
returns c =
    let l = c.args.m in
    let m = matrix_of l in
    (λ n. matrix_of (get_or l 0 [] ∷ get_or l 1 [] ∷ c.mix_rows-2.ensures n ∷ [])) ∙ (λ n. stack (entry m X) (entry m Y) (λ k. negated (entry m Z k) n)) ∙ sym (flip-2 m)
    ∙ at l 2 (omega (arith, c.requires.0, c.if-i-eq0.false, c.if-i-eq1.false))
