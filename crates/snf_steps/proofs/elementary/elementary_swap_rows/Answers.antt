use Rattle.std.proofs.Common.{◌≡◌, List, ℕ, ℤ, sym, ◌∙◌, rules, arith}
use Rattle.common.specs.Matrix.{X, Y, Z, entry, ◌·◌}
use Rattle.common.specs.Array.{matrix_of}
use Rattle.snf_steps.specs.Elementary.{elementary_swap_rows}
use Rattle.snf_steps.proofs.FittingEntries.{Fits, held-fits, held-entries}
use Rattle.snf_steps.proofs.LoneNumbers.{swap-fits}
use Rattle.snf_steps.proofs.RowOperations.{stack, swap-01, swap-02, swap-12}
use Rattle.snf_steps.proofs.elementary.elementary_swap_rows.Goals as goal
use Rattle.snf_steps.proofs.elementary.elementary_swap_rows.Goals.{Then-r1-ne0, Else-r1-ne0}

-- at the rows that the tests say
at : (m : List (List ℤ)) (i' j' : ℕ) {i j : ℕ} → i' ≡ i → j' ≡ j → matrix_of (elementary_swap_rows i' j') · matrix_of m ≡ matrix_of (elementary_swap_rows i j) · matrix_of m
at m i' j' e f n = matrix_of (elementary_swap_rows (e n) (f n)) · matrix_of m

fits : (c : Then-r1-ne0) → Fits (matrix_of c.args.m)
fits c = held-fits (search rules) (search rules) (search rules) (search rules) (search rules) (search rules) (search rules) (search rules) (search rules)

else-fits : (c : Else-r1-ne0) → Fits (matrix_of c.args.m)
else-fits c = held-fits (search rules) (search rules) (search rules) (search rules) (search rules) (search rules) (search rules) (search rules) (search rules)

pub returns-then-r1-ne0-clause-value : goal.returns-then-r1-ne0-clause-value
returns-then-r1-ne0-clause-value c =
    let m = matrix_of c.args.m in
    let h = held-entries m (fits (goal.at.returns-then-r1-ne0-clause-value c).Then-r1-ne0) in
    (λ n. stack (entry (h n) X) (entry (h n) Z) (entry (h n) Y)) ∙ sym (swap-12 m)
    ∙ at c.args.m 1 2 (omega (arith, c.requires.0, c.requires.1, c.if-r1-ne0.true)) (omega (arith, c.requires.0, c.requires.1, c.if-r1-ne0.true))

pub returns-then-r2-eq1-clause-value : goal.returns-then-r2-eq1-clause-value
returns-then-r2-eq1-clause-value c =
    let m = matrix_of c.args.m in
    let h = held-entries m (else-fits (goal.at.returns-then-r2-eq1-clause-value c).Else-r1-ne0) in
    (λ n. stack (entry (h n) Y) (entry (h n) X) (entry (h n) Z)) ∙ sym (swap-01 m) ∙ at c.args.m 0 1 (omega (arith, c.if-r1-ne0.false)) (omega (arith, c.if-r2-eq1.true))

pub returns-clause-value : goal.returns-clause-value
returns-clause-value c =
    let m = matrix_of c.args.m in
    let h = held-entries m (else-fits (goal.at.returns-clause-value c).Else-r1-ne0) in
    (λ n. stack (entry (h n) Z) (entry (h n) Y) (entry (h n) X)) ∙ sym (swap-02 m)
    ∙ at c.args.m 0 2 (omega (arith, c.if-r1-ne0.false)) (omega (arith, c.requires.0, c.requires.1, c.if-r1-ne0.false, c.if-r2-eq1.false))

pub returns-then-r1-ne0-clause-fits : goal.returns-then-r1-ne0-clause-fits
returns-then-r1-ne0-clause-fits c = swap-fits c.args.r1 c.args.r2 c.requires.0 c.requires.1 (matrix_of c.args.m) (fits (goal.at.returns-then-r1-ne0-clause-fits c).Then-r1-ne0)

pub returns-then-r2-eq1-clause-fits : goal.returns-then-r2-eq1-clause-fits
returns-then-r2-eq1-clause-fits c = swap-fits c.args.r1 c.args.r2 c.requires.0 c.requires.1 (matrix_of c.args.m) (else-fits (goal.at.returns-then-r2-eq1-clause-fits c).Else-r1-ne0)

pub returns-clause-fits : goal.returns-clause-fits
returns-clause-fits c = swap-fits c.args.r1 c.args.r2 c.requires.0 c.requires.1 (matrix_of c.args.m) (else-fits (goal.at.returns-clause-fits c).Else-r1-ne0)
