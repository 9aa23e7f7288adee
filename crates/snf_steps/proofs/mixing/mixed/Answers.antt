use Rattle.std.proofs.Common.{◌≡◌, ◌&&◌, List, [], ◌∷◌, ℕ, ℤ, T, get_or, sym, ◌∙◌, rules, arith}
use Rattle.integer.proofs.Test.{and_l, and_r}
use Rattle.integer.proofs.Fits.{held}
use Rattle.common.specs.Matrix.{Axis, X, Y, Z, ◌·◌}
use Rattle.common.specs.Array.{axis_index, along, matrix_of}
use Rattle.snf_steps.specs.declared.columns.Combination.{Combination}
use Rattle.snf_steps.specs.Columns.{small, small_row, small_matrix, small_combination, combination_matrix}
use Rattle.snf_steps.proofs.RowOperations.{combine-01, combine-02, combine-12}
use Rattle.snf_steps.proofs.SmallRows.{held_small, rows-small, held-row}
use Rattle.snf_steps.proofs.mixing.mixed.Goals as goal

-- of rows p and q
module _ (k : Combination) (m : List (List ℤ)) (p q : Axis) (t : T (small_combination k)) (u : T (small_matrix (matrix_of m))) where
  abbrev x : List ℤ
  x = get_or m (axis_index p) []

  abbrev y : List ℤ
  y = get_or m (axis_index q) []

  first_small : held k.s ≡ k.s → held k.t ≡ k.t → T (small (held k.s) && small (held k.t)) × T (small_row (along x)) × T (small_row (along y))
  first_small es et = (held_small es et (and_l (small k.s && small k.t) (small k.v && small k.u) t), rows-small m u p, rows-small m u q)

  second-small : held k.v ≡ k.v → held k.u ≡ k.u → T (small (held k.v) && small (held k.u)) × T (small_row (along x)) × T (small_row (along y))
  second-small ev eu = (held_small ev eu (and_r (small k.s && small k.t) (small k.v && small k.u) t), rows-small m u p, rows-small m u q)

-- at the rows that the tests say
at : (k : Combination) (m : List (List ℤ)) (i' j' : ℕ) {i j : ℕ} → i' ≡ i → j' ≡ j → combination_matrix i' j' k · matrix_of m ≡ combination_matrix i j k · matrix_of m
at k m i' j' e f n = combination_matrix (e n) (f n) k · matrix_of m

pub mix_rows-requires : goal.mix_rows-requires
mix_rows-requires c = first_small c.args.c c.args.m Y Z c.requires.2 c.requires.3 (search rules) (search rules)

pub mix_rows-requires-then-i-ne0 : goal.mix_rows-requires-then-i-ne0
mix_rows-requires-then-i-ne0 c = second-small c.args.c c.args.m Y Z c.requires.2 c.requires.3 (search rules) (search rules)

pub returns-then-i-ne0 : goal.returns-then-i-ne0
returns-then-i-ne0 c =
    let m = c.args.m in
    let k = c.args.c in
    let x = held-row k.s k.t (get_or m 1 []) (get_or m 2 []) (search rules) (search rules) c.mix_rows.ensures in
    let y = held-row k.v k.u (get_or m 1 []) (get_or m 2 []) (search rules) (search rules) c.mix_rows-then-i-ne0.ensures in
    (λ n. matrix_of (get_or m 0 [] ∷ x n ∷ y n ∷ [])) ∙ sym (combine-12 k.s k.t k.v k.u (matrix_of m))
    ∙ at k m 1 2 (omega (arith, c.requires.0, c.requires.1, c.if-i-ne0.true)) (omega (arith, c.requires.0, c.requires.1, c.if-i-ne0.true))

pub mix_rows-requires-then-j-eq1 : goal.mix_rows-requires-then-j-eq1
mix_rows-requires-then-j-eq1 c = first_small c.args.c c.args.m X Y c.requires.2 c.requires.3 (search rules) (search rules)

pub mix_rows-requires-then-j-eq1-2 : goal.mix_rows-requires-then-j-eq1-2
mix_rows-requires-then-j-eq1-2 c = second-small c.args.c c.args.m X Y c.requires.2 c.requires.3 (search rules) (search rules)

pub returns-then-j-eq1 : goal.returns-then-j-eq1
returns-then-j-eq1 c =
    let m = c.args.m in
    let k = c.args.c in
    let x = held-row k.s k.t (get_or m 0 []) (get_or m 1 []) (search rules) (search rules) c.mix_rows-then-j-eq1.ensures in
    let y = held-row k.v k.u (get_or m 0 []) (get_or m 1 []) (search rules) (search rules) c.mix_rows-then-j-eq1-2.ensures in
    (λ n. matrix_of (x n ∷ y n ∷ get_or m 2 [] ∷ [])) ∙ sym (combine-01 k.s k.t k.v k.u (matrix_of m))
    ∙ at k m 0 1 (omega (arith, c.if-i-ne0.false)) (omega (arith, c.if-j-eq1.true))

pub mix_rows-requires-2 : goal.mix_rows-requires-2
mix_rows-requires-2 c = first_small c.args.c c.args.m X Z c.requires.2 c.requires.3 (search rules) (search rules)

pub mix_rows-requires-3 : goal.mix_rows-requires-3
mix_rows-requires-3 c = second-small c.args.c c.args.m X Z c.requires.2 c.requires.3 (search rules) (search rules)

pub returns : goal.returns
returns c =
    let m = c.args.m in
    let k = c.args.c in
    let x = held-row k.s k.t (get_or m 0 []) (get_or m 2 []) (search rules) (search rules) c.mix_rows-2.ensures in
    let y = held-row k.v k.u (get_or m 0 []) (get_or m 2 []) (search rules) (search rules) c.mix_rows-3.ensures in
    (λ n. matrix_of (x n ∷ get_or m 1 [] ∷ y n ∷ [])) ∙ sym (combine-02 k.s k.t k.v k.u (matrix_of m))
    ∙ at k m 0 2 (omega (arith, c.if-i-ne0.false)) (omega (arith, c.requires.0, c.requires.1, c.if-i-ne0.false, c.if-j-eq1.false))
