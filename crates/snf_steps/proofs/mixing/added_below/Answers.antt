use Rattle.std.proofs.Common.{[], ◌∷◌, pos, get_or, refl, sym, ◌∙◌, ◌+ℤ◌, ◌*ℤ◌}
use mir.Facts.{to_z-of_z}
use Rattle.integer.proofs.Test.{and_l, and_r}
use Rattle.integer.proofs.Ring.{one-*ℤ}
use Rattle.common.specs.Matrix.{X, Y, Z, entry}
use Rattle.common.specs.Array.{matrix_of}
use Rattle.snf_steps.specs.Columns.{small}
use Rattle.snf_steps.proofs.RowOperations.{stack, below-first}
use Rattle.snf_steps.proofs.SmallRows.{rows-small, held-row, with-one}
use Rattle.snf_steps.proofs.mixing.added_below.Goals as goal

pub mix_rows-requires : goal.mix_rows-requires
mix_rows-requires c =
    let a = c.args in
    (with-one (to_z-of_z c.ranges.u) (and_l (small a.u) (small a.v) c.requires.0), rows-small a.m c.requires.1 X, rows-small a.m c.requires.1 Y)

pub mix_rows-requires-2 : goal.mix_rows-requires-2
mix_rows-requires-2 c =
    let a = c.args in
    (with-one (to_z-of_z c.ranges.v) (and_r (small a.u) (small a.v) c.requires.0), rows-small a.m c.requires.1 X, rows-small a.m c.requires.1 Z)

pub returns : goal.returns
returns c =
    let a = c.args in
    let m = matrix_of a.m in
    let y = held-row a.u (pos 1) (get_or a.m 0 []) (get_or a.m 1 []) (to_z-of_z c.ranges.u) refl c.mix_rows.ensures in
    let z = held-row a.v (pos 1) (get_or a.m 0 []) (get_or a.m 2 []) (to_z-of_z c.ranges.v) refl c.mix_rows-2.ensures in
    (λ n. matrix_of (get_or a.m 0 [] ∷ y n ∷ z n ∷ []))
    ∙ (λ n. stack (entry m X) (λ k. a.u *ℤ entry m X k +ℤ one-*ℤ (entry m Y k) n) (λ k. a.v *ℤ entry m X k +ℤ one-*ℤ (entry m Z k) n)) ∙ sym (below-first a.u a.v m)
