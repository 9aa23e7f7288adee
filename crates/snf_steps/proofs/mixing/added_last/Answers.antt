use Rattle.std.proofs.Common.{[], ◌∷◌, pos, get_or, refl, sym, ◌∙◌, ◌+ℤ◌, ◌*ℤ◌}
use mir.Facts.{to_z-of_z}
use Rattle.integer.proofs.Ring.{one-*ℤ}
use Rattle.common.specs.Matrix.{X, Y, Z, entry}
use Rattle.common.specs.Array.{matrix_of}
use Rattle.snf_steps.proofs.RowOperations.{stack, below-second}
use Rattle.snf_steps.proofs.SmallRows.{rows-small, held-row, with-one}
use Rattle.snf_steps.proofs.mixing.added_last.Goals as goal

pub mix_rows-requires : goal.mix_rows-requires
mix_rows-requires c = (with-one (to_z-of_z c.ranges.v) c.requires.0, rows-small c.args.m c.requires.1 Y, rows-small c.args.m c.requires.1 Z)

pub returns : goal.returns
returns c =
    let a = c.args in
    let m = matrix_of a.m in
    let z = held-row a.v (pos 1) (get_or a.m 1 []) (get_or a.m 2 []) (to_z-of_z c.ranges.v) refl c.mix_rows.ensures in
    (λ n. matrix_of (get_or a.m 0 [] ∷ get_or a.m 1 [] ∷ z n ∷ []))
    ∙ (λ n. stack (entry m X) (entry m Y) (λ k. a.v *ℤ entry m Y k +ℤ one-*ℤ (entry m Z k) n)) ∙ sym (below-second a.v m)
