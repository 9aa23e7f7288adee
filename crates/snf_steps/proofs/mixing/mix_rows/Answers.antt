use Rattle.std.proofs.Common.{rules}
use Rattle.integer.proofs.Fits.{held}
use Rattle.common.specs.Matrix.{Y, Z}
use Rattle.common.specs.Array.{along}
use Rattle.snf_steps.proofs.SmallRows.{place-sizes}
use Rattle.snf_steps.proofs.mixing.mix_rows.Goals as goal

pub mix-requires-2 : goal.mix-requires-2
mix-requires-2 c =
    let a = c.args in
    place-sizes a.s a.t a.x a.y c.requires.0 c.requires.1 c.requires.2 Y {s' = held a.s} {x' = held (along a.x Y)} {t' = held a.t} {y' = held (along a.y Y)} (search rules) (search rules) (search rules) (search rules)

pub mix-requires-3 : goal.mix-requires-3
mix-requires-3 c =
    let a = c.args in
    place-sizes a.s a.t a.x a.y c.requires.0 c.requires.1 c.requires.2 Z {s' = held a.s} {x' = held (along a.x Z)} {t' = held a.t} {y' = held (along a.y Z)} (search rules) (search rules) (search rules) (search rules)
