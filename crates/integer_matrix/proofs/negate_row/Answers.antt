use mathlib.Core.Path.{◌≡◌}
use mathlib.Core.List.{[], ◌∷◌}
use lib.IntN.{pos, neg_ℤ, ◌-ℤ◌}
use Rattle.integer.proofs.Fits.{held}
use Rattle.common.specs.Matrix.{X, Y, Z}
use Rattle.common.specs.Array.{along}
use borrow.Author.Rules.{rules}
use Rattle.integer_matrix.proofs.negate_row.Goals as goal

pub returns : goal.returns
returns c =
    let u = along c.args.a in
    let x : held (pos 0 -ℤ held (u X)) ≡ neg_ℤ (u X) = search rules in
    let y : held (pos 0 -ℤ held (u Y)) ≡ neg_ℤ (u Y) = search rules in
    let z : held (pos 0 -ℤ held (u Z)) ≡ neg_ℤ (u Z) = search rules in
    λ i. x i ∷ y i ∷ z i ∷ []
