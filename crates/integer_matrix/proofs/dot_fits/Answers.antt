use mathlib.Core.Path.{◌≡◌, sym, ◌∙◌}
use lib.IntN.{◌*ℤ◌}
use Rattle.integer.specs.Checked.{fits64}
use Rattle.integer.proofs.Test.{holds}
use Rattle.integer.proofs.Fits.{held, held_of}
use Rattle.common.specs.Matrix.{X, Y, Z}
use Rattle.common.specs.Array.{along}
use Rattle.common.proofs.Matrix.{axes-of}
use Rattle.common.proofs.Tests.{first_holds}
use borrow.Author.Rules.{rules}
use Rattle.integer_matrix.proofs.dot_fits.Goals as goal

pub returns-then-products_fit : goal.returns-then-products_fit
returns-then-products_fit c =
    let u = along c.args.a in
    let v = along c.args.b in
    let tested = sym c.products_fit.ensures ∙ c.if-products_fit.true in
    let fits = axes-of (λ k. fits64 (u k *ℤ v k)) (holds tested) in
    let x : held (held (u X) *ℤ held (v X)) ≡ u X *ℤ v X = held_of {v = held (u X) *ℤ held (v X)} (search rules) (fits X) in
    let y : held (held (u Y) *ℤ held (v Y)) ≡ u Y *ℤ v Y = held_of {v = held (u Y) *ℤ held (v Y)} (search rules) (fits Y) in
    let z : held (held (u Z) *ℤ held (v Z)) ≡ u Z *ℤ v Z = held_of {v = held (u Z) *ℤ held (v Z)} (search rules) (fits Z) in
    (rw (x, y, z) at c.sums_fit.ensures) ∙ first_holds _ tested
