use mathlib.Core.Path.{◌≡◌, sym, ◌∙◌}
use Rattle.common.specs.Matrix.{X, Y, Z}
use Rattle.common.specs.Array.{along}
use Rattle.common.specs.IntegerMatrix.{cross_fits}
use Rattle.common.proofs.Tests.{first_holds, first-fails}
use borrow.Author.Rules.{rules}
use Rattle.integer_matrix.proofs.minors_fit.Goals as goal
use Rattle.integer_matrix.proofs.minors_fit.Goals.{then-cross_fits, else-cross_fits}

pub returns-then-cross_fits-2 : goal.returns-then-cross_fits-2
returns-then-cross_fits-2 c =
    let y = along c.args.y in
    let z = along c.args.z in
    let first : c.cross_fits.result ≡ cross_fits (y Y) (y Z) (z Y) (z Z) = search rules in
    let third : c.cross_fits-then-cross_fits-2.result ≡ cross_fits (y X) (y Y) (z X) (z Y) = search rules in
    elim c.if-cross_fits.branch [
      | then-cross_fits w ↦
          let second : w.cross_fits-then-cross_fits.result ≡ cross_fits (y X) (y Z) (z X) (z Z) = search rules in
          third ∙ first_holds _ (sym second ∙ sym w.value-is ∙ c.if-cross_fits-2.true) ∙ first_holds _ (sym first ∙ w.if-cross_fits.true)
      | else-cross_fits w ↦ cc
    ]

pub returns-else-cross_fits-2 : goal.returns-else-cross_fits-2
returns-else-cross_fits-2 c =
    let y = along c.args.y in
    let z = along c.args.z in
    let first : c.cross_fits.result ≡ cross_fits (y Y) (y Z) (z Y) (z Z) = search rules in
    elim c.if-cross_fits.branch [
      | then-cross_fits w ↦
          let second : w.cross_fits-then-cross_fits.result ≡ cross_fits (y X) (y Z) (z X) (z Z) = search rules in
          c.if-cross_fits-2.false ∙ first-fails _ (sym second ∙ sym w.value-is ∙ c.if-cross_fits-2.false) ∙ first_holds _ (sym first ∙ w.if-cross_fits.true)
      | else-cross_fits w ↦ w.value-is ∙ w.if-cross_fits.false ∙ first-fails _ (sym first ∙ w.if-cross_fits.false)
    ]
