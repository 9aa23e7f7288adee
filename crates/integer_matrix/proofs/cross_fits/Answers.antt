use mathlib.Core.Path.{refl, sym, ◌∙◌}
use lib.IntN.{◌*ℤ◌}
use mir.Facts.{to_z-of_z}
use Rattle.integer.proofs.Test.{holds}
use Rattle.integer.proofs.Fits.{held_of}
use Rattle.common.proofs.Tests.{first_holds}
use Rattle.integer_matrix.proofs.cross_fits.Goals as goal
use Rattle.integer_matrix.proofs.cross_fits.Goals.{then-mul_fits, else-mul_fits}

pub returns-then-mul_fits-2 : goal.returns-then-mul_fits-2
returns-then-mul_fits-2 c =
    let a = to_z-of_z c.ranges.a in
    let b = to_z-of_z c.ranges.b in
    let k = to_z-of_z c.ranges.c in
    let d = to_z-of_z c.ranges.d in
    elim c.if-mul_fits.branch [
      | then-mul_fits w ↦
          let main = sym (rw (a, d) at c.mul_fits.ensures) ∙ w.if-mul_fits.true in
          let other = sym (rw (b, k) at w.mul_fits-then-mul_fits.ensures) ∙ sym w.value-is ∙ c.if-mul_fits-2.true in
          let ad = held_of {v = c.args.a *ℤ c.args.d} refl (holds main) in
          let bc = held_of {v = c.args.b *ℤ c.args.c} refl (holds other) in
          (rw (a, b, k, d, ad, bc) at c.sub_fits.ensures) ∙ first_holds _ other ∙ first_holds _ main
      | else-mul_fits w ↦ cc
    ]
