use Rattle.std.proofs.Common.{◌≡◌, [], ◌∷◌, Some, length, refl, ◌∙◌, rules, w64}
use mir.Facts.{to_z_pos}
use Rattle.integer.proofs.Fits.{held}
use Rattle.snf_steps.specs.Gcd.{counted_gcd}
use Rattle.numbers_c.proofs.GcdAnswers.{count_fits, gcd-told}
use Rattle.numbers_c.proofs.gcd.zone_extended_gcd.Goals as goal

pub overflow_cast-c : goal.overflow_cast-c
overflow_cast-c c =
    let a = c.args in
    let g = c.in-Some.c in
    let known : Some g ≡ counted_gcd a.a a.b = search rules in
    record { sfits = count_fits a.a a.b c.ranges.b g.last g.count known }

pub returns : goal.returns
returns c =
    let a = c.args in
    let g = c.in-Some.c in
    let known : Some g ≡ counted_gcd a.a a.b = search rules in
    let r : held g.last.r ≡ g.last.r = search rules in
    let s : held g.last.s ≡ g.last.s = search rules in
    let t : held g.last.t ≡ g.last.t = search rules in
    let n = to_z_pos w64 {n = g.count} (count_fits a.a a.b c.ranges.b g.last g.count known) in
    gcd-told a.a a.b (length a.told.now) (search rules) known refl (c.copy_from_slice.ensures.after ∙ (λ j. r j ∷ s j ∷ t j ∷ n j ∷ []))
