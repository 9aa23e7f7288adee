use mathlib.Core.Path.{◌≡◌, refl, sym, ◌∙◌, ap}
use Prim.Native.Nat.{◌<◌}
use native.Mathlib.Omega.{arith}
use lib.IntN.{pos, nat_abs}
use mir.Facts.{to_z-of_z}
use borrow.Author.Rules.{rules}
use Rattle.std.specs.Prelude.{Ok, Err}
use Rattle.integer.proofs.Fits.{held-is}
use Rattle.common.specs.Refusal.{number_of}
use Rattle.common.specs.Tested.{answer_of, Tested, Accepted}
use Rattle.answers.proofs.Entries.{three-entries, six-entries}
use Rattle.zone_c.proofs.marks.zone_mark_candidates.Goals as goal

-- 0 is told of an accepted call alone
accepted : (t : Tested) → answer_of t ≡ pos 0 → t ≡ Accepted
accepted (Ok _) e = refl
accepted (Err r) e = let f : 0 < number_of r = search rules in absurd (omega (arith, f, ap nat_abs e))

pub ranges_at-requires : goal.ranges_at-requires
ranges_at-requires c = search rules

pub returns : goal.returns
returns c =
    let s = c.args in
    let d = c.row_at.ensures ∙ three-entries s.d.now (search rules) in
    let ps = c.row_at-2.ensures ∙ three-entries s.ps.now (search rules) in
    let l = c.ranges_at.ensures.lowest_value ∙ six-entries s.lowest.now (search rules) in
    let h = c.ranges_at.ensures.highest_value ∙ six-entries s.highest.now (search rules) in
    let o = rw (to_z-of_z c.ranges.point, d, c.matrix_at.ensures, ps, l, h) at c.mark_candidates.ensures in record {
      outcome = search rules;
      marks_say = λ e. o.marks_say (accepted c.mark_candidates.result (sym c.number.ensures ∙ sym (held-is c.number.result c.number.type_inv) ∙ e));
    }
