use mathlib.Core.Path.{◌∙◌, ap, subst}
use native.Mathlib.Nat.{le_antisymm}
use lib.ListN.{length, set}
use mir.Syntax.{w64}
use mir.Facts.{to_z_pos}
use borrow.Author.Rules.{rules}
use Rattle.common.specs.Array.{vector_of}
use Rattle.grgrid.specs.Sides.{sides}
use Rattle.class_weights.proofs.KeepersWalk.{Keeping, keeping-more, keeping-same, keeping-end}
use Rattle.class_weights.proofs.list_keepers.Goals as goal
use Rattle.class_weights.proofs.list_keepers.Goals.{then-rotate_point-point, else-rotate_point-point}

pub loop-i-preserved : goal.loop-i-preserved
loop-i-preserved c =
    let s = c.args in
    let l = c.loop-i in
    let d = sides s.point.g in
    let ps = vector_of s.ps.v in
    let k = l.invariant.1 in
    elim c.if-rotate_point-point.branch [
      | then-rotate_point-point w ↦ (
        search rules,
        rw w.k-is (keeping-more d ps s.rotations.list.now s.point.p k (search rules) c.rotate_point.ensures.value c.at.ensures (search rules)
            w.if-rotate_point-point.true (w.keepers-is ∙ ap (set l.keepers l.k) (to_z_pos w64 {n = l.i} (search rules)))),
      )
      | else-rotate_point-point w ↦ (
        search rules,
        rw (w.keepers-is, w.k-is) (keeping-same d ps s.rotations.list.now s.point.p k (search rules) c.rotate_point.ensures.value c.at.ensures w.if-rotate_point-point.false),
      )
    ]

pub returns : goal.returns
returns c =
    let s = c.args in
    let l = c.loop-i in
    let d = sides s.point.g in
    let ps = vector_of s.ps.v in
    let e = le_antisymm l.auto.i-end c.loop-i-test.false ∙ c.count-i-end.ensures in
    let r = keeping-end d ps s.rotations.list.now s.point.p (subst (λ i. Keeping d ps s.rotations.list.now s.point.p (length c.fill.new.self) i l.k l.keepers) e l.invariant.1) in
    (r.1, rw c.fill.ensures.len at r.0)
