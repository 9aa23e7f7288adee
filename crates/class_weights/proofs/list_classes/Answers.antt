use mathlib.Core.Path.{◌∙◌, ap}
use native.Mathlib.Omega.{arith}
use lib.ListN.{set}
use mir.Syntax.{w64}
use mir.Facts.{to_z_pos}
use borrow.Author.Rules.{rules}
use Rattle.class_weights.proofs.Listing.{turn-room, turn-same, turn-more}
use Rattle.class_weights.proofs.list_classes.Goals as goal
use Rattle.class_weights.proofs.list_classes.Goals.{then-n-weights, else-n-weights}

pub list_class-w-requires-clause-fact_2 : goal.list_class-w-requires-clause-fact_2
list_class-w-requires-clause-fact_2 c =
    let l = c.loop-c in
    let h = turn-room c.requires.fact_1 l.invariant.1 l.invariant.0 c.loop-c-test.true (search rules) c.if-n-weights.true in
    omega (arith, h, c.requires.fact_2, l.auto.members)

pub loop-c-preserved : goal.loop-c-preserved
loop-c-preserved c =
    let l = c.loop-c in
    let i = l.invariant in
    elim c.if-n-weights.branch [
      | then-n-weights w ↦ (
        search rules,
        let h = turn-room c.requires.fact_1 i.1 i.0 c.loop-c-test.true (search rules) w.if-n-weights.true in
            let e = w.list_class-w.ensures.0 in
            rw (w.at-is, w.j-is) (turn-more c.requires.fact_1 i.1 i.0 c.loop-c-test.true (search rules) w.if-n-weights.true w.list_class-w.ensures.0
            (w.weights-is ∙ ap (set l.weights l.j) (to_z_pos w64 {n = w.list_class-w.result} (search rules))) (w.members-is ∙ w.list_class-w.ensures.1)),
      )
      | else-n-weights w ↦ (
        search rules,
        rw (w.weights-is, w.members-is, w.at-is, w.j-is) (turn-same c.requires.fact_1 i.1 i.0 c.loop-c-test.true (search rules) w.if-n-weights.false),
      )
    ]
