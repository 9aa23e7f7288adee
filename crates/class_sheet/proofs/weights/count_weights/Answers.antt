use Rattle.std.proofs.Common.{pos, ◌∙◌, ap, replicate, arith}
use Rattle.std.proofs.lemmas.Int.{ints}
use Rattle.class_sheet.proofs.Counting.{counted_none, counted-as, counted_on, weight-few, counted_more}
use Rattle.class_sheet.proofs.weights.count_weights.Goals as goal
use Rattle.class_sheet.proofs.weights.count_weights.Goals.{in-Ok, in_default}

pub loop-class-init : goal.loop-class-init
loop-class-init c = counted_none c.requires.numbers (c.fill.ensures.after (λ y e. e) ∙ ap (λ n. replicate n (pos 0)) c.requires.room)

pub overflow_add-weights : goal.overflow_add-weights
overflow_add-weights c =
    let few = weight-few c.loop-class.invariant c.in-Ok.r c.in-Ok.ensures.bound in
    rw few.2 (omega (arith, ints, few.1))

pub loop-class-preserved : goal.loop-class-preserved
loop-class-preserved c =
    let l = c.loop-class in
    elim c.match-binary_search.branch [
      | in-Ok w ↦
          let r = w.in-Ok.r in
          let few = weight-few l.invariant r w.in-Ok.ensures.bound in
          counted-as w.weights-is (counted_more l.invariant r w.in-Ok.ensures.bound w.in-Ok.ensures.position (rw few.2 (omega (arith, ints, few.1))))
      | in_default w ↦ counted-as w.weights-is (counted_on l.invariant w.in_default.field-0 w.in_default.ensures.position)
    ]
