use Rattle.class_sheet.proofs.Counting.{Counted}
use Rattle.class_sheet.proofs.weights.count_weights.Given as goal

abbrev pub invariant-loop-class : goal.invariant-loop-class
invariant-loop-class l = Counted l.class_map l.numbers l.class-index l.weights
