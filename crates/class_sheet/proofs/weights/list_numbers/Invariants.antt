use Rattle.class_sheet.proofs.Counting.{Listed}
use Rattle.class_sheet.proofs.weights.list_numbers.Given as goal

abbrev pub invariant-loop-p : goal.invariant-loop-p
invariant-loop-p l = Listed l.class_map l.p l.k l.out
