use Rattle.class_sheet.proofs.Filling.{Filling}
use Rattle.class_sheet.proofs.sheet.put_sheet.Given as goal

abbrev pub invariant-loop-p : goal.invariant-loop-p
invariant-loop-p l = Filling l.class_map l.triplets l.initial.sheet l.p l.r l.sheet
