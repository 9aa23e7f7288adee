use Rattle.class_sheet.proofs.Putting.{Begun}
use Rattle.class_sheet.proofs.field.put_line.Given as goal

abbrev pub invariant-loop-i : goal.invariant-loop-i
invariant-loop-i l = Begun l.widths l.numbers l.out l.i l.at
