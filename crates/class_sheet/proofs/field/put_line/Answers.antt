use mathlib.Core.Path.{◌∙◌}
use lib.ListN.{get_or}
use lib.IntN.{pos}
use mir.Syntax.{w64}
use mir.Val.{SFits}
use mir.Facts.{to_z-of_z}
use borrow.Author.Rules.{rules}
use Rattle.class_sheet.proofs.Putting.{field-put, line-put}
use Rattle.class_sheet.proofs.field.put_line.Goals as goal

pub loop-i-preserved : goal.loop-i-preserved
loop-i-preserved c =
    let l = c.loop-i in
    let fits : SFits w64 (get_or c.args.numbers.now l.i (pos 0)) = search rules in
    field-put l.invariant c.requires.same c.loop-i-test.true (l.auto.out ∙ c.requires.room) (to_z-of_z fits) c.put_number.auto.out c.in_ok-put_number.ensures

pub returns : goal.returns
returns c =
    let l = c.loop-i in
    line-put l.invariant c.loop-i-test.false (l.auto.out ∙ c.requires.room)
