use mathlib.Core.Path.{◌≡◌}
use lib.IntN.{pos}
use lib.ListN.{length, replicate}
use borrow.Author.Rules.{rules}
use Rattle.class_sheet.proofs.Putting.{no-sign, minus-sign}
use Rattle.class_sheet.proofs.field.put_sign.Goals as goal

pub returns-in_ok-last : goal.returns-in_ok-last
returns-in_ok-last c =
    let e : c.fill.new.self ≡ replicate (length c.args.out.now) (pos 32) = search rules in
    minus-sign e c.args.negative c.if-negative.true (search rules)

pub returns-else-negative : goal.returns-else-negative
returns-else-negative c =
    let e : c.fill.new.self ≡ replicate (length c.args.out.now) (pos 32) = search rules in
    no-sign e c.args.negative c.if-negative.false
