use mathlib.Core.Path.{◌≡◌, ◌∙◌, ap}
use lib.IntN.{pos, nat_abs}
use lib.ListN.{length, get_or}
use borrow.Author.Rules.{rules}
use native.Mathlib.Omega.{arith}
use Rattle.integer.proofs.Fits.{held-is}
use Rattle.grgrid.proofs.Built.{written-more}
use Rattle.sheet_print.proofs.Printed.{codes-printed}
use Rattle.sheet_print.proofs.put_codes.Goals as goal

pub loop-i-preserved : goal.loop-i-preserved
loop-i-preserved c =
    let l = c.args.codes.now in
    written-more (λ p done. get_or l p (pos 0)) nat_abs c.loop-i.i c.fill.new.self c.loop-i.invariant (search rules) (c.unsigned_abs.ensures.value ∙ ap nat_abs (held-is (get_or l c.loop-i.i (pos 0)) (search rules)))

pub returns : goal.returns
returns c =
    let all : c.loop-i.i ≡ length c.args.codes.now = omega arith in
    codes-printed c.args.codes.now _ c.requires.room all (search rules) c.loop-i.invariant
