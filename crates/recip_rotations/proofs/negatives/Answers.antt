use Prim.Native.Nat.{◌*◌}
use borrow.Author.Rules.{rules}
use Rattle.recip_rotations.proofs.Negated.{negative-stored}
use Rattle.recip_rotations.proofs.negatives.Goals as goal

pub loop-i-preserved : goal.loop-i-preserved
loop-i-preserved c = negative-stored c.args.out.now c.requires.sized (c.args.count * 9) c.loop-i.i (search rules) (search rules) c.loop-i.invariant
