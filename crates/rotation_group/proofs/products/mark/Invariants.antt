use Rattle.rotation_group.specs.Code.Known.{Known}
use Rattle.rotation_group.proofs.products.mark.Given as goal

abbrev pub invariant-loop-n : goal.invariant-loop-n
invariant-loop-n l = Known l.rotations.list.now l.known
