use Prim.Native.Nat.{◌-◌}
use Rattle.class_weights.proofs.Following.{Walk}
use Rattle.class_weights.proofs.list_class.Given as goal

abbrev pub invariant-loop-p : goal.invariant-loop-p
invariant-loop-p l = Walk l.links l.c l.at l.initial.members l.members l.i l.p

abbrev pub decreases-loop-p : goal.decreases-loop-p
decreases-loop-p l = l.n - l.p
