use Prim.Native.Nat.{◌≤◌}
use Rattle.class_weights.specs.Code.Links.{heads}
use Rattle.class_weights.proofs.Listing.{Listing}
use Rattle.class_weights.proofs.list_classes.Given as goal

abbrev pub invariant-loop-c : goal.invariant-loop-c
invariant-loop-c l = (l.j ≤ l.c) × Listing l.initial.weights l.initial.members (heads l.initial.weights l.c) l.at l.j l.weights l.members
