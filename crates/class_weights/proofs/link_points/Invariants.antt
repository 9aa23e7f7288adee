use Rattle.class_weights.proofs.Linking.{Linking}
use Rattle.class_weights.proofs.link_points.Given as goal

abbrev pub invariant-loop-p : goal.invariant-loop-p
invariant-loop-p l = Linking l.initial.numbers l.p l.numbers l.lowest
