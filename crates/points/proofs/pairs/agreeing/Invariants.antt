use Rattle.std.proofs.Common.{◌<◌}
use Rattle.points.proofs.pairs.agreeing.Given as goal

abbrev pub invariant-loop-limit : goal.invariant-loop-limit
invariant-loop-limit l = l.n < l.limit
