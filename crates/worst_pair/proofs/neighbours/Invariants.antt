use Rattle.std.proofs.Common.{◌-◌, ◌≤◌}
use Rattle.worst_pair.proofs.Worst.{Row}
use Rattle.worst_pair.proofs.neighbours.Given as goal

abbrev pub invariant-loop-a : goal.invariant-loop-a
invariant-loop-a l = (1 ≤ l.a) × (l.a ≤ l.b) × (l.b ≤ l.limit) × (1 ≤ l.steps) × (l.steps ≤ l.b) × Row (l.steps - 1) l.a l.b

abbrev pub decreases-loop-a : goal.decreases-loop-a
decreases-loop-a l = l.limit - l.b
