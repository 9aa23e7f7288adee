use Rattle.std.proofs.Common.{◌≡◌, ◌-◌}
use Rattle.snf_steps.specs.Code.SmallWalk.{walked, Room}
use Rattle.snf_steps.proofs.gcd.walk_small.Given as goal

abbrev pub invariant-loop-i : goal.invariant-loop-i
invariant-loop-i l = (walked (1000 - l.n) l.n l.fn.start ≡ walked (1000 - l.i) l.i l.e) × Room l.e
