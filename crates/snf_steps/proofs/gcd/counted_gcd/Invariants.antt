use Rattle.std.proofs.Common.{◌≡◌, ◌-◌}
use Rattle.snf_steps.specs.Gcd.{counted_gcd}
use Rattle.snf_steps.specs.Code.SmallWalk.{walked}
use Rattle.snf_steps.proofs.gcd.counted_gcd.Given as goal

abbrev pub invariant-loop-i : goal.invariant-loop-i
invariant-loop-i l = counted_gcd l.a l.b ≡ walked (1000 - l.i) l.i l.e
