use Rattle.std.proofs.Common.{◌≡◌, ◌-◌}
use Rattle.common.specs.Array.{vector_of}
use Rattle.bztable.specs.Reading.{find}
use Rattle.bztable.proofs.reading.find.Given as goal

abbrev pub invariant-loop-i : goal.invariant-loop-i
invariant-loop-i l = find l.addresses (vector_of l.a) l.i (l.to - l.i) ≡ find l.addresses (vector_of l.a) l.from (l.to - l.from)
