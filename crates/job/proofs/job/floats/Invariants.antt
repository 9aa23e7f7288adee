use mathlib.Core.Path.{◌≡◌}
use Rattle.grgrid.proofs.Built.{written}
use Rattle.job.proofs.Words.{float_item}
use Rattle.job.proofs.job.floats.Given as goal

abbrev pub invariant-loop-k : goal.invariant-loop-k
invariant-loop-k l = l.out ≡ written (float_item l.bytes l.at) (λ z. z) l.k l.initial.out
