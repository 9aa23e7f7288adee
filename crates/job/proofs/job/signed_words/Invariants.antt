use mathlib.Core.Path.{◌≡◌}
use Rattle.grgrid.proofs.Built.{written}
use Rattle.job.proofs.Words.{signed_item}
use Rattle.job.proofs.job.signed_words.Given as goal

abbrev pub invariant-loop-k : goal.invariant-loop-k
invariant-loop-k l = l.out ≡ written (signed_item l.bytes l.at) (λ z. z) l.k l.initial.out
