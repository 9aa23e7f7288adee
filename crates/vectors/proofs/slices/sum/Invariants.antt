use Rattle.std.proofs.Common.{◌≡◌, ◌<◌, drop}
use Rattle.vectors.specs.Words.{sum_from}
use Rattle.vectors.proofs.slices.sum.Given as goal

abbrev pub invariant-loop-v : goal.invariant-loop-v
invariant-loop-v l = (l.sum < 1000003) × (sum_from l.sum (drop l.v-index l.written) ≡ sum_from 0 l.written)
