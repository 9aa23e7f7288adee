use mathlib.Core.Path.{◌≡◌}
use lib.IntN.{pos}
use lib.ListN.{get_or}
use Rattle.grgrid.proofs.Built.{written}
use Rattle.triplet_grid.proofs.ir_triplets_at_q_noperm.Given as goal

abbrev pub invariant-loop-q1 : goal.invariant-loop-q1
invariant-loop-q1 l = l.map_triplets ≡ written (λ p done. get_or l.map_q p (pos 0)) (λ z. z) l.q1 l.initial.map_triplets
