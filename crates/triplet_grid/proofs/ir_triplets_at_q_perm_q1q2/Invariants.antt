use mathlib.Core.Path.{◌≡◌}
use mathlib.Core.List.{map}
use lib.IntN.{pos, nat_abs}
use Rattle.grgrid.specs.Sides.{sides}
use Rattle.grgrid.proofs.Built.{written}
use Rattle.triplet_grid.specs.IrTriplets.{swapped_number}
use Rattle.triplet_grid.proofs.ir_triplets_at_q_perm_q1q2.Given as goal

abbrev pub invariant-loop-q1 : goal.invariant-loop-q1
invariant-loop-q1 l = l.map_triplets ≡ written (λ p done. swapped_number (sides l.classes.q0.g) l.classes.q0.p (map nat_abs l.classes.map_q.now) p) pos l.q1 l.initial.map_triplets
