use mathlib.Core.Path.{◌≡◌}
use mathlib.Core.List.{map}
use lib.IntN.{neg_ℤ}
use lib.Seq.{paste}
use Rattle.recip_rotations.proofs.negatives.Given as goal

abbrev pub invariant-loop-i : goal.invariant-loop-i
invariant-loop-i l = l.out ≡ paste l.initial.out l.half (map neg_ℤ l.initial.out) l.i
