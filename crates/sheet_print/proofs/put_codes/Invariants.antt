use Rattle.std.proofs.Common.{◌≡◌}
use lib.IntN.{pos, nat_abs}
use lib.ListN.{get_or}
use Rattle.grgrid.proofs.Built.{written}
use Rattle.sheet_print.proofs.put_codes.Given as goal

abbrev pub invariant-loop-i : goal.invariant-loop-i
invariant-loop-i l = l.text ≡ written (λ p done. get_or l.codes p (pos 0)) nat_abs l.i l.initial.text
