use Rattle.std.proofs.Common.{◌≡◌, true}
use Rattle.bztable.specs.Reading.{address_at}
use Rattle.bzconvert.specs.Layout.{is_read, all_below}
use Rattle.bzconvert.proofs.judging.images_read.Given as goal

abbrev pub invariant-loop-i : goal.invariant-loop-i
invariant-loop-i l = all_below (λ i. is_read (address_at l.addresses i)) l.i ≡ true
