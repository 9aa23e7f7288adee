use Rattle.std.proofs.Common.{◌≡◌, true}
use Rattle.bztable.specs.Reading.{place_at}
use Rattle.bzconvert.specs.Layout.{is_read, all_below}
use Rattle.bzconvert.proofs.judging.map_read.Given as goal

abbrev pub invariant-loop-i : goal.invariant-loop-i
invariant-loop-i l = all_below (λ i. is_read (place_at l.map i)) l.i ≡ true
