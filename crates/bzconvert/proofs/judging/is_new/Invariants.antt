use Rattle.std.proofs.Common.{◌≡◌, true}
use Rattle.bztable.specs.Access.{place_in}
use Rattle.bzconvert.specs.Layout.{all_below}
use Rattle.bzconvert.specs.Code.ByPlaces.{apart}
use Rattle.bzconvert.proofs.judging.is_new.Given as goal

abbrev pub invariant-loop-j : goal.invariant-loop-j
invariant-loop-j l = all_below (λ j. apart l.addresses (place_in l.r.first.at l.r.others j) (place_in l.r.first.at l.r.others l.k)) l.j ≡ true
