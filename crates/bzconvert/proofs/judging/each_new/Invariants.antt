use Rattle.std.proofs.Common.{◌≡◌, true}
use Rattle.bztable.specs.Access.{place_in}
use Rattle.bzconvert.specs.Layout.{all_below}
use Rattle.bzconvert.specs.Code.ByPlaces.{apart}
use Rattle.bzconvert.proofs.judging.each_new.Given as goal

abbrev pub invariant-loop-k : goal.invariant-loop-k
invariant-loop-k l = all_below (λ k. all_below (λ j. apart l.addresses (place_in l.r.first.at l.r.others j) (place_in l.r.first.at l.r.others k)) k) l.k ≡ true
