use Rattle.std.proofs.Common.{◌≡◌, true}
use Rattle.grgrid.specs.Sides.{sides}
use Rattle.bztable.specs.Access.{place_in}
use Rattle.bzconvert.specs.Layout.{all_below}
use Rattle.bzconvert.specs.Code.ByPlaces.{table_view, image_stands}
use Rattle.bzconvert.proofs.judging.every_stands.Given as goal

abbrev pub invariant-loop-k : goal.invariant-loop-k
invariant-loop-k l = all_below (λ k. image_stands (sides l.table.g) (table_view l.table l.grg) l.p (place_in l.r.first.at l.r.others k)) l.k ≡ true
