use Rattle.std.proofs.Common.{◌≡◌, true}
use Rattle.grgrid.specs.Sides.{sides}
use Rattle.bzconvert.specs.Layout.{all_below}
use Rattle.bzconvert.specs.Code.ByPlaces.{table_view, point_stands}
use Rattle.bzconvert.proofs.judging.points_stand.Given as goal

abbrev pub invariant-loop-p : goal.invariant-loop-p
invariant-loop-p l = all_below (point_stands l.table.t (sides l.table.g) (table_view l.table l.grg)) l.p ≡ true
