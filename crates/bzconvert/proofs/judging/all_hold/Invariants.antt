use Rattle.std.proofs.Common.{◌≡◌, true, []}
use Rattle.grgrid.specs.Sides.{sides}
use Rattle.bzconvert.specs.Layout.{all_below}
use Rattle.bzconvert.specs.Code.ByPlaces.{table_view, mesh_holds}
use Rattle.bzconvert.proofs.judging.all_hold.Given as goal

abbrev pub invariant-loop-k : goal.invariant-loop-k
invariant-loop-k l = all_below (mesh_holds (sides l.table.g) (table_view l.table []) l.m) l.k ≡ true
