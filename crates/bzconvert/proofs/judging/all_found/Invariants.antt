use Rattle.std.proofs.Common.{◌≡◌, true, []}
use Rattle.grgrid.specs.Sides.{sides}
use Rattle.bzconvert.specs.Layout.{all_below}
use Rattle.bzconvert.specs.Code.ByPlaces.{table_view, mesh_finds}
use Rattle.bzconvert.proofs.judging.all_found.Given as goal

abbrev pub invariant-loop-i : goal.invariant-loop-i
invariant-loop-i l = all_below (mesh_finds (sides l.table.g) (table_view l.table []) l.m) l.i ≡ true
