use Rattle.std.proofs.Common.{◌∙◌}
use Rattle.grgrid.specs.Sides.{sides}
use Rattle.bzconvert.specs.Code.ByPlaces.{table_view}
use Rattle.bzconvert.proofs.ByPlaces.{by-places}
use Rattle.bzconvert.proofs.judging.could_stand.Goals as goal

pub returns : goal.returns
returns c =
    let t = c.args.table.now in
    c.by_places.ensures ∙ by-places t.t (sides t.g) t.fits (table_view t c.args.grg.now) c.args.m c.requires
