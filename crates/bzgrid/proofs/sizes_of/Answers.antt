use Rattle.std.proofs.Common.{sym, ap, ◌∙◌}
use Rattle.std.specs.Prelude.{Ok, None}
use Rattle.grgrid.specs.Grid.{size}
use Rattle.bzsearch.specs.SearchView.{search_view}
use Rattle.bzgrid.proofs.Outcome.{sized}
use Rattle.bzgrid.proofs.sizes_of.Goals as goal

pub returns : goal.returns
returns c =
    let a = c.args in
    ap Ok c.lengths_of.ensures
    ∙ sized a.t (search_view a.s) None 0 0 0 c.is_sparse-sparse.ensures (c.points-n.ensures ∙ ap size c.grid_of.ensures) (sym c.in_ok-m.ensures.ok_part ∙ c.walk_points.ensures.value)
