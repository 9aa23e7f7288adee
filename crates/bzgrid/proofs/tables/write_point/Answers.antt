use Rattle.std.proofs.Common.{◌≡◌, ◌++◌, sym, ap, ◌∙◌}
use mathlib.Core.List.{foldl, append-nil}
use Rattle.std.specs.Prelude.{true, false}
use Rattle.common.specs.Array.{vector_of}
use Rattle.bzsearch.specs.Search.{box, range_fits}
use Rattle.bzsearch.specs.SearchView.{search_view, range_view, axes_view, rest_of}
use Rattle.bzsearch.proofs.Rows.{joined}
use Rattle.bzgrid.specs.Code.Writing.{Tables, tables, stored}
use Rattle.bzgrid.specs.Table.{images_at}
use Rattle.bzgrid.proofs.Kept.{keeping, none_kept, all-kept}
use Rattle.bzgrid.proofs.tables.write_point.Goals as goal
use Rattle.bzgrid.proofs.tables.write_point.Goals.{After-bound}

pub returns-then-not-range_fits-clause-next_after : goal.returns-then-not-range_fits-clause-next_after
returns-then-not-range_fits-clause-next_after c =
    let a = c.args in
    let p = c.point-p.ensures in
    none_kept (search_view a.bz) a.i (ap vector_of p.address_value) p.result_value c.search_range-r.ensures (sym c.range_fits.ensures ∙ c.if-not-range_fits.true)
    (tables a.addresses.now a.grg.now a.c.at a.c.next)

-- what the walk over all candidates leaves
all : (c : After-bound) {u : Tables}
    → let a = c.args in
    let b = c.boxes_of-b.result in
    let t = tables a.addresses.now a.grg.now a.c.at a.c.next in
    u ≡ foldl (keeping a.bz c.point-p.result c.bound.result) t (box false (axes_view b.first) ++ rest_of b.rest) → u ≡ stored t (images_at (search_view a.bz) a.i)
all c e =
    let a = c.args in
    let p = c.point-p.ensures in
    let t = tables a.addresses.now a.grg.now a.c.at a.c.next in
    let fits : range_fits (range_view c.search_range-r.result) ≡ true = sym c.range_fits.ensures ∙ c.if-not-range_fits.false in
    e ∙ all-kept (search_view a.bz) a.i (ap vector_of p.address_value) p.result_value c.search_range-r.ensures fits c.boxes_of-b.ensures.value c.bound.ensures p.index_value t

pub returns-in-None-clause-next_after : goal.returns-in-None-clause-next_after
returns-in-None-clause-next_after c =
    let a = c.args in
    let b = c.boxes_of-b.result in
    let first = box false (axes_view b.first) in
    all (goal.at.returns-in-None-clause-next_after c).After-bound
    (c.keep_box-t.ensures.next_after ∙ ap (foldl (keeping a.bz c.point-p.result c.bound.result) (tables a.addresses.now a.grg.now a.c.at a.c.next)) (sym (append-nil first) ∙ ap (λ r. first ++ rest_of r) (sym c.in-None.is)))

pub returns-in-Some-clause-next_after : goal.returns-in-Some-clause-next_after
returns-in-Some-clause-next_after c =
    let a = c.args in
    let b = c.boxes_of-b.result in
    let f = keeping a.bz c.point-p.result c.bound.result in
    let k = c.keep_box-t in
    all (goal.at.returns-in-Some-clause-next_after c).After-bound
    (joined f (tables a.addresses.now a.grg.now a.c.at a.c.next) (box false (axes_view b.first)) (rest_of b.rest) k.ensures.next_after
    (c.keep_box.ensures.next_after ∙ ap (λ r. foldl f (tables k.new.addresses k.new.grg k.result.at k.result.next) (rest_of r)) (sym c.in-Some.is)))
