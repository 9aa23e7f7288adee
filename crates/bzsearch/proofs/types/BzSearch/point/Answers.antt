use Rattle.std.proofs.Common.{◌≡◌, length, ap, ◌∙◌, rules}
use Rattle.common.specs.Array.{vector_of, items}
use Rattle.grgrid.specs.Grid.{address}
use Rattle.bzsearch.specs.Search.{Split, split_reduced}
use Rattle.bzsearch.specs.SearchView.{search_view, split_view}
use Rattle.bzsearch.proofs.Coordinates.{point-address, point-nint-sized, point-index}
use Rattle.bzsearch.proofs.types.BzSearch.point.Goals as goal
use Rattle.bzsearch.proofs.types.BzSearch.point.Goals.{After-split_reduced_coordinates-s}

is : (c : After-split_reduced_coordinates-s) → c.grid_address_from_index-address.result.v ≡ items (address (search_view c.args.self).d c.args.i)
is c = c.grid_address_from_index-address.ensures ∙ ap (λ d. items (address d c.args.i)) c.grid_of-g.ensures

split : (c : After-split_reduced_coordinates-s) → split_view c.split_reduced_coordinates-s.result ≡ split_reduced (search_view c.args.self) (address (search_view c.args.self).d c.args.i)
split c = c.split_reduced_coordinates-s.ensures ∙ ap (λ l. split_reduced (search_view c.args.self) (vector_of l)) (is c)

pub invariant_of-result : goal.invariant_of-result
invariant_of-result c =
    let s = c.split_reduced_coordinates-s in
    let three : length s.result.nint ≡ 3 = search (rules, s.type_inv) in
    record { sized = point-nint-sized c.args.self c.args.i c.requires s.result.nint three (ap (λ (p : Split). p.nint) (split (goal.at.invariant_of-result c).After-split_reduced_coordinates-s)) }

pub invariant_of-result-2 : goal.invariant_of-result-2
invariant_of-result-2 c = record { sized = rw (is (goal.at.invariant_of-result-2 c).After-split_reduced_coordinates-s) (point-address c.args.self c.args.i c.requires) }

pub invariant_of-result-3 : goal.invariant_of-result-3
invariant_of-result-3 c = record { index_small = point-index c.args.self c.args.i c.requires }

pub returns-clause-result_value : goal.returns-clause-result_value
returns-clause-result_value c = split (goal.at.returns-clause-result_value c).After-split_reduced_coordinates-s
