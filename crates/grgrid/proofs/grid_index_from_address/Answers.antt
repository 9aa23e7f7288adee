use mathlib.Core.Path.{◌∙◌, ap}
use lib.Dec.{T}
use borrow.Author.Rules.{rules}
use Rattle.common.specs.Array.{vector_of, sides_of, items}
use Rattle.common.specs.Limits.{diagonal_fits}
use Rattle.grgrid.specs.Grid.{index, cell}
use Rattle.grgrid.proofs.Accepted.{grid-fits}
use Rattle.grgrid.proofs.Folding.{exact-told}
use Rattle.grgrid.proofs.grid_index_from_address.Goals as goal

pub returns-clause-exact : goal.returns-clause-exact
returns-clause-exact c =
    let t : T (diagonal_fits c.args.d) = search rules in
    let f = c.fold_address.ensures in
    exact-told (sides_of c.args.d) (record { positive = (grid-fits c.args.d t).positive }) (vector_of c.args.address)
    (f.value ∙ ap (λ d. index d (vector_of c.args.address)) c.grid_of.ensures)
    (f.cell_value ∙ ap (λ d. items (cell d (vector_of c.args.address))) c.grid_of.ensures)
