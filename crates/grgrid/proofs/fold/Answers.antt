use Rattle.std.proofs.Common.{rules, ◌≡◌, ◌∙◌, pos, w64, to_z, of_z, int_lt}
use Rattle.grgrid.proofs.Folding.{near_cell-is}
use Rattle.grgrid.proofs.fold.Goals as goal

pub returns-then-rest-n-clause-cell_value : goal.returns-then-rest-n-clause-cell_value
returns-then-rest-n-clause-cell_value c =
    let a = c.args in
    let q : to_z w64 (of_z w64 c.near_cell.result) ≡ c.near_cell.result = search rules in
    q ∙ near_cell-is (int_lt a.a (pos 0)) a.a a.n {r = c.near_rest-rest.result} {q = c.near_cell.result} (search rules) (search rules) (search rules) (search rules)
