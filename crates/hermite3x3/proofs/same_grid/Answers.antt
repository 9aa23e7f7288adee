use Rattle.std.proofs.Common.{◌≡◌, Ok, sym, subst, rules}
use Rattle.common.specs.Array.{matrix_of}
use Rattle.hermite3x3.specs.SameGrid.{same_grid, Says}
use Rattle.hermite3x3.proofs.Forms.{same_grid_says}
use Rattle.hermite3x3.proofs.same_grid.Goals as goal

pub returns-clause-says : goal.returns-clause-says
returns-clause-says c =
    let A = matrix_of c.args.a in
    let B = matrix_of c.args.b in
    let v : Ok c.is_eq.result ≡ same_grid A B = search rules in
    subst (Says A B) (sym v) (same_grid_says A B)
