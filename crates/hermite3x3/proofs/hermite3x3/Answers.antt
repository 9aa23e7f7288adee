use Rattle.std.proofs.Common.{◌≡◌, Ok, true, sym, subst, rules}
use Rattle.integer.proofs.Test.{holds}
use Rattle.common.specs.Array.{matrix_of}
use Rattle.common.specs.Limits.{matrix_within}
use Rattle.common.proofs.Bounds.{matrix-sizes}
use Rattle.common.proofs.Whole.{sized-det}
use Rattle.hermite3x3.specs.Hermite3x3.{hermite3x3, Promised}
use Rattle.hermite3x3.proofs.Forms.{hermite_promised}
use Rattle.hermite3x3.proofs.hermite3x3.Goals as goal

pub det_i-requires : goal.det_i-requires
det_i-requires c =
    let m = matrix_of c.args.a in
    let t : matrix_within 1000000 m ≡ true = search rules in
    sized-det m (matrix-sizes 1000000 m (holds t))

pub returns-clause-promised : goal.returns-clause-promised
unfolding hermite3x3
returns-clause-promised c =
    let m = matrix_of c.args.a in
    let v : Ok c.flat.result ≡ hermite3x3 m = search rules in
    subst (Promised m) (sym v) (hermite_promised m)
