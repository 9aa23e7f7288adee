use Rattle.std.proofs.Common.{rules}
use Rattle.common.specs.Matrix.{X, Y, Z}
use Rattle.common.specs.Array.{matrix_or}
use Rattle.common.proofs.Whole.{each-dot}
use Rattle.common.proofs.algebra.matmul.Goals as goal

pub dot-requires : goal.dot-requires
dot-requires g c =
    let e = g.N.Entry in
    (search rules, rw c.transpose.ensures (each-dot e.ops e.fits (matrix_or e.none c.args.a) (matrix_or e.none c.args.b) c.requires X X))

pub dot-requires-3 : goal.dot-requires-3
dot-requires-3 g c =
    let e = g.N.Entry in
    (search rules, rw c.transpose.ensures (each-dot e.ops e.fits (matrix_or e.none c.args.a) (matrix_or e.none c.args.b) c.requires X Z))

pub dot-requires-4 : goal.dot-requires-4
dot-requires-4 g c =
    let e = g.N.Entry in
    (search rules, rw c.transpose.ensures (each-dot e.ops e.fits (matrix_or e.none c.args.a) (matrix_or e.none c.args.b) c.requires Y X))

pub dot-requires-5 : goal.dot-requires-5
dot-requires-5 g c =
    let e = g.N.Entry in
    (search rules, rw c.transpose.ensures (each-dot e.ops e.fits (matrix_or e.none c.args.a) (matrix_or e.none c.args.b) c.requires Y Y))

pub dot-requires-6 : goal.dot-requires-6
dot-requires-6 g c =
    let e = g.N.Entry in
    (search rules, rw c.transpose.ensures (each-dot e.ops e.fits (matrix_or e.none c.args.a) (matrix_or e.none c.args.b) c.requires Y Z))

pub dot-requires-7 : goal.dot-requires-7
dot-requires-7 g c =
    let e = g.N.Entry in
    (search rules, rw c.transpose.ensures (each-dot e.ops e.fits (matrix_or e.none c.args.a) (matrix_or e.none c.args.b) c.requires Z X))

pub dot-requires-8 : goal.dot-requires-8
dot-requires-8 g c =
    let e = g.N.Entry in
    (search rules, rw c.transpose.ensures (each-dot e.ops e.fits (matrix_or e.none c.args.a) (matrix_or e.none c.args.b) c.requires Z Y))

pub dot-requires-9 : goal.dot-requires-9
dot-requires-9 g c =
    let e = g.N.Entry in
    (search rules, rw c.transpose.ensures (each-dot e.ops e.fits (matrix_or e.none c.args.a) (matrix_or e.none c.args.b) c.requires Z Z))
