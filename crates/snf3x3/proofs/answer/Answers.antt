use Rattle.std.proofs.Common.{◌≡◌, [], ◌∷◌, Ok, pos, get_or, w64, rules, arith}
use mir.Facts.{to_z_pos}
use Rattle.integer.proofs.Fits.{held}
use Rattle.common.specs.Matrix.{entries, transpose}
use Rattle.common.specs.Array.{matrix_of}
use Rattle.snf3x3.proofs.answer.Goals as goal

pub returns : goal.returns
returns c =
    let a = c.args.s.a in
    let x : held (get_or (get_or a 0 []) 0 (pos 0)) ≡ get_or (get_or a 0 []) 0 (pos 0) = search rules in
    let y : held (get_or (get_or a 1 []) 1 (pos 0)) ≡ get_or (get_or a 1 []) 1 (pos 0) = search rules in
    let z : held (get_or (get_or a 2 []) 2 (pos 0)) ≡ get_or (get_or a 2 []) 2 (pos 0) = search rules in
    let n = to_z_pos w64 {n = c.args.n} (omega (arith, c.requires)) in
    let q : c.flat-q.result ≡ entries (transpose (matrix_of c.args.s.q)) [] = search rules in
    (λ i. Ok (record { d_diag = x i ∷ y i ∷ z i ∷ []; p = c.flat-p.ensures i; q = q i; rounds = n i }))
