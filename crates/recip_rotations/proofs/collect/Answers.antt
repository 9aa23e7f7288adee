use Prim.Native.Nat.{◌+◌}
use borrow.Author.Rules.{rules}
use Rattle.std.proofs.lemmas.Result.{err_from_is_err_and}
use Rattle.recip_rotations.proofs.Counting.{counted, counted-more, counted-over}
use Rattle.recip_rotations.proofs.collect.Goals as goal

pub returns-in_err-found : goal.returns-in_err-found
returns-in_err-found c =
    let a = c.args in
    let l = c.loop-n in
    let r = err_from_is_err_and c.from_residual.result c.from_residual.ensures.1 in
    let k = counted-more a.rotations.now a.out.now l.n l.found l.invariant.1 l.invariant.2 c.in_err-found.ensures in
    rw (r.1, r.2) (counted-over a.rotations.now a.out.now (l.n + 1) (search rules) k)

pub loop-n-preserved : goal.loop-n-preserved
loop-n-preserved c =
    let a = c.args in
    let l = c.loop-n in
    let n = counted (counted-more a.rotations.now a.out.now l.n l.found l.invariant.1 l.invariant.2 c.in_ok-found.ensures) in
    (n.1, n.0, n.2)
