use Rattle.std.proofs.Common.{◌≡◌, length, sym, ap, ◌∙◌, rules, arith}
use Rattle.common.specs.Array.{items, vector_of}
use Rattle.bzgrid.specs.Code.Writing.{put_at}
use Rattle.bzgrid.proofs.Runs.{put-out, pasted, three-items}
use Rattle.bzgrid.proofs.tables.put_address.Goals as goal

pub returns-then-at-out : goal.returns-then-at-out
returns-then-at-out c =
    let a = c.args in
    let three : length a.a ≡ 3 = search rules in
    rw (c.copy_from_slice.ensures.after) (pasted a.at a.out.now a.a three (omega (arith, c.if-at-out.true)) ∙ ap (put_at 3 a.out.now a.at) (sym (three-items a.a three)))

pub returns-else-at-out : goal.returns-else-at-out
returns-else-at-out c = let a = c.args in sym (put-out 3 a.at a.out.now (items (vector_of a.a)) (omega (arith, c.if-at-out.false)))
