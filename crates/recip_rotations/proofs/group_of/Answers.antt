use mathlib.Core.Path.{◌≡◌, sym, ◌∙◌, ap}
use lib.IntN.{negsuc}
use lib.ListN.{length, replicate}
use borrow.Author.Rules.{rules}
use Rattle.std.proofs.lemmas.Result.{err_from_is_err_and}
use Rattle.recip_rotations.proofs.Answered.{input-accepted, input-passed, input-refused}
use Rattle.recip_rotations.proofs.Sizes.{sized-group}
use Rattle.recip_rotations.proofs.Grouping.{counted-from, group-over, turned-laid, group-joined}
use Rattle.recip_rotations.proofs.group_of.Goals as goal

pub returns-in_err-input_tests : goal.returns-in_err-input_tests
returns-in_err-input_tests c =
    let a = c.args in
    let r = err_from_is_err_and c.from_residual.result c.from_residual.ensures.1 in
    rw (r.1, r.2) (input-refused a.rotations.now a.is_time_reversal a.is_transpose (length a.out.now) (sym c.in_err-input_tests.ensures))

pub returns-in_err-count : goal.returns-in_err-count
returns-in_err-count c =
    let a = c.args in
    let r = err_from_is_err_and c.from_residual-in_err-count.result c.from_residual-in_err-count.ensures.1 in
    let k = group-over a.rotations.now a.is_time_reversal a.is_transpose _ c.in_err-count.ensures in
    rw (r.1, r.2) (input-passed a.rotations.now a.is_time_reversal a.is_transpose (length a.out.now) (sym c.in_ok-input_tests.ensures) k)

pub join-requires-clause-sized : goal.join-requires-clause-sized
join-requires-clause-sized c =
    let a = c.args in
    let n = input-accepted a.rotations.now (length a.out.now) (sym c.in_ok-input_tests.ensures) in
    let k = counted-from (c.fill.ensures.after (λ y e. e)) c.in_ok-count.ensures in
    rw (turned-laid a.rotations.now a.is_time_reversal a.is_transpose _ k c.turn.ensures) (sized-group a.rotations.now n.2 a.is_transpose _)

pub unreachable-requires : goal.unreachable-requires
unreachable-requires c =
    let n = (input-accepted c.args.rotations.now (length c.args.out.now) (sym c.in_ok-input_tests.ensures)).0 in
    search rules

pub returns : goal.returns
returns c =
    let a = c.args in
    let n = (input-accepted a.rotations.now (length a.out.now) (sym c.in_ok-input_tests.ensures)).0 in
    let f : length c.in-Some.group.now ≡ length a.out.now = search rules in
    let k = counted-from (c.fill.ensures.after (λ y e. e) ∙ ap (λ n. replicate n (negsuc 0)) f) c.in_ok-count.ensures in
    let e = turned-laid a.rotations.now a.is_time_reversal a.is_transpose _ k c.turn.ensures in
    let g = group-joined a.rotations.now a.is_time_reversal a.is_transpose _ k e c.join.ensures in
    input-passed a.rotations.now a.is_time_reversal a.is_transpose (length a.out.now) (sym c.in_ok-input_tests.ensures) g
