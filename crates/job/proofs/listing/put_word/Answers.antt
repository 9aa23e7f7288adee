use mathlib.Core.Path.{◌≡◌}
use borrow.Author.Rules.{rules}
use Rattle.std.specs.Prelude.{Some, None}
use Rattle.job.specs.Writing.{page}
use Rattle.job.proofs.Put.{word-stopped}
use Rattle.job.proofs.listing.put_word.Goals as goal

pub returns-in_err-m : goal.returns-in_err-m
returns-in_err-m c =
    let a = c.args in
    let e : c.put.result ≡ None = search rules in
    let f : c.from_residual.result ≡ None = search rules in
    word-stopped (page a.out.now (Some a.n)) e f a.word.now c.loop-b.b-index (search rules) c.loop-b.invariant c.put.ensures
