use mathlib.Core.Path.{◌≡◌, sym, ◌∙◌, ap}
use mathlib.Core.List.{[], ◌∷◌, ◌++◌}
use lib.ListN.{length}
use borrow.Author.Rules.{rules}
use Rattle.std.specs.Prelude.{Some, None}
use Rattle.grgrid.specs.Build.{concat}
use Rattle.job.specs.Listing.{spaced, line}
use Rattle.job.specs.Writing.{page}
use Rattle.job.proofs.Put.{puts_then, stopped}
use Rattle.job.proofs.listing.put_line.Goals as goal

pub returns-in_err-n : goal.returns-in_err-n
unfolding line
returns-in_err-n c =
    let a = c.args in
    let e : c.put_word.result ≡ None = search rules in
    let f : c.from_residual.result ≡ None = search rules in
    stopped (page a.out.now (Some a.n)) e f a.word.now (concat (spaced a.list.now) (length a.list.now) ++ (10 ∷ [])) c.put_word.ensures

pub returns-in_err-n-2 : goal.returns-in_err-n-2
unfolding line
returns-in_err-n-2 c =
    let a = c.args in
    let numbers = concat (spaced a.list.now) (length a.list.now) in
    let e : c.put_numbers.result ≡ None = search rules in
    let f : c.from_residual-in_err-n-2.result ≡ None = search rules in
    puts_then (page a.out.now (Some a.n)) a.word.now (numbers ++ (10 ∷ [])) (ap (page c.put_word.new.out) (sym c.in_ok-n.was) ∙ c.put_word.ensures)
    (stopped (page c.put_word.new.out (Some c.in_ok-n.n)) e f numbers (10 ∷ []) c.put_numbers.ensures)

pub returns : goal.returns
unfolding line
returns c =
    let a = c.args in
    let numbers = concat (spaced a.list.now) (length a.list.now) in
    puts_then (page a.out.now (Some a.n)) a.word.now (numbers ++ (10 ∷ [])) (ap (page c.put_word.new.out) (sym c.in_ok-n.was) ∙ c.put_word.ensures)
    (puts_then (page c.put_word.new.out (Some c.in_ok-n.n)) numbers (10 ∷ []) (ap (page c.put_numbers.new.out) (sym c.in_ok-n-2.was) ∙ c.put_numbers.ensures) c.put.ensures)
