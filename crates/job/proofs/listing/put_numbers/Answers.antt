use mathlib.Core.Path.{◌≡◌, sym, ◌∙◌, ap}
use mathlib.Core.List.{[], ◌∷◌}
use lib.IntN.{pos}
use lib.ListN.{length, get_or}
use borrow.Author.Rules.{rules}
use Rattle.std.specs.Prelude.{Some, None}
use Rattle.decimal.specs.Decimal.{signed_decimal}
use Rattle.job.specs.Listing.{spaced}
use Rattle.job.specs.Writing.{page}
use Rattle.job.proofs.Put.{puts_then, stopped, rows-stopped}
use Rattle.job.proofs.listing.put_numbers.Goals as goal

pub returns-in_err-m : goal.returns-in_err-m
returns-in_err-m c =
    let a = c.args in
    let l = c.loop-z in
    let z = get_or a.list.now l.z-index (pos 0) in
    let e : c.put.result ≡ None = search rules in
    let f : c.from_residual.result ≡ None = search rules in
    rows-stopped (page a.out.now (Some a.n)) f f (spaced a.list.now) l.z-index (length a.list.now) (search rules) l.invariant
    (stopped (page l.out (Some l.m)) e f (32 ∷ []) (signed_decimal z) c.put.ensures)

pub returns-in_err-m-2 : goal.returns-in_err-m-2
returns-in_err-m-2 c =
    let a = c.args in
    let l = c.loop-z in
    let z = get_or a.list.now l.z-index (pos 0) in
    let e : c.put_number.result ≡ None = search rules in
    let f : c.from_residual-in_err-m-2.result ≡ None = search rules in
    rows-stopped (page a.out.now (Some a.n)) e f (spaced a.list.now) l.z-index (length a.list.now) (search rules) l.invariant
    (puts_then (page l.out (Some l.m)) (32 ∷ []) (signed_decimal z) (ap (page c.put.new.out) (sym c.in_ok-m.was) ∙ c.put.ensures) (search rules))
