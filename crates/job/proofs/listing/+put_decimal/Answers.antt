use mathlib.Core.List.{[], ◌∷◌}
use mathlib.Core.Path.{◌≡◌, sym, ◌∙◌, ap}
use Prim.Native.Nat.{◌+◌, ◌/◌, ◌%◌}
use borrow.Author.Rules.{rules}
use Rattle.std.specs.Prelude.{Some, None}
use Rattle.decimal.specs.Decimal.{decimal}
use Rattle.job.specs.Writing.{page, puts}
use Rattle.decimal.proofs.Decimal.{one-digit, last-digit}
use Rattle.job.proofs.Put.{puts_then, stopped}
use Rattle.job.proofs.listing.+put_decimal.Goals as goal

pub returns-then-u-lt10 : goal.returns-then-u-lt10
returns-then-u-lt10 t c =
    let a = c.args in
    c.put.ensures ∙ ap (puts (page a.out.now (Some a.n))) (sym (one-digit a.u (search rules)))

pub returns-in_err-m : goal.returns-in_err-m
returns-in_err-m t c =
    let a = c.args in
    let p = page a.out.now (Some a.n) in
    let e : c.put_decimal.result ≡ None = search rules in
    let f : c.from_residual.result ≡ None = search rules in
    stopped p e f (decimal (a.u / 10)) ((48 + a.u % 10) ∷ []) c.put_decimal.ensures ∙ ap (puts p) (sym (last-digit a.u (search rules)))

pub returns : goal.returns
returns t c =
    let a = c.args in
    let p = page a.out.now (Some a.n) in
    puts_then p (decimal (a.u / 10)) ((48 + a.u % 10) ∷ []) (ap (page c.put_decimal.new.out) (sym c.in_ok-m.was) ∙ c.put_decimal.ensures) c.put-2.ensures ∙ ap (puts p) (sym (last-digit a.u (search rules)))
