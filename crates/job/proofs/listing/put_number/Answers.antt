use mathlib.Core.Path.{◌≡◌, refl, sym, ◌∙◌, ap}
use mathlib.Core.List.{[], ◌∷◌}
use lib.IntN.{nat_abs}
use mir.Facts.{to_z-of_z}
use borrow.Author.Rules.{rules}
use Rattle.std.specs.Prelude.{Some, None}
use Rattle.decimal.specs.Decimal.{decimal}
use Rattle.job.specs.Writing.{page, puts}
use Rattle.decimal.proofs.Decimal.{below-zero}
use Rattle.job.proofs.Put.{stopped}
use Rattle.job.proofs.listing.put_number.Goals as goal

pub returns-in_err-m : goal.returns-in_err-m
returns-in_err-m c =
    let a = c.args in
    let p = page a.out.now (Some a.n) in
    let z = to_z-of_z c.ranges.z in
    let e : c.put.result ≡ None = search rules in
    let f : c.from_residual.result ≡ None = search rules in
    stopped p e f (45 ∷ []) (decimal (nat_abs a.z)) c.put.ensures ∙ ap (puts p) (sym (below-zero a.z (rw z at c.if-z-lt0.true) refl))
