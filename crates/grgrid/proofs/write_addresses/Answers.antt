use mathlib.Core.Path.{sym, ◌∙◌, ap}
use Prim.Native.Nat.{◌+◌}
use borrow.Author.Rules.{rules}
use Rattle.grgrid.specs.Grid.{digits}
use Rattle.grgrid.specs.Sides.{sides, remainders}
use Rattle.grgrid.proofs.Folding.{digits-place}
use Rattle.grgrid.proofs.Walk.{listed_more}
use Rattle.grgrid.proofs.write_addresses.Goals as goal

pub loop-p-preserved : goal.loop-p-preserved
loop-p-preserved c =
    let l = c.loop-p in
    let d = sides c.args.g in
    let i = l.invariant in
    let r = remainders l.r in
    let e = sym (digits-place d r i.0 i.1) ∙ ap (digits d) i.2 in (
      search rules,
      search rules,
      c.next-r.ensures.2 ∙ ap (λ n. n + 1) i.2,
      listed_more d l.p c.args.out.now l.out r i.3 (search rules) e (search rules) (search rules) (search rules),
    )
