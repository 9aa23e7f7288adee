use mathlib.Core.Path.{refl, ◌∙◌, ap}
use mathlib.Core.Bool.{not}
use Prim.Native.Nat.{◌/◌}
use native.Mathlib.Omega.{arith}
use lib.ListN.{length}
use borrow.Author.Rules.{rules}
use borrow.Author.Tests.{tests}
use Rattle.std.proofs.lemmas.Iterator.{YieldsList-from_range}
use Rattle.std.proofs.lemmas.Iterator.Search.{any_from_yields_List}
use Rattle.rotation_group.proofs.Walking.{again, any-repeats}
use Rattle.rotation_group.proofs.members.no_repeats.Goals as goal

pub returns : goal.returns
returns c =
    let l = c.args.rotations.list.now in
    let n = length l / 9 in
    ap not (any_from_yields_List (again l n) _ _ _ c.any.ensures.ran (YieldsList-from_range 0 c.count.result n refl (omega arith)) (λ x b q k. search (rules, tests)))
    ∙ any-repeats l n 0 n (omega arith)
