use mathlib.Core.Path.{refl, ◌∙◌}
use Prim.Native.Nat.{◌/◌}
use native.Mathlib.Omega.{arith}
use lib.ListN.{length}
use borrow.Author.Rules.{rules}
use borrow.Author.Tests.{tests}
use Rattle.std.proofs.lemmas.Iterator.{YieldsList-from_range}
use Rattle.std.proofs.lemmas.Iterator.Search.{all_from_yields_List}
use Rattle.common.specs.Array.{matrix_at}
use Rattle.rotation_group.specs.Group.{is_unit}
use Rattle.rotation_group.proofs.Walking.{all-every}
use Rattle.rotation_group.proofs.members.units.Goals as goal

pub returns : goal.returns
returns c =
    let l = c.args.rotations.list.now in
    let n = length l / 9 in
    all_from_yields_List (λ k. is_unit (matrix_at l k)) _ _ _ c.all.ensures.ran (YieldsList-from_range 0 c.count.result n refl (omega arith)) (λ x b q k. search (rules, tests))
    ∙ all-every l is_unit 0 n
