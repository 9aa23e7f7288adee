use mathlib.Core.Path.{refl, ◌∙◌, ap}
use Prim.Native.Nat.{◌+◌, ◌-◌, ◌/◌}
use lib.ListN.{length}
use borrow.Author.Rules.{rules}
use borrow.Author.Tests.{tests}
use Rattle.std.proofs.lemmas.Iterator.{YieldsList-from_range}
use Rattle.std.proofs.lemmas.Iterator.Search.{any_from_yields_List}
use Rattle.common.specs.Array.{matrix_at}
use Rattle.recip_rotations.specs.Unique.{same_matrix}
use Rattle.recip_rotations.proofs.Among.{any-among}
use Rattle.rotation_group.proofs.members.comes_again.Goals as goal

pub returns : goal.returns
returns c =
    let l = c.args.rotations.list.now in
    let n = c.args.n in
    let left = length l / 9 - (n + 1) in
    any_from_yields_List (λ k. same_matrix (matrix_at l n) (matrix_at l k)) _ _ _ c.any.ensures.ran (YieldsList-from_range (n + 1) c.count.result left refl (ap (λ k. k - (n + 1)) c.count.ensures)) (λ x b q k. search (rules, tests))
    ∙ any-among (matrix_at l n) l (n + 1) left
