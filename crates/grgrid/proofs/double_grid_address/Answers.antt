use mathlib.Core.Path.{◌≡◌}
use mathlib.Core.List.{[], ◌∷◌}
use mir.Syntax.{w64}
use Rattle.std.proofs.Common.{to_z, of_z}
use borrow.Author.Rules.{rules}
use Rattle.common.specs.Array.{vector_of, items}
use Rattle.grgrid.specs.Grid.{double}
use Rattle.grgrid.proofs.Sizes.{double-sized}
use Rattle.grgrid.proofs.double_grid_address.Goals as goal

pub invariant_of-result : goal.invariant_of-result
invariant_of-result c =
    let s = c.args in
    let e : to_z w64 (of_z w64 c.doubled.result) ∷ to_z w64 (of_z w64 c.doubled-2.result) ∷ to_z w64 (of_z w64 c.doubled-3.result) ∷ [] ≡ items (double (vector_of s.address.v) (vector_of s.ps.v)) = search rules in
    record { sized = rw e (double-sized s.address.sized s.ps.sized) }
