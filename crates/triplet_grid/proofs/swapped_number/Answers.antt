use mathlib.Core.Path.{◌∙◌, ap, ap₂}
use lib.IntN.{pos}
use lib.ListN.{get_or}
use mir.Syntax.{w64}
use mir.Facts.{to_z_pos}
use borrow.Author.Rules.{rules}
use Rattle.std.specs.Int.{int_min}
use Rattle.integer.proofs.Fits.{held-is}
use Rattle.common.specs.Array.{vector_of, items}
use Rattle.grgrid.specs.Grid.{index, address}
use Rattle.grgrid.specs.Sides.{sides}
use Rattle.grgrid.proofs.Numbers.{numbered-at}
use Rattle.triplet_grid.specs.Partner.{third}
use Rattle.triplet_grid.proofs.Swapping.{lower-is}
use Rattle.triplet_grid.proofs.swapped_number.Goals as goal

pub returns : goal.returns
returns c =
    let s = c.args in
    let d = sides s.classes.now.q0.g in
    let a = c.third.ensures ∙ ap (λ a. items (third (vector_of s.address0.v) (vector_of a))) c.grid_address_from_index-address1.ensures in
    let found =
    ap (λ i. get_or s.classes.now.map_q.now i (pos 0)) (c.fold_address-q2.ensures.value ∙ ap (λ l. index d (vector_of l)) a)
    ∙ numbered-at s.classes.now.numbered (index d (third (vector_of s.address0.v) (address d s.q1))) in
    held-is _ c.min.type_inv ∙ c.min.ensures.value
    ∙ ap₂ int_min (held-is _ (search rules) ∙ found) (to_z_pos w64 {n = s.q1} (search rules))
    ∙ lower-is _ s.q1
