use mathlib.Core.Path.{◌≡◌, sym, ◌∙◌, ap}
use mathlib.Core.List.{map}
use native.Mathlib.Omega.{arith}
use lib.IntN.{pos, nat_abs}
use lib.ListN.{length-map}
use mir.Syntax.{w64}
use mir.Facts.{to_z_pos}
use Rattle.grgrid.specs.Sides.{sides}
use Rattle.grgrid.proofs.Sizes.{grid-few}
use Rattle.triplet_grid.specs.IrTriplets.{map_triplets_of}
use Rattle.triplet_grid.proofs.Swapping.{plain, length-triplets, kept-triplets}
use Rattle.triplet_grid.proofs.number_triplets.Goals as goal
use Rattle.triplet_grid.proofs.number_triplets.Goals.{then-swappable, else-swappable}

pub returns : goal.returns
returns c =
    let s = c.args in
    let d = sides s.classes.now.q0.g in
    let l = map nat_abs s.classes.now.map_q.now in
    let w : c.if-swappable.map_triplets ≡ map pos (map_triplets_of s.swappable d s.classes.now.q0.p l) =
    elim c.if-swappable.branch [
      | then-swappable w ↦ w.map_triplets-is ∙ w.ir_triplets_at_q_perm_q1q2.ensures ∙ ap (λ t. map pos (map_triplets_of t d s.classes.now.q0.p l)) (sym w.if-swappable.true)
      | else-swappable w ↦
          w.map_triplets-is ∙ w.ir_triplets_at_q_noperm.ensures ∙ s.classes.now.numbered.natural ∙ ap (map pos) (sym (plain d s.classes.now.q0.p l (length-map s.classes.now.map_q.now nat_abs ∙ s.classes.now.places)))
          ∙ ap (λ t. map pos (map_triplets_of t d s.classes.now.q0.p l)) (sym w.if-swappable.false)
    ] in
    let few = grid-few s.classes.now.q0.g in
    let n = length-triplets s.swappable d s.classes.now.q0.p l w in
    let k = c.own_places.ensures in
    record { map_triplets_after = w; value = to_z_pos w64 (omega (arith, k.upper_bound)) ∙ ap pos (k.value ∙ kept-triplets s.swappable d s.classes.now.q0.p l w) }
