use mathlib.Core.Path.{sym, ◌∙◌, ap}
use lib.IntN.{negsuc}
use lib.ListN.{length, replicate}
use mir.Facts.{to_z-of_z}
use borrow.Author.Rules.{rules}
use Rattle.triplet_grid.specs.IrTriplets.{ir_triplets_at_q}
use Rattle.triplet_grid.proofs.Outcome.{told-refused}
use Rattle.triplet_grid.proofs.ir_triplets_at_q.Goals as goal

pub returns-then-is_err : goal.returns-then-is_err
returns-then-is_err c =
    let s = c.args in
    told-refused s.q0 s.d s.rotations.now s.is_time_reversal (length s.map_triplets.now) (length s.map_q.now) s.swappable (sym c.is_err.ensures.value ∙ c.if-is_err.true)
    (c.fill_maps-answer.ensures.value ∙ ap (λ q. (ir_triplets_at_q q s.d s.rotations.now s.is_time_reversal s.swappable (length s.map_triplets.now) (length s.map_q.now)).answer) (to_z-of_z c.ranges.q0))
    (c.fill.ensures.after (λ y k. k) ∙ ap (λ n. replicate n (negsuc 0)) (search rules)) (c.fill-then-is_err.ensures.after (λ y k. k) ∙ ap (λ n. replicate n (negsuc 0)) (search rules))
