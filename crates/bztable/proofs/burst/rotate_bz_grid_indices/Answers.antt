use mir.Facts.{to_z-of_z}
use Rattle.std.proofs.Common.{length, ◌∙◌, ap}
use Rattle.bztable.specs.Agreement.{agrees, layout_where}
use Rattle.bztable.specs.Burst.{burst_in, rotate_bz_grid_indices}
use Rattle.bztable.proofs.burst.rotate_bz_grid_indices.Goals as goal

pub returns : goal.returns
unfolding rotate_bz_grid_indices
returns c =
    let s = c.args in
    let t = to_z-of_z c.ranges.bz_grid_type in
    let layout = c.layout_where-layout.ensures ∙ (λ i. layout_where ((c.agrees-agreed.ensures ∙ ap (agrees s.table s.d s.ps) t) i) (t i)) in
    c.burst_in.ensures ∙ ap (λ k. burst_in k s.indices.now s.rotation s.addresses.now s.map.now s.d s.ps (length s.out.now) (length s.fallbacks.now)) layout
