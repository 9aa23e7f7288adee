use mir.Facts.{to_z-of_z}
use Rattle.std.proofs.Common.{◌∙◌, ap}
use Rattle.common.specs.Array.{vector_of, matrix_of}
use Rattle.common.specs.Tested.{◌then◌}
use Rattle.grgrid.specs.Sides.{sides}
use Rattle.bztable.specs.Reading.{address_of}
use Rattle.bztable.specs.Rotate.{turned, image_of, rotated_at}
use Rattle.bztable.proofs.rotate.rotated_at.Goals as goal

pub returns : goal.returns
unfolding rotated_at
returns c =
    let s = c.args in
    let t = s.table.now in
    let e = c.in_ok-a.ensures ∙ ap (address_of t.addresses.now) (to_z-of_z c.ranges.bz_grid_index) in
    c.image_of.ensures
    ∙ ap (λ a. image_of t.t (sides t.g) t.addresses.now t.map.now (vector_of a)) c.turned.ensures
    ∙ ap (λ x. x then λ b. image_of t.t (sides t.g) t.addresses.now t.map.now (turned (matrix_of s.rotation.m) (vector_of s.ps.v) b)) e
