use Rattle.std.proofs.Common.{rules, arith, ◌≡◌, ◌≤◌, ◌-◌, ◌*◌, ◌/◌, length, take, ◌∙◌, ap}
use Rattle.bzgrid.specs.Code.Writing.{with_mesh}
use Rattle.bzgrid.proofs.Mapped.{mesh-front}
use Rattle.bzgrid.specs.Table.{doubled}
use Rattle.grgrid.specs.Sides.{sides}
use Rattle.bzgrid.proofs.finish.Goals as goal

pub returns-clause-map_after : goal.returns-clause-map_after
returns-clause-map_after c =
    let a = c.args in
    let l = a.addresses.now in
    let e = ap (λ l. l.addresses) c.lengths_of-l.ensures in
    let cut : c.lengths_of-l.result.addresses - 0 ≡ 3 * a.m = omega (arith, e) in
    let room : c.lengths_of-l.result.addresses ≤ length l = search rules in
    c.add_mesh.ensures
    ∙ (λ i. with_mesh a.sparse (c.doubled.ensures i) (take (cut i) l) (length (take (cut i) l) / 3) a.map.now)
    ∙ mesh-front a.sparse (doubled (sides a.g)) l a.map.now a.m (omega (arith, e, room))
