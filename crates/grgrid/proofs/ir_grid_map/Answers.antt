use mathlib.Core.Path.{◌≡◌, sym, ◌∙◌, ap, ap₂}
use mathlib.Core.List.{map}
use lib.IntN.{pos}
use lib.ListN.{length}
use mir.Syntax.{w64}
use mir.Facts.{to_z_pos}
use Rattle.common.specs.Array.{vector_of, sides_of, matrices}
use Rattle.grgrid.specs.Grid.{size}
use Rattle.grgrid.specs.ClassMap.{class_map_of}
use Rattle.grgrid.specs.IrGridMap.{map_tests}
use Rattle.grgrid.proofs.Accepted.{map-accepted}
use Rattle.grgrid.proofs.Outcome.{mapped, map-refused}
use Rattle.grgrid.proofs.Numbers.{own-classes}
use borrow.Author.Rules.{rules}
use Rattle.grgrid.proofs.ir_grid_map.Goals as goal

pub grid_of-requires : goal.grid_of-requires
grid_of-requires c =
    let s = c in
    let tested : c.map_tests.result ≡ map_tests s.args.rotations.now s.args.d s.args.ps (length s.args.map.now) = search rules in
    (map-accepted s.args.rotations.now s.args.d s.args.ps (length s.args.map.now) (sym (tested) ∙ c.in-Ok.is)).grid

pub shift-requires : goal.shift-requires
shift-requires c =
    let s = c in
    let tested : c.map_tests.result ≡ map_tests s.args.rotations.now s.args.d s.args.ps (length s.args.map.now) = search rules in
    (map-accepted s.args.rotations.now s.args.d s.args.ps (length s.args.map.now) (sym (tested) ∙ c.in-Ok.is)).shift

pub invariant_of-list : goal.invariant_of-list
invariant_of-list c =
    let s = c in
    let tested : c.map_tests.result ≡ map_tests s.args.rotations.now s.args.d s.args.ps (length s.args.map.now) = search rules in
    record { within = (map-accepted s.args.rotations.now s.args.d s.args.ps (length s.args.map.now) (sym (tested) ∙ c.in-Ok.is)).entries }

pub number_points-requires : goal.number_points-requires
number_points-requires c =
    let s = c in
    let tested : c.map_tests.result ≡ map_tests s.args.rotations.now s.args.d s.args.ps (length s.args.map.now) = search rules in
    (map-accepted s.args.rotations.now s.args.d s.args.ps (length s.args.map.now) (sym (tested) ∙ c.in-Ok.is)).places ∙ ap size (sym c.grid_of.ensures)

pub returns-in-Ok : goal.returns-in-Ok
returns-in-Ok c =
    let s = c.args in
    let tested : c.map_tests.result ≡ map_tests s.rotations.now s.d s.ps (length s.map.now) = search rules in
    let w = c.number_points.ensures ∙ ap₂ (λ g ps. map pos (class_map_of g (vector_of ps) (matrices s.rotations.now))) c.grid_of.ensures c.shift.ensures in
    let k = to_z_pos w64 (search rules) ∙ ap pos (c.own_places-classes.ensures.value ∙ (own-classes (sides_of s.d) (vector_of s.ps) (matrices s.rotations.now) w).1) in
    mapped s.rotations.now s.d s.ps (length s.map.now) (sym tested ∙ c.in-Ok.is) k w

pub returns-in-Err : goal.returns-in-Err
returns-in-Err c =
    let s = c.args in
    let tested : c.map_tests.result ≡ map_tests s.rotations.now s.d s.ps (length s.map.now) = search rules in
    map-refused s.rotations.now s.d s.ps (length s.map.now) (sym tested ∙ c.in-Err.is) (c.fill.ensures.after (λ y k. k))
