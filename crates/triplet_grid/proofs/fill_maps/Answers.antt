use mathlib.Core.Path.{◌≡◌, sym, ◌∙◌, ap, ap₂, subst}
use mathlib.Core.List.{map}
use Prim.Native.Nat.{◌<◌}
use native.Mathlib.Omega.{arith}
use lib.IntN.{pos, nat_abs}
use lib.ListN.{length}
use mir.Facts.{to_z-of_z}
use borrow.Author.Rules.{rules}
use Rattle.std.specs.Prelude.{Err}
use Rattle.integer.proofs.Fits.{held-is}
use Rattle.common.specs.Array.{sides_of, matrices}
use Rattle.grgrid.specs.Grid.{size}
use Rattle.grgrid.specs.Sides.{sides}
use Rattle.grgrid.specs.Own.{own_places}
use Rattle.grgrid.proofs.Numbers.{numbers_of}
use Rattle.grgrid.proofs.Sizes.{grid-few}
use Rattle.triplet_grid.specs.IrTriplets.{input_tests, classes_at, map_triplets_of}
use Rattle.triplet_grid.proofs.Swapping.{classes-numbered}
use Rattle.triplet_grid.proofs.Outcome.{call-accepted, input-refused, then-room, answer-refused, told}
use Rattle.triplet_grid.proofs.fill_maps.Goals as goal

pub returns-in_err-triplet_tests-clause-value : goal.returns-in_err-triplet_tests-clause-value
returns-in_err-triplet_tests-clause-value c =
    let s = c.args in
    let n = length s.map_triplets.now in
    let m = length s.map_q.now in
    let h : c.from_residual.result ≡ Err c.in_err-triplet_tests.field-0.0 = search rules in
    let e = sym (c.triplet_tests.ensures ∙ ap (λ q. input_tests q s.d s.rotations.now n m) (to_z-of_z c.ranges.q0)) ∙ c.in_err-triplet_tests.was in
    h ∙ answer-refused s.q0 s.d s.rotations.now s.is_time_reversal n m s.swappable (input-refused s.q0 s.d s.rotations.now s.is_time_reversal n m e)

pub grid_of-g-requires : goal.grid_of-g-requires
grid_of-g-requires c = (call-accepted c.triplet_tests.ensures (to_z-of_z c.ranges.q0) c.in_ok-triplet_tests.was).1.grid

pub overflow_cast-point : goal.overflow_cast-point
overflow_cast-point c =
    let a = (call-accepted c.triplet_tests.ensures (to_z-of_z c.ranges.q0) c.in_ok-triplet_tests.was).1 in
    let e = c.grid_of-g.ensures in
    let g = c.grid_of-g.result in
    rw (to_z-of_z c.ranges.q0) (a.sign, record { fits = omega (arith, a.point, ap size e, grid-few g) })

pub invariant_of-point : goal.invariant_of-point
invariant_of-point c =
    let a = (call-accepted c.triplet_tests.ensures (to_z-of_z c.ranges.q0) c.in_ok-triplet_tests.was).1 in
    record { inside = rw (to_z-of_z c.ranges.q0) (subst (λ d. nat_abs c.args.q0 < size d) (sym c.grid_of-g.ensures) a.point) }

pub classes_at-requires : goal.classes_at-requires
classes_at-requires c =
    let a = (call-accepted c.triplet_tests.ensures (to_z-of_z c.ranges.q0) c.in_ok-triplet_tests.was).1 in
    record { whole = a.whole; limits = a.fit; places = a.classes ∙ ap size (sym c.grid_of-g.ensures) }

pub returns-in_err-classes_at-clause-value : goal.returns-in_err-classes_at-clause-value
returns-in_err-classes_at-clause-value c =
    let s = c.args in
    let n = length s.map_triplets.now in
    let m = length s.map_q.now in
    let a = call-accepted c.triplet_tests.ensures (to_z-of_z c.ranges.q0) c.in_ok-triplet_tests.was in
    let h : c.from_residual-in_err-classes_at.result ≡ Err c.in_err-classes_at.field-0.0 = search rules in
    let e = sym c.in_err-classes_at.was ∙ c.classes_at.ensures.value ∙ then-room s.q0 s.d s.rotations.now s.is_time_reversal n m a.0 in
    h ∙ answer-refused s.q0 s.d s.rotations.now s.is_time_reversal n m s.swappable e

pub invariant_of-classes : goal.invariant_of-classes
invariant_of-classes c =
    let s = c.args in
    let a = (call-accepted c.triplet_tests.ensures (to_z-of_z c.ranges.q0) c.in_ok-triplet_tests.was).1 in
    let n : length s.map_q.now ≡ size (sides c.grid_of-g.result) = a.classes ∙ ap size (sym c.grid_of-g.ensures) in
    let q = c.classes_at.ensures.map_q_after c.in_ok-classes_at.was in
    record { places = search rules; numbered = classes-numbered _ (sides c.grid_of-g.result) (matrices s.rotations.now) s.is_time_reversal q }

pub number_triplets-requires : goal.number_triplets-requires
number_triplets-requires c =
    let a = (call-accepted c.triplet_tests.ensures (to_z-of_z c.ranges.q0) c.in_ok-triplet_tests.was).1 in
    a.triplets ∙ ap size (sym c.grid_of-g.ensures)

pub returns : goal.returns
returns c =
    let s = c.args in
    let n = length s.map_triplets.now in
    let m = length s.map_q.now in
    let ms = matrices s.rotations.now in
    let a = call-accepted c.triplet_tests.ensures (to_z-of_z c.ranges.q0) c.in_ok-triplet_tests.was in
    let q = ap nat_abs (to_z-of_z c.ranges.q0) in
    let d = c.grid_of-g.ensures in
    let e = sym c.in_ok-classes_at.was ∙ c.classes_at.ensures.value ∙ then-room s.q0 s.d s.rotations.now s.is_time_reversal n m a.0 in
    let k = c.classes_at.ensures.map_q_after c.in_ok-classes_at.was ∙ ap₂ (λ q d. map pos (classes_at q d ms s.is_time_reversal)) q d in
    let l = numbers_of (classes_at (nat_abs s.q0) (sides_of s.d) ms s.is_time_reversal) k in
    let t = c.number_triplets in
    let o = told s.q0 s.d s.rotations.now s.is_time_reversal n m s.swappable e
    (held-is _ t.type_inv ∙ t.ensures.value ∙ (λ i. pos (own_places (map pos (map_triplets_of s.swappable (d i) (q i) (l i))) (size (d i)))))
    (t.ensures.map_triplets_after ∙ (λ i. map pos (map_triplets_of s.swappable (d i) (q i) (l i)))) k in
    record { value = ap (λ o. o.answer) o; maps = o }
