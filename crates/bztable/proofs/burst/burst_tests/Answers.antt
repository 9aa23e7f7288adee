use Rattle.std.specs.Prelude.{Err}
use mathlib.Core.List.{map as map_list}
use Rattle.std.proofs.Common.{◌≡◌, sym, ◌∙◌, ap, length, rules}
use Rattle.common.specs.Array.{vector_of, matrix_of}
use Rattle.common.specs.Tested.{Accepted, ◌then◌}
use Rattle.grgrid.specs.Sides.{sides}
use Rattle.bzgrid.proofs.Outcome.{mesh-fits}
use Rattle.bztable.specs.Reading.{got, read_each}
use Rattle.bztable.specs.Rotate.{rotated_at}
use Rattle.bztable.specs.Burst.{place_told, fallback_told}
use Rattle.bztable.proofs.Turning.{rotate-accepted}
use Rattle.bztable.proofs.BurstCall.{each, each-by, walked, walk-answer, walk-output, lengths-differ, lengths-fit, told-if}
use Rattle.bztable.proofs.burst.burst_tests.Goals as goal
use Rattle.bztable.proofs.burst.burst_tests.Goals.{After-fill_rotated}

pub invariant_of-table : goal.invariant_of-table
invariant_of-table c =
    let s = c.args in
    record { fits = mesh-fits s.d (rotate-accepted s.rotation s.addresses.now s.d s.ps _ (sym c.in_ok-t.ensures)).grid c.grid_of.ensures }

pub invariant_of-rotation : goal.invariant_of-rotation
invariant_of-rotation c = let s = c.args in record { within = (rotate-accepted s.rotation s.addresses.now s.d s.ps _ (sym c.in_ok-t.ensures)).entries }

pub shift-requires : goal.shift-requires
shift-requires c = let s = c.args in (rotate-accepted s.rotation s.addresses.now s.d s.ps _ (sym c.in_ok-t.ensures)).shift

pub grid_of-requires : goal.grid_of-requires
grid_of-requires c = let s = c.args in (rotate-accepted s.rotation s.addresses.now s.d s.ps _ (sym c.in_ok-t.ensures)).grid

pub returns-then-out-indices-clause-value : goal.returns-then-out-indices-clause-value
returns-then-out-indices-clause-value c =
    let s = c.args in
    lengths-differ s.layout s.indices.now s.rotation s.addresses.now s.map.now s.d s.ps (length s.out.now) (length s.fallbacks.now) c.then-out-indices.either

pub returns-in_err-t-clause-value : goal.returns-in_err-t-clause-value
returns-in_err-t-clause-value c =
    let s = c.args in
    let e : c.from_residual.result ≡ Err c.in_err-t.field-0.0 = search rules in
    e
    ∙ ap (λ x. x then λ _. Accepted) (each-by s.layout s.indices.now s.rotation s.addresses.now s.map.now s.d s.ps c.in_err-t.ensures)
    ∙ lengths-fit s.layout s.indices.now s.rotation s.addresses.now s.map.now s.d s.ps (length s.out.now) (length s.fallbacks.now) c.if-out-indices.false c.if-fallbacks-indices.false

-- the walk read what the definition reads
read : (c : After-fill_rotated) → let s = c.args in
    (read_each (rotated_at c.in_ok-t.t (sides c.grid_of.result) s.addresses.now s.map.now (matrix_of s.rotation) (vector_of c.shift.result.v)) s.indices.now)
    ≡ each s.layout s.indices.now s.rotation s.addresses.now s.map.now s.d s.ps
read c = let s = c.args in walked s.layout s.indices.now s.rotation s.addresses.now s.map.now s.d s.ps c.in_ok-t.ensures c.grid_of.ensures c.shift.ensures

pub returns-clause-value : goal.returns-clause-value
returns-clause-value c =
    let s = c.args in
    let r = c.fill_rotated in
    let w = r.ensures.out_after ∙ ap (λ y. y then λ l. got (map_list place_told l)) (read (goal.at.returns-clause-value c).After-fill_rotated) in
    walk-answer s.layout s.indices.now s.rotation s.addresses.now s.map.now s.d s.ps place_told r.result r.new.out w
    ∙ lengths-fit s.layout s.indices.now s.rotation s.addresses.now s.map.now s.d s.ps (length s.out.now) (length s.fallbacks.now) c.if-out-indices.false c.if-fallbacks-indices.false

pub returns-clause-told : goal.returns-clause-told
returns-clause-told c =
    let s = c.args in
    let r = c.fill_rotated in
    let e = read (goal.at.returns-clause-told c).After-fill_rotated in
    let w = r.ensures.out_after ∙ ap (λ y. y then λ l. got (map_list place_told l)) e in
    let v = r.ensures.fallbacks_after ∙ ap (λ y. y then λ l. got (map_list fallback_told l)) e in
    told-if s.layout s.indices.now s.rotation s.addresses.now s.map.now s.d s.ps (length s.out.now) (length s.fallbacks.now) r.result
    (walk-answer s.layout s.indices.now s.rotation s.addresses.now s.map.now s.d s.ps place_told r.result r.new.out w
    ∙ lengths-fit s.layout s.indices.now s.rotation s.addresses.now s.map.now s.d s.ps (length s.out.now) (length s.fallbacks.now) c.if-out-indices.false c.if-fallbacks-indices.false)
    (walk-output s.layout s.indices.now s.rotation s.addresses.now s.map.now s.d s.ps place_told r.result r.new.out w)
    (walk-output s.layout s.indices.now s.rotation s.addresses.now s.map.now s.d s.ps fallback_told r.result r.new.fallbacks v)
