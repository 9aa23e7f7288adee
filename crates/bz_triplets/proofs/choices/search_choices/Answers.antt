use Rattle.std.proofs.Common.{ℕ, sym, ◌∙◌, rules}
use Rattle.std.proofs.lemmas.Result.{err_from_is_err_and}
use Rattle.common.specs.Matrix.{Vec}
use Rattle.bztable.specs.declared.reading.Table.{Table}
use Rattle.bztable.specs.Reading.{Read, got}
use Rattle.bz_triplets.specs.declared.choices.Measure.{Measure}
use Rattle.bztable.specs.declared.place.Places.{Places}
use Rattle.bz_triplets.specs.Choosing.{start}
use Rattle.bz_triplets.specs.BzTriplets.{State, try_at}
use Rattle.bztable.specs.Access.{place_in}
use Rattle.bztable.specs.Code.PlacesView.{places_in}
use Rattle.bz_triplets.specs.Code.TripletsView.{state_of, walk_by}
use Rattle.bz_triplets.proofs.Walking.{ended, inner, middle, outer, inner-stays, middle-stays, outer-stays, none-first, none-second, none-third, closed-stays, refusal-stays, reached-end, reached-next}
use Rattle.bz_triplets.proofs.choices.search_choices.Goals as goal
use Rattle.bz_triplets.proofs.choices.search_choices.Goals.{then-q0-eq0-via-then-q0-eq0, then-q0-eq0-via-else-q0-eq0+then-q1-eq0, then-q0-eq0-via-else-q0-eq0+else-q1-eq0+then-q2-eq0}

abbrev try : Measure → Table → Read State → Vec ℕ → Read State
try m t = try_at (walk_by m t.addresses.now)

-- place k of the images
abbrev place : Places → ℕ → ℕ
place r = place_in r.first.at r.others

pub returns-then-q0-eq0 : goal.returns-then-q0-eq0
returns-then-q0-eq0 c =
    let s = c.args in
    let f = try s.m s.table.now in
    elim c.then-q0-eq0.branch [
      | then-q0-eq0-via-then-q0-eq0 w ↦ none-first f (place s.q0) (place s.q1) (place s.q2) s.q0.count s.q1.count s.q2.count (got start) w.if-q0-eq0.true
      | then-q0-eq0-via-else-q0-eq0+then-q1-eq0 w ↦ none-second f (place s.q0) (place s.q1) (place s.q2) s.q0.count s.q1.count s.q2.count (got start) w.if-q1-eq0.true
      | then-q0-eq0-via-else-q0-eq0+else-q1-eq0+then-q2-eq0 w ↦ none-third f (place s.q0) (place s.q1) (place s.q2) s.q0.count s.q1.count s.q2.count (got start) w.if-q2-eq0.true
    ]

-- ---- a choice that ends the walk is what all three walks come to
pub returns-in_err-found : goal.returns-in_err-found
returns-in_err-found c =
    let s = c.args in
    let f = try s.m s.table.now in
    let p = err_from_is_err_and c.from_residual.result c.from_residual.ensures.1 in
    let keeps = refusal-stays (walk_by s.m s.table.now.addresses.now) c.in_err-found.field-0.0 in
    let x = c.place_in-x.result.at in
    let y = c.place_in-y.result.at in
    let e = ended (inner f x y) (place s.q2) (got (state_of c.loop-j.found)) c.loop-k.k c.in_err-found.ensures c.loop-k.invariant.is c.place_in.ensures s.q2.count c.loop-k-test.true (inner-stays f keeps x y) in
    let g = ended (middle f (places_in s.q2) x) (place s.q1) (got (state_of c.loop-i.found)) c.loop-j.j e c.loop-j.invariant.is c.place_in-y.ensures s.q1.count c.loop-j-test.true (middle-stays f keeps (places_in s.q2) x) in
    rw (p.1, p.2) (ended (outer f (places_in s.q1) (places_in s.q2)) (place s.q0) (got start) c.loop-i.i g c.loop-i.invariant.is c.place_in-x.ensures s.q0.count c.loop-i-test.true (outer-stays f keeps (places_in s.q1) (places_in s.q2)))

pub returns-then-is_closed : goal.returns-then-is_closed
returns-then-is_closed c =
    let s = c.args in
    let f = try s.m s.table.now in
    let keeps = closed-stays (walk_by s.m s.table.now.addresses.now) c.in_ok-found.found (sym c.is_closed.ensures ∙ c.if-is_closed.true) in
    let x = c.place_in-x.result.at in
    let y = c.place_in-y.result.at in
    let e = ended (inner f x y) (place s.q2) (got (state_of c.loop-j.found)) c.loop-k.k c.in_ok-found.ensures c.loop-k.invariant.is c.place_in.ensures s.q2.count c.loop-k-test.true (inner-stays f keeps x y) in
    let g = ended (middle f (places_in s.q2) x) (place s.q1) (got (state_of c.loop-i.found)) c.loop-j.j e c.loop-j.invariant.is c.place_in-y.ensures s.q1.count c.loop-j-test.true (middle-stays f keeps (places_in s.q2) x) in
    ended (outer f (places_in s.q1) (places_in s.q2)) (place s.q0) (got start) c.loop-i.i g c.loop-i.invariant.is c.place_in-x.ensures s.q0.count c.loop-i-test.true (outer-stays f keeps (places_in s.q1) (places_in s.q2))

-- ---- else each walk goes on
pub loop-k-preserved : goal.loop-k-preserved
loop-k-preserved c =
    let s = c.args in
    reached-next (inner (try s.m s.table.now) c.place_in-x.result.at c.place_in-y.result.at) (place s.q2) (got (state_of c.loop-j.found)) c.loop-k.k c.loop-k.invariant.is c.place_in.ensures
    (record { on = sym c.is_closed.ensures ∙ c.if-is_closed.false; is = c.in_ok-found.ensures })

pub loop-j-preserved : goal.loop-j-preserved
loop-j-preserved c =
    let s = c.args in
    let f = try s.m s.table.now in
    let v = reached-end (inner f c.place_in-x.result.at c.place_in-y.result.at) (place s.q2) (got (state_of c.loop-j.found)) {k = c.loop-k.k} {n = s.q2.count} c.loop-k.invariant (search rules) (search rules) in
    reached-next (middle f (places_in s.q2) c.place_in-x.result.at) (place s.q1) (got (state_of c.loop-i.found)) c.loop-j.j c.loop-j.invariant.is c.place_in-y.ensures v

pub loop-i-preserved : goal.loop-i-preserved
loop-i-preserved c =
    let s = c.args in
    let f = try s.m s.table.now in
    let v = reached-end (middle f (places_in s.q2) c.place_in-x.result.at) (place s.q1) (got (state_of c.loop-i.found)) {k = c.loop-j.j} {n = s.q1.count} c.loop-j.invariant (search rules) (search rules) in
    reached-next (outer f (places_in s.q1) (places_in s.q2)) (place s.q0) (got start) c.loop-i.i c.loop-i.invariant.is c.place_in-x.ensures v
