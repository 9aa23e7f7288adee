use borrow.Rule.Slice.PartMut.{post_of}
use Rattle.std.proofs.Common.{◌≡◌, ℕ, ◌+◌, ◌-◌, ◌*◌, ◌/◌, List, ℤ, pos, get_or, to_z, of_z, w64, sym, ◌∙◌, ap, length, rules, arith}
use Rattle.std.proofs.lemmas.Result.{err_from_is_err_and}
use Rattle.common.specs.Matrix.{Vec}
use Rattle.grgrid.specs.Sides.{sides}
use Rattle.bztable.specs.declared.reading.Table.{Table}
use Rattle.bztable.specs.Reading.{Read, address_of}
use Rattle.bztable.specs.Neighbours.{neighbours_from, all_neighbours}
use Rattle.bztable.proofs.NeighbourRows.{rows-refused, rows-put, rows_all, row_of, row_read, row_room}
use Rattle.bztable.proofs.neighbours.fill_rows.Goals as goal

abbrev from : Table → (offsets : List ℤ) → Vec ℤ → Read (List ℤ)
from t offsets = neighbours_from t.t (sides t.g) offsets t.addresses.now t.map.now

abbrev rows : Table → (offsets points : List ℤ) → ℕ → Read (List ℤ)
rows t offsets points = row_of (from t offsets) t.addresses.now points

pub returns-in_err-base : goal.returns-in_err-base
unfolding all_neighbours
returns-in_err-base c =
    let t = c.args.table.now in
    let o = c.args.offsets.now in
    let l = c.args.points.now in
    let same : to_z w64 (of_z w64 (get_or l c.loop-point.point-index (pos 0))) ≡ get_or l c.loop-point.point-index (pos 0) = search rules in
    let p = err_from_is_err_and c.from_residual.result c.from_residual.ensures.1 in
    let e = row_read (from t o) t.addresses.now l c.loop-point.point-index (c.in_err-base.ensures ∙ ap (address_of t.addresses.now) same) in
    rw (p.1, p.2) (rows-refused (rows t o l) c.loop-point.point-index (length l) c.loop-point-test.true c.loop-point.invariant.read e)

pub returns-in_err-fill_row : goal.returns-in_err-fill_row
unfolding all_neighbours
returns-in_err-fill_row c =
    let t = c.args.table.now in
    let o = c.args.offsets.now in
    let l = c.args.points.now in
    let same : to_z w64 (of_z w64 (get_or l c.loop-point.point-index (pos 0))) ≡ get_or l c.loop-point.point-index (pos 0) = search rules in
    let p = err_from_is_err_and c.from_residual-in_err-fill_row.result c.from_residual-in_err-fill_row.ensures.1 in
    let e = row_read (from t o) t.addresses.now l c.loop-point.point-index (c.in_ok-base.ensures ∙ ap (address_of t.addresses.now) same) in
    rw (p.1, p.2) (rows-refused (rows t o l) c.loop-point.point-index (length l) c.loop-point-test.true c.loop-point.invariant.read (e ∙ sym c.in_err-fill_row.ensures))

pub loop-point-preserved : goal.loop-point-preserved
loop-point-preserved c =
    let t = c.args.table.now in
    let o = c.args.offsets.now in
    let l = c.args.points.now in
    let i = c.loop-point.point-index in
    let n = length o / 3 in
    let same : to_z w64 (of_z w64 (get_or l i (pos 0))) ≡ get_or l i (pos 0) = search rules in
    let e = row_read (from t o) t.addresses.now l i (c.in_ok-base.ensures ∙ ap (address_of t.addresses.now) same) in
    let room = row_room i (length l) n c.loop-point-test.true in
    record {
      at_is = omega (arith, c.loop-point.invariant.at_is);
      read = rows-put (rows t o l) i c.loop-point.at c.loop-point.out c.loop-point.invariant.read c.fill_row.new.out (post_of c.loop-point.at (c.loop-point.at + n - c.loop-point.at) c.loop-point.out) n (omega (arith, room, c.loop-point.invariant.at_is, c.requires.fact_2, c.loop-point.auto.out)) (search rules) (e ∙ sym c.in_ok-fill_row.ensures);
    }

pub returns : goal.returns
unfolding all_neighbours
returns c =
    let t = c.args.table.now in
    let o = c.args.offsets.now in
    let l = c.args.points.now in
    let e : c.loop-point.point-index ≡ length l = omega (arith, c.loop-point-test.false, c.loop-point.auto.point-index-end) in
    rows_all (rows t o l) c.loop-point.point-index c.loop-point.at c.loop-point.out c.loop-point.invariant.read (length l)
    (omega (arith, c.loop-point.invariant.at_is, c.requires.fact_2, c.loop-point.auto.out, ap (λ i. i * (length o / 3)) e)) e
