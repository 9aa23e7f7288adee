use native.Mathlib.Nat.{lt_trans}
use lib.Dec.{lit<}
use mir.Facts.{to_z_pos}
use mir.Syntax.{w64}
use Rattle.std.proofs.Common.{ℕ, ◌/◌, List, [], ◌∷◌, ℤ, sym, ◌∙◌, ap, length, arith, to_z}
use Rattle.std.proofs.lemmas.Result.{err_from_is_err_and}
use Rattle.common.specs.Matrix.{Vec}
use Rattle.common.specs.Array.{vector_of}
use Rattle.common.proofs.Bounds.{entry-within}
use Rattle.grgrid.specs.Sides.{sides}
use Rattle.common.proofs.Sized.{sized-items}
use Rattle.bztable.specs.declared.reading.Table.{Table}
use Rattle.bztable.specs.Reading.{Read, got}
use Rattle.bztable.specs.Neighbours.{neighbour, neighbour_at}
use Rattle.bztable.proofs.NeighbourRows.{rows-refused, rows-set, along}
use Rattle.bztable.proofs.neighbours.fill_row.Goals as goal

abbrev image_at : Table → Vec ℤ → Read ℕ
image_at t b = neighbour (sides t.g) t.addresses.now t.map.now b t.t

abbrev rows : Table → (offsets base : List ℤ) → ℕ → Read (List ℤ)
rows t offsets base = neighbour_at t.t (sides t.g) offsets t.addresses.now t.map.now (vector_of base)

pub moved-b-requires : goal.moved-b-requires
moved-b-requires c =
    let small = entry-within 1000 c.args.offsets.now c.requires.fact_1 in
    rw c.row_at.ensures (sized-items _ (small _) (small _) (small _))

pub returns-in_err-at : goal.returns-in_err-at
returns-in_err-at c =
    let t = c.args.table.now in
    let l = c.args.offsets.now in
    let p = err_from_is_err_and c.from_residual.result c.from_residual.ensures.1 in
    let e = along (image_at t) l c.args.base.v c.loop-j.j c.row_at.ensures c.moved-b.ensures c.in_err-at.ensures.value in
    rw (p.1, p.2) (rows-refused (rows t l c.args.base.v) c.loop-j.j (length l / 3) (omega (arith, c.requires.fact_2, c.loop-j-test.true)) c.loop-j.invariant e)

pub loop-j-preserved : goal.loop-j-preserved
loop-j-preserved c =
    let t = c.args.table.now in
    let l = c.args.offsets.now in
    let e = along (image_at t) l c.args.base.v c.loop-j.j c.row_at.ensures c.moved-b.ensures c.in_ok-at.ensures.value in
    let z = to_z_pos w64 (lt_trans c.in_ok-at.ensures.below (lit< tt)) in
    rows-set (rows t l c.args.base.v) c.loop-j.j c.loop-j.j c.loop-j.out c.loop-j.invariant (to_z w64 c.in_ok-at.field-0) (omega (arith, c.loop-j-test.true, c.loop-j.auto.out)) (e ∙ ap (λ z. got (z ∷ [])) (sym z))
