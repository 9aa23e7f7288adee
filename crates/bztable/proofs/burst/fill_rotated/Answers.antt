use Rattle.std.proofs.Common.{◌≡◌, ℤ, pos, get_or, to_z, of_z, w64, sym, ◌∙◌, ap, rules, arith}
use Rattle.std.proofs.lemmas.Result.{err_from_is_err_and}
use Rattle.common.specs.Array.{vector_of, matrix_of}
use Rattle.common.specs.Matrix.{Vec, Mat}
use Rattle.grgrid.specs.Sides.{sides}
use Rattle.bztable.specs.declared.reading.Table.{Table}
use Rattle.bztable.specs.declared.rotate.Rotated.{Rotated}
use Rattle.bztable.specs.Reading.{Read}
use Rattle.bztable.specs.Rotate.{rotated_at}
use Rattle.bztable.specs.Burst.{place_told, fallback_told}
use Rattle.bztable.proofs.BurstCall.{filled-more, filled-refused, filled-out, filled-back}
use Rattle.bztable.proofs.burst.fill_rotated.Goals as goal

abbrev reads : Table → Mat ℤ → Vec ℤ → ℤ → Read Rotated
reads t m ps = rotated_at t.t (sides t.g) t.addresses.now t.map.now m ps

pub returns-in_err-r-clause-out_after : goal.returns-in_err-r-clause-out_after
returns-in_err-r-clause-out_after c =
    let s = c.args in
    let l = s.indices.now in
    let same : to_z w64 (of_z w64 (get_or l c.loop-i.i (pos 0))) ≡ get_or l c.loop-i.i (pos 0) = search rules in
    let f = reads s.table.now (matrix_of s.rotation.m) (vector_of s.ps.v) in
    let p = err_from_is_err_and c.from_residual.result c.from_residual.ensures.1 in
    rw (p.1, p.2) (filled-refused f l c.loop-i.invariant (pos 0) c.loop-i-test.true (sym (c.in_err-r.ensures ∙ ap f same)) place_told)

pub returns-in_err-r-clause-fallbacks_after : goal.returns-in_err-r-clause-fallbacks_after
returns-in_err-r-clause-fallbacks_after c =
    let s = c.args in
    let l = s.indices.now in
    let same : to_z w64 (of_z w64 (get_or l c.loop-i.i (pos 0))) ≡ get_or l c.loop-i.i (pos 0) = search rules in
    let f = reads s.table.now (matrix_of s.rotation.m) (vector_of s.ps.v) in
    let p = err_from_is_err_and c.from_residual.result c.from_residual.ensures.1 in
    rw (p.1, p.2) (filled-refused f l c.loop-i.invariant (pos 0) c.loop-i-test.true (sym (c.in_err-r.ensures ∙ ap f same)) fallback_told)

pub loop-i-preserved : goal.loop-i-preserved
loop-i-preserved c =
    let s = c.args in
    let l = s.indices.now in
    let i = c.loop-i.i in
    let same : to_z w64 (of_z w64 (get_or l i (pos 0))) ≡ get_or l i (pos 0) = search rules in
    let f = reads s.table.now (matrix_of s.rotation.m) (vector_of s.ps.v) in
    let x : to_z w64 (of_z w64 c.place_told.result) ≡ c.place_told.result = search rules in
    let y : to_z w64 (of_z w64 c.fallback_told.result) ≡ c.fallback_told.result = search rules in
    filled-more f l c.loop-i.invariant (pos 0) c.loop-i-test.true (omega (arith, c.loop-i-test.true, c.loop-i.auto.out, c.requires.room))
    (omega (arith, c.loop-i-test.true, c.loop-i.auto.fallbacks, c.requires.room_too)) {b = c.in_ok-r.r} (sym (c.in_ok-r.ensures ∙ ap f same)) (search rules) (search rules) (x ∙ c.place_told.ensures) (y ∙ c.fallback_told.ensures)

pub returns-clause-out_after : goal.returns-clause-out_after
returns-clause-out_after c =
    let s = c.args in
    filled-out (reads s.table.now (matrix_of s.rotation.m) (vector_of s.ps.v)) s.indices.now c.loop-i.invariant (omega (arith, c.loop-i-test.false)) (omega (arith, c.loop-i-test.false, c.loop-i.auto.out, c.requires.room))

pub returns-clause-fallbacks_after : goal.returns-clause-fallbacks_after
returns-clause-fallbacks_after c =
    let s = c.args in
    filled-back (reads s.table.now (matrix_of s.rotation.m) (vector_of s.ps.v)) s.indices.now c.loop-i.invariant (omega (arith, c.loop-i-test.false)) (omega (arith, c.loop-i-test.false, c.loop-i.auto.fallbacks, c.requires.room_too))
