use Rattle.std.proofs.Common.{ℕ, Bool, arith, []}
use Rattle.grgrid.specs.Sides.{sides}
use Rattle.bzconvert.specs.Code.ByPlaces.{table_view, mesh_finds}
use Rattle.bzconvert.proofs.Tests.{below-fails, below-next, below-end}
use Rattle.bzconvert.proofs.judging.all_found.Goals as goal

pub returns-then-not-mesh_finds : goal.returns-then-not-mesh_finds
returns-then-not-mesh_finds c =
    let s = c.args in
    let f : ℕ → Bool = mesh_finds (sides s.table.now.g) (table_view s.table.now []) s.m in
    below-fails f c.loop-i.i s.m (omega arith) c.mesh_finds.ensures c.if-not-mesh_finds.true

pub loop-i-preserved : goal.loop-i-preserved
loop-i-preserved c =
    let s = c.args in
    let f : ℕ → Bool = mesh_finds (sides s.table.now.g) (table_view s.table.now []) s.m in
    below-next f c.loop-i.i c.loop-i.invariant c.mesh_finds.ensures c.if-not-mesh_finds.false

pub returns : goal.returns
returns c =
    let s = c.args in
    let f : ℕ → Bool = mesh_finds (sides s.table.now.g) (table_view s.table.now []) s.m in
    below-end f c.loop-i.i s.m (omega arith) (omega arith) c.loop-i.invariant
