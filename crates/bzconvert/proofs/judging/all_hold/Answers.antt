use Rattle.std.proofs.Common.{ℕ, Bool, arith, []}
use Rattle.grgrid.specs.Sides.{sides}
use Rattle.bzgrid.specs.Table.{empty}
use Rattle.bzconvert.specs.Code.ByPlaces.{table_view, mesh_holds}
use Rattle.bzconvert.proofs.Tests.{below-fails, below-next, below-end}
use Rattle.bzconvert.proofs.judging.all_hold.Goals as goal

pub returns-then-not-mesh_holds : goal.returns-then-not-mesh_holds
returns-then-not-mesh_holds c =
    let s = c.args in
    let f : ℕ → Bool = mesh_holds (sides s.table.now.g) (table_view s.table.now []) s.m in
    below-fails f c.loop-k.k (empty (sides s.table.now.g)) (omega arith) c.mesh_holds.ensures c.if-not-mesh_holds.true

pub loop-k-preserved : goal.loop-k-preserved
loop-k-preserved c =
    let s = c.args in
    let f : ℕ → Bool = mesh_holds (sides s.table.now.g) (table_view s.table.now []) s.m in
    below-next f c.loop-k.k c.loop-k.invariant c.mesh_holds.ensures c.if-not-mesh_holds.false

pub returns : goal.returns
returns c =
    let s = c.args in
    let f : ℕ → Bool = mesh_holds (sides s.table.now.g) (table_view s.table.now []) s.m in
    below-end f c.loop-k.k (empty (sides s.table.now.g)) (omega arith) (omega arith) c.loop-k.invariant
