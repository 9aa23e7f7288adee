use Rattle.std.proofs.Common.{ℕ, Bool, arith}
use Rattle.grgrid.specs.Grid.{size}
use Rattle.grgrid.specs.Sides.{sides}
use Rattle.bzconvert.specs.Code.ByPlaces.{table_view, point_stands}
use Rattle.bzconvert.proofs.Tests.{below-fails, below-next, below-end}
use Rattle.bzconvert.proofs.judging.points_stand.Goals as goal

pub returns-then-not-point_stands : goal.returns-then-not-point_stands
returns-then-not-point_stands c =
    let s = c.args in
    let f : ℕ → Bool = point_stands s.table.now.t (sides s.table.now.g) (table_view s.table.now s.grg.now) in
    below-fails f c.loop-p.p (size (sides s.table.now.g)) (omega arith) c.point_stands.ensures c.if-not-point_stands.true

pub loop-p-preserved : goal.loop-p-preserved
loop-p-preserved c =
    let s = c.args in
    let f : ℕ → Bool = point_stands s.table.now.t (sides s.table.now.g) (table_view s.table.now s.grg.now) in
    below-next f c.loop-p.p c.loop-p.invariant c.point_stands.ensures c.if-not-point_stands.false

pub returns : goal.returns
returns c =
    let s = c.args in
    let f : ℕ → Bool = point_stands s.table.now.t (sides s.table.now.g) (table_view s.table.now s.grg.now) in
    below-end f c.loop-p.p (size (sides s.table.now.g)) (omega arith) (omega arith) c.loop-p.invariant
