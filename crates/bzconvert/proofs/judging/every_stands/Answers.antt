use Rattle.std.proofs.Common.{ℕ, Bool, arith, ◌∙◌, ap}
use Rattle.grgrid.specs.Sides.{sides}
use Rattle.bztable.specs.Access.{place_in}
use Rattle.bzconvert.specs.Code.ByPlaces.{table_view, image_stands}
use Rattle.bzconvert.proofs.PlaceTests.{every-listed}
use Rattle.bzconvert.proofs.Tests.{below-fails, below-next, below-end}
use Rattle.bzconvert.proofs.judging.every_stands.Goals as goal

pub returns-then-not-image_stands : goal.returns-then-not-image_stands
returns-then-not-image_stands c =
    let s = c.args in
    let at : ℕ → ℕ = place_in s.r.first.at s.r.others in
    let test : ℕ → Bool = image_stands (sides s.table.now.g) (table_view s.table.now s.grg.now) s.p in
    let f : ℕ → Bool = λ k. test (at k) in
    below-fails f c.loop-k.k s.r.count (omega arith) (c.image_stands.ensures ∙ ap test c.place_in.ensures) c.if-not-image_stands.true
    ∙ every-listed test at s.r.count

pub loop-k-preserved : goal.loop-k-preserved
loop-k-preserved c =
    let s = c.args in
    let at : ℕ → ℕ = place_in s.r.first.at s.r.others in
    let test : ℕ → Bool = image_stands (sides s.table.now.g) (table_view s.table.now s.grg.now) s.p in
    let f : ℕ → Bool = λ k. test (at k) in
    below-next f c.loop-k.k c.loop-k.invariant (c.image_stands.ensures ∙ ap test c.place_in.ensures) c.if-not-image_stands.false

pub returns : goal.returns
returns c =
    let s = c.args in
    let at : ℕ → ℕ = place_in s.r.first.at s.r.others in
    let test : ℕ → Bool = image_stands (sides s.table.now.g) (table_view s.table.now s.grg.now) s.p in
    let f : ℕ → Bool = λ k. test (at k) in
    below-end f c.loop-k.k s.r.count (omega arith) (omega arith) c.loop-k.invariant ∙ every-listed test at s.r.count
