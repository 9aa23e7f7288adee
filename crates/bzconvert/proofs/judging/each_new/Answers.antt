use Rattle.std.proofs.Common.{ℕ, Bool, arith, ◌∙◌}
use Rattle.bztable.specs.Access.{place_in}
use Rattle.bzconvert.specs.Layout.{all_below}
use Rattle.bzconvert.specs.Code.ByPlaces.{apart}
use Rattle.bzconvert.proofs.PlaceTests.{pairwise-listed}
use Rattle.bzconvert.proofs.Tests.{below-fails, below-next, below-end}
use Rattle.bzconvert.proofs.judging.each_new.Goals as goal

pub returns-then-not-is_new : goal.returns-then-not-is_new
returns-then-not-is_new c =
    let s = c.args in
    let at : ℕ → ℕ = place_in s.r.first.at s.r.others in
    let f : ℕ → Bool = λ k. all_below (λ j. apart s.addresses.now (at j) (at k)) k in
    below-fails f c.loop-k.k s.r.count (omega arith) c.is_new.ensures c.if-not-is_new.true ∙ pairwise-listed (apart s.addresses.now) at s.r.count

pub loop-k-preserved : goal.loop-k-preserved
loop-k-preserved c =
    let s = c.args in
    let at : ℕ → ℕ = place_in s.r.first.at s.r.others in
    let f : ℕ → Bool = λ k. all_below (λ j. apart s.addresses.now (at j) (at k)) k in
    below-next f c.loop-k.k c.loop-k.invariant c.is_new.ensures c.if-not-is_new.false

pub returns : goal.returns
returns c =
    let s = c.args in
    let at : ℕ → ℕ = place_in s.r.first.at s.r.others in
    let f : ℕ → Bool = λ k. all_below (λ j. apart s.addresses.now (at j) (at k)) k in
    below-end f c.loop-k.k s.r.count (omega arith) (omega arith) c.loop-k.invariant ∙ pairwise-listed (apart s.addresses.now) at s.r.count
