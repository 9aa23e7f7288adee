use Rattle.std.proofs.Common.{ℕ, Bool, arith, ◌∙◌}
use Rattle.bztable.specs.Access.{place_in}
use Rattle.bzconvert.specs.Code.ByPlaces.{apart}
use Rattle.bzconvert.proofs.Tests.{below-fails, below-next, below-end}
use Rattle.bzconvert.proofs.judging.is_new.Goals as goal

pub returns-then-not-apart : goal.returns-then-not-apart
returns-then-not-apart c =
    let s = c.args in
    let at : ℕ → ℕ = place_in s.r.first.at s.r.others in
    let f : ℕ → Bool = λ j. apart s.addresses.now (at j) (at s.k) in
    let e = c.apart.ensures ∙ (λ i. apart s.addresses.now (c.place_in.ensures i) (c.place_in-at.ensures i)) in
    below-fails f c.loop-j.j s.k (omega arith) e c.if-not-apart.true

pub loop-j-preserved : goal.loop-j-preserved
loop-j-preserved c =
    let s = c.args in
    let at : ℕ → ℕ = place_in s.r.first.at s.r.others in
    let f : ℕ → Bool = λ j. apart s.addresses.now (at j) (at s.k) in
    let e = c.apart.ensures ∙ (λ i. apart s.addresses.now (c.place_in.ensures i) (c.place_in-at.ensures i)) in
    below-next f c.loop-j.j c.loop-j.invariant e c.if-not-apart.false

pub returns : goal.returns
returns c =
    let s = c.args in
    let at : ℕ → ℕ = place_in s.r.first.at s.r.others in
    let f : ℕ → Bool = λ j. apart s.addresses.now (at j) (at s.k) in
    below-end f c.loop-j.j s.k (omega arith) (omega arith) c.loop-j.invariant
