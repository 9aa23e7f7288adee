use Rattle.std.proofs.Common.{ℕ, Bool, arith}
use Rattle.bztable.specs.Reading.{place_at}
use Rattle.bzconvert.specs.Layout.{is_read}
use Rattle.bzconvert.proofs.Tests.{below-fails, below-next, below-end}
use Rattle.bzconvert.proofs.judging.map_read.Goals as goal

pub returns-then-not-place_read : goal.returns-then-not-place_read
returns-then-not-place_read c =
    let s = c.args in
    let f : ℕ → Bool = λ i. is_read (place_at s.map.now i) in
    below-fails f c.loop-i.i s.k (omega arith) c.place_read.ensures c.if-not-place_read.true

pub loop-i-preserved : goal.loop-i-preserved
loop-i-preserved c =
    let s = c.args in
    let f : ℕ → Bool = λ i. is_read (place_at s.map.now i) in
    below-next f c.loop-i.i c.loop-i.invariant c.place_read.ensures c.if-not-place_read.false

pub returns : goal.returns
returns c =
    let s = c.args in
    let f : ℕ → Bool = λ i. is_read (place_at s.map.now i) in
    below-end f c.loop-i.i s.k (omega arith) (omega arith) c.loop-i.invariant
