use Rattle.std.proofs.Common.{ℕ, Bool, arith}
use Rattle.bztable.specs.Reading.{address_at}
use Rattle.bzconvert.specs.Layout.{is_read}
use Rattle.bzconvert.proofs.Tests.{below-fails, below-next, below-end}
use Rattle.bzconvert.proofs.judging.images_read.Goals as goal

pub returns-then-not-image_read : goal.returns-then-not-image_read
returns-then-not-image_read c =
    let s = c.args in
    let f : ℕ → Bool = λ i. is_read (address_at s.addresses.now i) in
    below-fails f c.loop-i.i s.m (omega arith) c.image_read.ensures c.if-not-image_read.true

pub loop-i-preserved : goal.loop-i-preserved
loop-i-preserved c =
    let s = c.args in
    let f : ℕ → Bool = λ i. is_read (address_at s.addresses.now i) in
    below-next f c.loop-i.i c.loop-i.invariant c.image_read.ensures c.if-not-image_read.false

pub returns : goal.returns
returns c =
    let s = c.args in
    let f : ℕ → Bool = λ i. is_read (address_at s.addresses.now i) in
    below-end f c.loop-i.i s.m (omega arith) (omega arith) c.loop-i.invariant
