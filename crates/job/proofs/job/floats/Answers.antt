use mathlib.Core.Path.{◌≡◌, refl, ◌∙◌, ap}
use mathlib.Core.List.{map-id}
use native.Mathlib.Omega.{arith}
use lib.ListN.{length}
use borrow.Author.Rules.{rules}
use Rattle.grgrid.proofs.Built.{written, written-more, written-end}
use Rattle.job.specs.Job.{floats}
use Rattle.job.proofs.Words.{float_item}
use Rattle.job.proofs.job.floats.Goals as goal

pub loop-k-preserved : goal.loop-k-preserved
loop-k-preserved c =
    let a = c.args in
    written-more (float_item a.bytes.now a.at) (λ z. z) c.loop-k.k a.out.now c.loop-k.invariant (search rules) c.float.ensures

pub returns : goal.returns
unfolding floats
returns c =
    let a = c.args in
    let all : c.loop-k.k ≡ length a.out.now = omega arith in
    c.loop-k.invariant ∙ ap (λ n. written (float_item a.bytes.now a.at) (λ z. z) n a.out.now) all ∙ written-end (float_item a.bytes.now a.at) (λ z. z) (length a.out.now) a.out.now refl ∙ map-id _
