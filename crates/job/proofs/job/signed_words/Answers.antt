use mathlib.Core.Path.{◌≡◌, refl, ◌∙◌, ap}
use mathlib.Core.List.{map-id}
use native.Mathlib.Omega.{arith}
use lib.ListN.{length}
use mir.Syntax.{w64}
use mir.Facts.{to_z-of_z}
use borrow.Author.Rules.{rules}
use Rattle.grgrid.proofs.Built.{written, written-more, written-end}
use Rattle.job.specs.Job.{signed, signed_words}
use Rattle.job.proofs.Words.{signed_item}
use Rattle.job.proofs.job.signed_words.Goals as goal

pub loop-k-preserved : goal.loop-k-preserved
loop-k-preserved c =
    let a = c.args in
    written-more (signed_item a.bytes.now a.at) (λ z. z) c.loop-k.k a.out.now c.loop-k.invariant (search rules) (to_z-of_z {w = w64} (search rules) ∙ c.signed.ensures ∙ ap signed c.word.ensures.value)

pub returns : goal.returns
unfolding signed_words
returns c =
    let a = c.args in
    let all : c.loop-k.k ≡ length a.out.now = omega arith in
    c.loop-k.invariant ∙ ap (λ n. written (signed_item a.bytes.now a.at) (λ z. z) n a.out.now) all ∙ written-end (signed_item a.bytes.now a.at) (λ z. z) (length a.out.now) a.out.now refl ∙ map-id _
