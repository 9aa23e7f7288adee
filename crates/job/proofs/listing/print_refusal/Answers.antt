use mathlib.Core.Path.{◌≡◌, ◌∙◌}
use lib.ListN.{length, replicate}
use mir.Syntax.{w64}
use mir.Facts.{to_z-of_z}
use borrow.Author.Rules.{rules}
use Rattle.job.specs.Listing.{refusal}
use Rattle.job.proofs.Put.{whole}
use Rattle.job.proofs.listing.print_refusal.Goals as goal

pub returns : goal.returns
unfolding refusal
returns c =
    let n = length c.args.out.now in
    let z : c.fill.new.self ≡ replicate n 0 = search rules in
    c.finish.ensures ∙ whole (refusal c.args.r) n z (rw (to_z-of_z {w = w64} {z = c.answer.result} (search rules), c.answer.ensures) at c.put_line-p.ensures)
