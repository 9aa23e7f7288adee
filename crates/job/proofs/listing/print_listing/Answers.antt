use mathlib.Core.Path.{◌≡◌, ◌∙◌}
use lib.ListN.{length, replicate}
use mir.Facts.{to_z-of_z}
use borrow.Author.Rules.{rules}
use Rattle.job.specs.Listing.{listing}
use Rattle.job.proofs.Put.{whole}
use Rattle.job.proofs.listing.print_listing.Goals as goal

pub returns : goal.returns
returns c =
    let a = c.args in
    let n = length a.out.now in
    let z : c.fill.new.self ≡ replicate n 0 = search rules in
    c.finish.ensures ∙ whole (listing a.d a.map.now a.classes a.triplets.now) n z (rw (to_z-of_z c.ranges.classes) at c.put_listing-p.ensures)
