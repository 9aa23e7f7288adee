use mathlib.Core.Path.{◌∙◌, ap}
use Rattle.common.specs.declared.Refusal.TheVariants.{WrongLength}
use Rattle.grgrid.specs.Grid.{size}
use Rattle.job.specs.Writing.{printed}
use Rattle.std.specs.Option.{ok_or}
use lib.ListN.{length}
use Rattle.zone_list.proofs.Listed.{first-places, held-count, same_text, text-answered}
use Rattle.zone_list.proofs.print_finished.Goals as goal

pub returns : goal.returns
returns c =
    let n = length c.args.text.now in
    let h = first-places c.args.classes.now (c.points-n.ensures ∙ ap size c.grid_of.ensures) in
    let p = c.print_listing.ensures ∙ ap (λ t. printed t n) (same_text c.args.f c.args.classes.now c.args.triplets.now (held-count c.requires) h) in
    record { value = c.ok_or.ensures.value ∙ ap (λ o. ok_or o.so_far WrongLength) p ∙ text-answered _ n; text_after = ap (λ o. o.text) p }
