use mathlib.Core.Path.{◌∙◌}
use borrow.Author.Rules.{rules}
use Rattle.answers.proofs.Entries.{three-entries}
use Rattle.answers.proofs.ToldFits.{folded-fits}
use Rattle.zone_c.proofs.grid.zone_grid_index_from_address.Goals as goal

pub tell_folded-requires-clause-index_fits : goal.tell_folded-requires-clause-index_fits
tell_folded-requires-clause-index_fits c = folded-fits _ _ _ c.grid_index_from_address.ensures.value

pub returns : goal.returns
returns c =
    let a = c.row_at.ensures ∙ three-entries c.args.address.now (search rules) in
    let d = c.row_at-2.ensures ∙ three-entries c.args.d.now (search rules) in
    let o = rw (a, d) at c.grid_index_from_address.ensures.value in
    search rules
