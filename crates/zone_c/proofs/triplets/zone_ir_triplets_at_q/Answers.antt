use mathlib.Core.Path.{◌∙◌}
use borrow.Author.Rules.{rules}
use Rattle.answers.proofs.Entries.{three-entries}
use Rattle.zone_c.proofs.triplets.zone_ir_triplets_at_q.Goals as goal

pub returns : goal.returns
returns c =
    let d = c.row_at.ensures ∙ three-entries c.args.d.now (search rules) in
    let o = rw d at c.ir_triplets_at_q.ensures in
    search rules
