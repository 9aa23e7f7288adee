use mathlib.Core.Path.{◌∙◌}
use borrow.Author.Rules.{rules}
use Rattle.answers.proofs.Entries.{three-entries}
use Rattle.zone_c.proofs.transform.zone_transform_rotations.Goals as goal

pub returns : goal.returns
returns c =
    let d = c.row_at.ensures ∙ three-entries c.args.d.now (search rules) in
    let o = rw (d, c.matrix_at.ensures) at c.transform_rotations-answer.ensures in
    search rules
