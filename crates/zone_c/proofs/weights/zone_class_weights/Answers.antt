use mathlib.Core.Path.{◌∙◌}
use mir.Facts.{to_z-of_z}
use borrow.Author.Rules.{rules}
use Rattle.answers.proofs.Entries.{three-entries}
use Rattle.zone_c.proofs.weights.zone_class_weights.Goals as goal

pub returns : goal.returns
returns c =
    let d = c.row_at.ensures ∙ three-entries c.args.d.now (search rules) in
    let ps = c.row_at-2.ensures ∙ three-entries c.args.ps.now (search rules) in
    let o = rw (to_z-of_z c.ranges.point, d, ps) at c.class_weights.ensures in
    search rules
