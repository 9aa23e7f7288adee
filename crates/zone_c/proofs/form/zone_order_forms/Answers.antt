use borrow.Author.Rules.{rules}
use Rattle.common.proofs.Nine.{nine-entries}
use Rattle.zone_c.proofs.form.zone_order_forms.Goals as goal

pub returns : goal.returns
returns c = search (rules, nine-entries)
