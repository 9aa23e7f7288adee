use borrow.Author.Rules.{rules}
use Rattle.zone_c.proofs.form.zone_hermite3x3.Goals as goal

pub tell-requires : goal.tell-requires
tell-requires c = (search rules, search rules)
