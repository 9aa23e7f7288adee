use mathlib.Core.Path.{refl}
use borrow.Author.Rules.{rules}
use Rattle.zone_print.proofs.JobText.{listing-printed, line-printed, printed-fits}
use Rattle.zone_print.proofs.print_job.Goals as goal

pub returns-in-Ok-clause-o_after : goal.returns-in-Ok-clause-o_after
returns-in-Ok-clause-o_after c =
    listing-printed c.args.job.now (search rules) (search rules)
    c.in-Ok.ensures refl

pub returns-in-Ok-clause-upper_bound : goal.returns-in-Ok-clause-upper_bound
returns-in-Ok-clause-upper_bound c = printed-fits _ (returns-in-Ok-clause-o_after c)

pub returns-in-Err-clause-o_after : goal.returns-in-Err-clause-o_after
returns-in-Err-clause-o_after c =
    line-printed c.args.job.now (search rules) (search rules)
    c.in-Err.ensures refl (search rules) c.print_refused.ensures

pub returns-in-Err-clause-upper_bound : goal.returns-in-Err-clause-upper_bound
returns-in-Err-clause-upper_bound c = printed-fits _ (returns-in-Err-clause-o_after c)
