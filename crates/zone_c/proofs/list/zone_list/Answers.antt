use borrow.Author.Rules.{rules}
use Rattle.zone_list.specs.List.{list_rooms}
use Rattle.zone_c.proofs.JobLists.{bytes_fit}
use Rattle.zone_c.proofs.list.zone_list.Goals as goal

pub tell_count-requires-clause-count_fits : goal.tell_count-requires-clause-count_fits
tell_count-requires-clause-count_fits c = bytes_fit c.args.job.now list_rooms _ _ (search rules) c.list_job.ensures.value
