use mir.Facts.{to_z-of_z}
use Rattle.worst_pair.specs.WorstPair.{Answers}
use Rattle.answers.proofs.ToldFits.{pair_fits}
use Rattle.zone_c.proofs.pair.zone_worst_pair.Goals as goal

pub tell_pair-requires-clause-fact_2 : goal.tell_pair-requires-clause-fact_2
tell_pair-requires-clause-fact_2 c =
    let h : Answers c.args.limit c.worst_pair-pair.result = rw (to_z-of_z c.ranges.limit) at c.worst_pair-pair.ensures in
    pair_fits c.args.limit c.worst_pair-pair.result h
