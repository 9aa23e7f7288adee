use Rattle.std.proofs.Common.{sym, ◌∙◌}
use Rattle.integer.proofs.Test.{holds}
use Rattle.mark_candidates.proofs.Limits.{limits-within}
use Rattle.mark_candidates.proofs.Call.tests.Goals as goal

pub invariant_of-is_unimodular : goal.invariant_of-is_unimodular
invariant_of-is_unimodular c =
    let a = c.args.self in
    record { within = (limits-within a.d a.q a.ps a.r.lowest a.r.highest a.point (holds (sym c.within_limits.ensures ∙ c.if-not-within_limits.false))).entries }
