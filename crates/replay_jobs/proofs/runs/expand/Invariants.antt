use Rattle.std.proofs.Common.{length, ◌≤◌}
use Rattle.replay_jobs.proofs.runs.expand.Given as goal

abbrev pub invariant-loop-count : goal.invariant-loop-count
invariant-loop-count l = l.at ≤ length l.held
