use Rattle.std.proofs.Common.{rules}
use Rattle.snf_steps.proofs.stages.first_tests.Goals as goal

pub returns-then-branch-2 : goal.returns-then-branch-2
returns-then-branch-2 c = search rules depth 14
