use Rattle.std.proofs.Common.{◌≡◌, ◌-◌}
use Rattle.snf_steps.specs.Code.StagesView.{three_of}
use Rattle.snf3x3.specs.Snf3x3.{rounds}
use Rattle.snf3x3.proofs.rounds.Given as goal

abbrev pub invariant-loop-n : goal.invariant-loop-n
invariant-loop-n l = rounds 100 0 (three_of l.fn.s) ≡ rounds (100 - l.n) l.n (three_of l.t)
