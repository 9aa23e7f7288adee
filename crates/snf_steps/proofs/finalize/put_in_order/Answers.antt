use Rattle.std.proofs.Common.{sym}
use Rattle.integer.proofs.Test.{holds}
use Rattle.snf_steps.specs.Code.StagesView.{three_of}
use Rattle.snf_steps.proofs.Settled.{settled-kept}
use Rattle.snf_steps.proofs.finalize.put_in_order.Goals as goal

pub returns-then-settled : goal.returns-then-settled
returns-then-settled c = sym (settled-kept (three_of c.args.s) (holds (sym c.if-settled.ensures)))
