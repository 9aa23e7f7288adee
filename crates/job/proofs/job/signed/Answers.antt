use mathlib.Core.Bool.{cond}
use mathlib.Core.Path.{sym, ◌∙◌, ap}
use lib.IntN.{pos, ◌-ℤ◌}
use borrow.Author.Tests.{le-ltb}
use borrow.Author.Rules.{rules}
use Rattle.job.specs.Job.{signed}
use Rattle.job.proofs.Words.{negative-word}
use Rattle.job.proofs.job.signed.Goals as goal

pub returns : goal.returns
unfolding signed
returns c = negative-word c.requires ∙ sym (ap (λ t. cond t (pos c.args.w) (pos c.args.w -ℤ pos 0x100000000)) (le-ltb c.args.w 0x80000000 (search rules)))
