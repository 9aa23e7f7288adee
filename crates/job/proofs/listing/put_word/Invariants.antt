use mathlib.Core.Path.{◌≡◌}
use lib.ListN.{take}
use Rattle.std.specs.Prelude.{Some}
use Rattle.job.specs.Writing.{page, puts}
use Rattle.job.proofs.listing.put_word.Given as goal

abbrev pub invariant-loop-b : goal.invariant-loop-b
invariant-loop-b l = page l.out (Some l.m) ≡ puts (page l.initial.out (Some l.n)) (take l.b-index l.word)
