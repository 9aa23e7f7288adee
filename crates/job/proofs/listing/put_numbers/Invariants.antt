use mathlib.Core.Path.{◌≡◌}
use Rattle.std.specs.Prelude.{Some}
use Rattle.grgrid.specs.Build.{concat}
use Rattle.job.specs.Listing.{spaced}
use Rattle.job.specs.Writing.{page, puts}
use Rattle.job.proofs.listing.put_numbers.Given as goal

abbrev pub invariant-loop-z : goal.invariant-loop-z
invariant-loop-z l = page l.out (Some l.m) ≡ puts (page l.initial.out (Some l.n)) (concat (spaced l.list) l.z-index)
