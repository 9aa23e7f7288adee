use native.Mathlib.Omega.{arith}
use Rattle.grgrid.proofs.Numbers.{own-few}
use Rattle.grgrid.proofs.own_places.Goals as goal

pub overflow_add-r : goal.overflow_add-r
overflow_add-r c = let l = c.loop-i in record { fits = omega (arith, l.invariant, own-few c.args.list.now l.i) }

pub returns-clause-upper_bound : goal.returns-clause-upper_bound
returns-clause-upper_bound c = let l = c.loop-i in omega (arith, l.invariant, own-few c.args.list.now l.i)
