-- The worst pairs of small limits, and the steps of the last pair.
use mathlib.Core.Path.{◌≡◌, refl}
use native.Mathlib.Omega.{arith}
use Rattle.snf_steps.specs.Gcd.{divisions}
use Rattle.worst_pair.specs.Worst.{steps, Worst}
use Rattle.worst_pair.proofs.Fibonacci.{fib}
use Rattle.worst_pair.proofs.Worst.{neighbours-worst}

of-1 : Worst 1 1 1
unfolding fib
of-1 = neighbours-worst 0 1 (omega arith) (omega arith) (omega arith)

of-2 : Worst 2 1 2
unfolding fib
of-2 = neighbours-worst 1 2 (omega arith) (omega arith) (omega arith)

of-20 : Worst 20 8 13
unfolding fib
of-20 = neighbours-worst 5 20 (omega arith) (omega arith) (omega arith)

one-step : steps 1 1 ≡ 1
unfolding divisions
one-step = refl

two_steps : steps 1 2 ≡ 2
unfolding divisions
two_steps = refl

most-steps : steps 514229 832040 ≡ 29
unfolding divisions
most-steps = refl
