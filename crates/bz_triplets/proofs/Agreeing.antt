-- The call on tables whose record agrees with it.
use mathlib.Core.Path.{ap}
use Rattle.bztable.specs.Agreement.{agrees_grid}
use Rattle.bztable.proofs.Records.{layout-agreed}
use Rattle.bz_triplets.specs.BzTriplets.{triplets_in, bz_triplets_at_q}
use Rattle.bz_triplets.specs.Agreeing.{AgreeingTriplets}

pub agreeing-triplets : AgreeingTriplets
unfolding bz_triplets_at_q
agreeing-triplets q0 addresses map r classes d q lattice t n m l c a =
    ap (λ k. triplets_in k q0 addresses map classes d q lattice t n m l c) (layout-agreed (agrees_grid r d t) t a)
