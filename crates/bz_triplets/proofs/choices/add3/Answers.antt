use Rattle.std.proofs.Common.{[], ◌∷◌}
use Rattle.common.specs.Array.{Sized}
use Rattle.common.proofs.Sized.{sized-items}
use Rattle.bz_triplets.proofs.Sums.{sum_fits, sum_is, sum-size}
use Rattle.bz_triplets.proofs.choices.add3.Goals as goal

pub overflow_add-result-4 : goal.overflow_add-result-4
overflow_add-result-4 c = sum_fits (c.args.a.sized, (c.args.b.sized, c.args.c.sized)) 1

pub overflow_add-result-6 : goal.overflow_add-result-6
overflow_add-result-6 c = sum_fits (c.args.a.sized, (c.args.b.sized, c.args.c.sized)) 2

pub invariant_of-result : goal.invariant_of-result
invariant_of-result c =
    let p : Sized 10000000000000 c.args.a.v × (Sized 10000000000000 c.args.b.v × Sized 10000000000000 c.args.c.v) = (c.args.a.sized, (c.args.b.sized, c.args.c.sized)) in
    record { sized = sized-items _ (sum-size p 0) (sum-size p 1) (sum-size p 2) }

pub returns : goal.returns
returns c =
    let p : Sized 10000000000000 c.args.a.v × (Sized 10000000000000 c.args.b.v × Sized 10000000000000 c.args.c.v) = (c.args.a.sized, (c.args.b.sized, c.args.c.sized)) in
    λ i. sum_is p 0 i ∷ sum_is p 1 i ∷ sum_is p 2 i ∷ []
