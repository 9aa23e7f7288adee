use Rattle.std.proofs.Common.{ℕ, ℤ, pos, ◌-ℤ◌, ◌≡◌, List, [], ◌∷◌, get_or}
use Rattle.integer.proofs.Plain.{plain, plain-is}
use Rattle.integer.proofs.Fits.{held}
use Rattle.common.proofs.Bounds.{p-sized}
use Rattle.common.specs.Array.{Sized}
use Rattle.bzsearch.proofs.Sizes.{difference-sized}
use Rattle.bzsearch.proofs.search.difference.Goals as goal

exact : {m n : List ℤ} → Sized 16 m → Sized 4096 n → (k : ℕ) → held (held (get_or m k (pos 0)) -ℤ held (get_or n k (pos 0))) ≡ get_or m k (pos 0) -ℤ get_or n k (pos 0)
exact f g k = plain-is (search (plain, p-sized) depth 12) tt

pub returns : goal.returns
returns c =
    let at = exact c.args.m.sized c.args.n.sized in
    λ i. at 0 i ∷ at 1 i ∷ at 2 i ∷ []

pub invariant_of-result : goal.invariant_of-result
invariant_of-result c =
    let at = exact c.args.m.sized c.args.n.sized in
    record { sized = rw (at 0, at 1, at 2) (difference-sized c.args.m.sized c.args.n.sized) }
