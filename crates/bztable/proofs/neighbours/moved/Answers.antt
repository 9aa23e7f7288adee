use mathlib.Core.Path.{◌≡◌}
use mathlib.Core.List.{List, [], ◌∷◌}
use Prim.Native.Nat.{ℕ}
use lib.IntN.{ℤ, pos, ◌+ℤ◌}
use lib.ListN.{get_or}
use Rattle.integer.proofs.Fits.{held}
use Rattle.integer.proofs.Plain.{plain, plain-is}
use Rattle.common.specs.Array.{Sized}
use Rattle.common.proofs.Bounds.{p-sized}
use Rattle.bztable.proofs.neighbours.moved.Goals as goal

sum-held : {a o : List ℤ} → Sized 10000000000000 a → Sized 1000 o → (n : ℕ) → held (held (get_or a n (pos 0)) +ℤ held (get_or o n (pos 0))) ≡ get_or a n (pos 0) +ℤ get_or o n (pos 0)
sum-held f g n = plain-is (search (plain, p-sized) depth 12) tt

pub returns : goal.returns
returns c = let h = c.args.a.sized in λ i. sum-held h c.requires 0 i ∷ sum-held h c.requires 1 i ∷ sum-held h c.requires 2 i ∷ []
