use mathlib.Core.Path.{◌≡◌, ◌∙◌, ap}
use mathlib.Core.List.{List, [], ◌∷◌}
use Prim.Native.Nat.{ℕ}
use lib.IntN.{ℤ, pos, neg_ℤ, ◌-ℤ◌, +ℤ_idl}
use lib.ListN.{get_or}
use Rattle.integer.proofs.Fits.{held}
use Rattle.integer.proofs.Plain.{plain, plain-is}
use Rattle.common.specs.Array.{Sized}
use Rattle.common.proofs.Bounds.{p-sized}
use Rattle.triplet_grid.proofs.third.Goals as goal

-- along axis n
third-is : {a b : List ℤ} → Sized 10000000000000 a → Sized 10000000000000 b → (n : ℕ)
    → held (held (pos 0 -ℤ held (get_or a n (pos 0))) -ℤ held (get_or b n (pos 0))) ≡ neg_ℤ (get_or a n (pos 0)) -ℤ get_or b n (pos 0)
third-is {a} {b} f g n = plain-is (search (plain, p-sized) depth 12) tt ∙ ap (λ z. z -ℤ get_or b n (pos 0)) (+ℤ_idl (neg_ℤ (get_or a n (pos 0))))

pub returns : goal.returns
returns c =
    let along = third-is c.args.a.sized c.args.b.sized in
    let x = along 0 in
    let y = along 1 in
    let z = along 2 in
    λ i. x i ∷ y i ∷ z i ∷ []
