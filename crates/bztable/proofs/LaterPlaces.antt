-- The images of a point, after the first.
use mathlib.Core.Path.{◌≡◌, refl, ap}
use Prim.Native.Nat.{ℕ, zero, suc, ◌+◌, ◌-◌}
use native.Mathlib.Omega.{arith}
use Rattle.bztable.specs.Access.{place_in}

pub place_other : (first others k : ℕ) → (k ≡ 0 → ⊥) → others + (k - 1) ≡ place_in first others k
place_other first others zero h = absurd (h refl)
place_other first others (suc k) h = ap (λ n. others + n) {x = suc k - 1} {y = k} (omega arith)
