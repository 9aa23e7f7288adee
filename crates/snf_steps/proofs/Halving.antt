-- Two divisions halve the remainder, and what is at most half of a number below 2 ^ (k + 1) is below 2 ^ k.
use mathlib.Core.Path.{◌≡◌}
use Prim.Native.Nat.{ℕ, zero, suc, ◌+◌, ◌*◌, ◌%◌, ◌/◌, ◌^◌, ◌≤◌, ◌<◌}
use native.Mathlib.Nat.{div-add-mod', mod-lt, two-pow-succ}
use native.Mathlib.Omega.{arith}
use lib.IntN.{ℤ, pos, negsuc, nat_abs}
use Rattle.integer.specs.Division.{rem_euclid}
use Rattle.integer.proofs.Order.{NonNeg}

less-than-half : (m k : ℕ) → zero < k → k < m → m % k + m % k < m
less-than-half m k h l = omega (arith, mod-lt m h, div-add-mod' m k, at_least_one (m / k) (m % k) (div-add-mod' m k) (mod-lt m h))
  where
    at_least_one : (q r : ℕ) → q * k + r ≡ m → r < k → k ≤ q * k
    at_least_one zero r e h = absurd (omega arith)
    at_least_one (suc q) r e h = omega arith

pub rem-less-than-half : (r m : ℤ) → NonNeg r → zero < nat_abs m → nat_abs m < nat_abs r → nat_abs (rem_euclid r m) + nat_abs (rem_euclid r m) < nat_abs r
rem-less-than-half (pos n) m p h l = less-than-half n (nat_abs m) h l
rem-less-than-half (negsuc n) m p h l = absurd p.sign

pub halved : (k m j : ℕ) → j + j ≤ m → m < 2 ^ suc k → j < 2 ^ k
halved k m j h l = omega (arith, two-pow-succ k)
