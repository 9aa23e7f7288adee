-- A limit that fits is a number from 1 to 1,000,000.
use Prim.Native.Nat.{◌≤◌}
use lib.Dec.{T, leb→le}
use lib.IntN.{ℤ, pos, negsuc, nat_abs}
use lib.Signed.{le_z, non_neg}
use Rattle.integer.proofs.Test.{and_l, and_r}
use Rattle.worst_pair.specs.WorstPair.{limit_fits}

pub record Limit (z : ℤ) : Type 0 where
  pub sign : T (non_neg z)
  pub low : 1 ≤ nat_abs z
  pub high : nat_abs z ≤ 1000000

pub limit-of : (z : ℤ) → T (limit_fits z) → Limit z
limit-of (pos n) t =
    let z = pos n in
    record { sign = tt; low = leb→le 1 n (and_l (le_z (pos 1) z) (le_z z (pos 1000000)) t); high = leb→le n 1000000 (and_r (le_z (pos 1) z) (le_z z (pos 1000000)) t) }
limit-of (negsuc n) t = absurd t
