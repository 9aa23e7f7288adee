-- IEEE 754's square root of an f64, correctly rounded.
use Rattle.std.specs.Prelude.{ℕ, zero, suc, ◌+◌, ◌*◌, ◌/◌, ◌^◌, true, false, cond, ◌==◌, nat_le, Float}
use Rattle.std.specs.Float.{nan, inf, fin, binary64}
use Rattle.std.specs.Float.Ieee.{up, down, size, round}

-- The whole part of the square root of an n below 4 ^ k, by binary digits: twice that of n / 4, or one more.
abbrev pub digit : ℕ → ℕ → ℕ
digit r n = cond (nat_le ((2 * r + 1) * (2 * r + 1)) n) (2 * r + 1) (2 * r)

unfoldable pub root : ℕ → ℕ → ℕ
root zero n = 0
root (suc k) n = digit (root k (n / 4)) n

-- 0 where s is the square root of n, and 1 where the root lies beyond s
abbrev pub beyond : ℕ → ℕ → ℕ
beyond s n = cond (s * s == n) 0 1

-- A value above zero is n / 4 ^ 1074 for a whole number n, and its root is that of n, over 2 ^ 1074. The root of n is s, or lies between s and s + 1. In the
-- second case s + 1/2 rounds as the root does: s has more digits than the format keeps, so that no value of the format, and no middle of two, lies between.
unfoldable pub sqrt_of : Float → Float
sqrt_of nan = nan
sqrt_of (inf true) = nan
sqrt_of (inf false) = inf false
sqrt_of (fin s zero e) = fin s zero e
sqrt_of (fin true (suc m) e) = nan
sqrt_of (fin false (suc m) e) =
    let n = suc m * up e * 4 ^ 1074 / down e in
    let s = root (size n) n in
    round binary64 false (2 * s + beyond s n) (2 * 2 ^ 1074)
