-- Euclidean division, as Rust's div_euclid and rem_euclid: the remainder is never negative. Division toward zero, Rust's / and %, is `quot_z` and `rem_z`
-- of std's Int.Signed.
use Rattle.std.specs.Prelude.{ℤ, pos, negsuc, neg_ℤ, nat_abs, suc, ◌-◌, ◌/◌, ◌%◌, ◌<◌, FitsSigned}
use Rattle.std.specs.Int.{w64}
use Rattle.std.specs.Int.Signed.{quot_z}

abbrev pub div_euclid : ℤ → ℤ → ℤ
div_euclid (pos a) (pos d) = pos (a / d)
div_euclid (pos a) (negsuc d) = neg_ℤ (pos (a / suc d))
div_euclid (negsuc a) (pos d) = negsuc (a / d)
div_euclid (negsuc a) (negsuc d) = pos (suc (a / suc d))

abbrev pub rem_euclid : ℤ → ℤ → ℤ
rem_euclid (pos a) d = pos (a % nat_abs d)
rem_euclid (negsuc a) d = pos (nat_abs d - suc (a % nat_abs d))

-- what a division of two i64 asks
pub record Divisible (a d : ℤ) : Type 0 where
  pub nonzero : 0 < nat_abs d
  pub fits : FitsSigned w64 (quot_z a d)
