-- The rest of a walk, and the numbers from which on none of its divisions overflows.
use Rattle.std.specs.Prelude.{Bool, ◌&&◌, T, ℕ, ◌+◌, ◌*◌, ◌≤◌, ℤ, pos, negsuc, nat_abs, Option, Some}
use Rattle.std.specs.Int.Signed.{le_z, lt_z, non_neg}
use Rattle.snf_steps.specs.Then.{◌then◌}
use Rattle.snf_steps.specs.declared.gcd.Euclid.{Euclid}
use Rattle.snf_steps.specs.declared.gcd.Counted.{Counted}
use Rattle.snf_steps.specs.Gcd.{euclid, divisions}

abbrev pub after : ℕ → Euclid → Option Counted
after i e = Some (record { last = e; count = i })

-- at most n divisions from e on, after i that were made
abbrev pub walked : (n i : ℕ) → Euclid → Option Counted
walked n i e = euclid n e then after (i + divisions n e.r e.r1)

-- 0 ≤ z < 2^30
abbrev pub small_remainder : ℤ → Bool
small_remainder z = le_z (pos 0) z && lt_z z (pos 0x40000000)

abbrev pub small_remainders : (x y : ℤ) → Bool
small_remainders x y = small_remainder x && small_remainder y

-- -2^30 ≤ z < 2^30
abbrev pub small_coefficient : ℤ → Bool
small_coefficient z = le_z (negsuc 0x3fffffff) z && lt_z z (pos 0x40000000)

abbrev pub small_pair : (x y : ℤ) → Bool
small_pair x y = small_coefficient x && small_coefficient y

abbrev pub small_coefficients : Euclid → Bool
small_coefficients e = small_pair e.s e.s1 && small_pair e.t e.t1

abbrev pub small : Euclid → Bool
small e = small_remainders e.r e.r1 && small_coefficients e

-- What a division keeps: from small numbers on, the sums are at most 2^61.
pub record Room (e : Euclid) : Type 0 where
  pub sign : T (non_neg e.r)
  pub sign1 : T (non_neg e.r1)
  pub size : nat_abs e.r ≤ 0x40000000
  pub size1 : nat_abs e.r1 ≤ 0x40000000
  pub s : nat_abs e.s1 * nat_abs e.r + nat_abs e.s * nat_abs e.r1 ≤ 0x2000000000000000
  pub t : nat_abs e.t1 * nat_abs e.r + nat_abs e.t * nat_abs e.r1 ≤ 0x2000000000000000
