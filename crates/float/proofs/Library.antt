-- What the library's methods answer, in the words of specs/.
use Rattle.std.proofs.Common.{◌≡◌, refl, ap, ℕ, ◌+◌, ◌-◌, ◌*◌, ◌/◌, ◌<◌, true, false, arith}
use Rattle.std.specs.Float.{Float, nan, inf, fin, binary64, round_with, float_round, floor, ceil, float_with_sign, float_is_finite}
use lib.Ieee.{up, down, round}
use lib.Ieee.Fits.{down_pos}
use lib.Ieee.Scale.{finite}
use Rattle.float.specs.Rounding.{round_of, floor_of, ceil_of, abs_of}

pub round_is : (x : Float) → float_round binary64 x ≡ round_of x
unfolding round_with round_of
round_is nan = refl
round_is (inf s) = refl
round_is (fin false m e) = refl
round_is (fin true m e) = refl

-- a / c to the whole number above, as std writes it
above : (a c : ℕ) → 0 < c → (a + c - 1) / c ≡ (a + (c - 1)) / c
above a c h = ap (λ n. n / c) (omega arith)

pub floor_is : (x : Float) → floor binary64 x ≡ floor_of x
unfolding round_with floor_of
floor_is nan = refl
floor_is (inf s) = refl
floor_is (fin false m e) = refl
floor_is (fin true m e) = ap (λ n. round binary64 true n 1) (above (m * up e) (down e) (down_pos e))

pub ceil_is : (x : Float) → ceil binary64 x ≡ ceil_of x
unfolding round_with ceil_of
ceil_is nan = refl
ceil_is (inf s) = refl
ceil_is (fin false m e) = ap (λ n. round binary64 false n 1) (above (m * up e) (down e) (down_pos e))
ceil_is (fin true m e) = refl

pub abs_is : (x : Float) → float_with_sign false x ≡ abs_of x
unfolding float_with_sign abs_of
abs_is nan = refl
abs_is (inf s) = refl
abs_is (fin s m e) = refl

pub finite_is : (x : Float) → float_is_finite x ≡ finite x
unfolding float_is_finite
finite_is nan = refl
finite_is (inf s) = refl
finite_is (fin s m e) = refl
