-- Quotients and remainders of two i64: which fit, and the divisors 0 and -1 by their bits.
use mathlib.Core.Path.{◌≡◌, refl, sym, ◌∙◌, ap}
use mathlib.Core.Bool.{true}
use Prim.Native.Nat.{ℕ, zero, suc, ◌+◌, ◌/◌, ◌<◌, ◌≤◌}
use native.Mathlib.Nat.{div-le_self, div-one, div-mul-le_self, mul-le-mul_left, lt_of_le_of_lt}
use native.Mathlib.Omega.{arith}
use lib.Dec.{lt→ltb}
use lib.IntN.{ℤ, pos, negsuc, neg_ℤ, nat_abs, pos-ne-negsuc}
use lib.Signed.{mag, mag_rem, quot_z, rem_z, nat_abs-le}
use mir.Syntax.{w64}
use mir.Val.{SFits, of_z, to_z}
use mir.Facts.{to_z-of_z}
use Rattle.integer.specs.Division.{div_euclid, rem_euclid}
use Rattle.integer.specs.Checked.{fits64}
use Rattle.integer.proofs.Test.{is_true}
use Rattle.integer.proofs.Order.{NonNeg}
use Rattle.integer.proofs.Division.{rem-euclid-nonneg, rem-euclid-lt}

-- ---- the divisor by its bits
pub zero_bits : (d : ℤ) → SFits w64 d → of_z w64 d ≡ 0 → d ≡ pos 0
zero_bits d f e = sym (to_z-of_z f) ∙ ap (to_z w64) e

pub nonzero-size : (d : ℤ) → (of_z w64 d ≡ 0 → ⊥) → 0 < nat_abs d
nonzero-size (pos n) h = omega arith
nonzero-size (negsuc n) h = omega arith

pub size-bits : (d : ℤ) → SFits w64 d → 0 < nat_abs d → 0 < of_z w64 d
size-bits (pos n) f h = h
size-bits (negsuc n) f h = omega (arith, f.sfits)

-- ---- what fits
half : (a b : ℕ) → a / suc (suc b) + a / suc (suc b) ≤ a
half a b = omega (arith, div-mul-le_self a (suc (suc b)), mul-le-mul_left {m = 2} {n = suc (suc b)} (a / suc (suc b)) (omega arith))

neg-mag : (k a : ℕ) → k ≤ suc a → mag (neg_ℤ (pos k)) ≤ a
neg-mag zero a h = omega arith
neg-mag (suc k) a h = omega arith

pub quot-sfits : (a d : ℤ) → SFits w64 a → (d ≡ negsuc 0 → ⊥) → SFits w64 (quot_z a d)
quot-sfits (pos a) (pos b) f n = record { sfits = omega (arith, div-le_self a b, f.sfits) }
quot-sfits (pos a) (negsuc b) f n = record { sfits = omega (arith, neg-mag (a / suc b) a (omega (arith, div-le_self a (suc b))), f.sfits) }
quot-sfits (negsuc a) (pos b) f n = record { sfits = omega (arith, neg-mag (suc a / b) a (div-le_self (suc a) b), f.sfits) }
quot-sfits (negsuc a) (negsuc zero) f n = absurd (n refl)
quot-sfits (negsuc a) (negsuc (suc b)) f n = record { sfits = omega (arith, half (suc a) b, f.sfits) }

pub div-euclid-sfits : (a d : ℤ) → SFits w64 a → (d ≡ negsuc 0 → ⊥) → SFits w64 (div_euclid a d)
div-euclid-sfits (pos a) d f n = quot-sfits (pos a) d f n
div-euclid-sfits (negsuc a) (pos b) f n = record { sfits = omega (arith, div-le_self a b, f.sfits) }
div-euclid-sfits (negsuc a) (negsuc zero) f n = absurd (n refl)
div-euclid-sfits (negsuc a) (negsuc (suc b)) f n = record { sfits = omega (arith, half a b, f.sfits) }

euclid-minus-one : (a : ℤ) → div_euclid a (negsuc 0) ≡ quot_z a (negsuc 0)
euclid-minus-one (pos n) = refl
euclid-minus-one (negsuc n) = ap (λ (k : ℕ). pos (suc k)) (div-one n) ∙ sym (ap pos (div-one (suc n)))

test_of : (z : ℤ) → SFits w64 z → fits64 z ≡ true
test_of z f = is_true (fits64 z) (lt→ltb (mag z) 0x8000000000000000 f.sfits)

-- so one test serves both divisions
pub same-fits : (a d : ℤ) → SFits w64 a → fits64 (quot_z a d) ≡ fits64 (div_euclid a d)
same-fits a (pos n) f = test_of (quot_z a (pos n)) (quot-sfits a (pos n) f (pos-ne-negsuc n 0)) ∙ sym (test_of (div_euclid a (pos n)) (div-euclid-sfits a (pos n) f (pos-ne-negsuc n 0)))
same-fits a (negsuc zero) f = ap fits64 (sym (euclid-minus-one a))
same-fits a (negsuc (suc n)) f = test_of (quot_z a (negsuc (suc n))) (quot-sfits a (negsuc (suc n)) f (differ n)) ∙ sym (test_of (div_euclid a (negsuc (suc n))) (div-euclid-sfits a (negsuc (suc n)) f (differ n)))
  where
    differ : (n : ℕ) → negsuc (suc n) ≡ negsuc 0 → ⊥
    differ n e = never n (ap mag e)
      where
        never : (n : ℕ) → suc n ≡ 0 → ⊥
        never n e = omega arith

pub rem-sfits : (a d : ℤ) → SFits w64 d → 0 < nat_abs d → SFits w64 (rem_euclid a d)
rem-sfits a d f h = record { sfits = small (rem_euclid a d) (rem-euclid-nonneg a d) (rem-euclid-lt a d h) (nat_abs-le d f.sfits) }
  where
    small : (r : ℤ) → NonNeg r → {n : ℕ} → nat_abs r < n → n ≤ 0x8000000000000000 → mag r < 0x8000000000000000
    small (pos r) s h l = omega arith
    small (negsuc r) s h l = absurd s.sign

pub rem-toward-sfits : (a d : ℤ) → SFits w64 a → SFits w64 (rem_z a d)
rem-toward-sfits a d f = record { sfits = lt_of_le_of_lt (mag_rem a d) f.sfits }
