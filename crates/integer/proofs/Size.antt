-- The size of a whole number, `nat_abs`: of a negative, a product, a sum; and what fits a width by its size.
use mathlib.Core.Path.{◌≡◌, refl, ap}
use mathlib.Core.Bool.{not}
use lib.IntN.{ℤ, pos, negsuc, neg_ℤ, nat_abs, sub_ℕ, ◌+ℤ◌, ◌*ℤ◌}
use lib.Signed.{mag}
use lib.Dec.{T, ltb, ltb→lt, eqb→eq, not_T}
use Prim.Native.Nat.{ℕ, zero, suc, ◌+◌, ◌*◌, ◌-◌, ◌^◌, ◌≤◌, ◌<◌}
use native.Mathlib.Nat.{lt_of_le_of_lt}
use native.Mathlib.Omega.{arith}
use mir.Syntax.{Width}
use mir.Val.{SFits, hbits}
use Rattle.integer.proofs.Test.{cond_cases}
use Rattle.integer.specs.Parts.{up, dn}
use Rattle.integer.specs.Checked.{is_zero}

pub abs_neg : (z : ℤ) → nat_abs (neg_ℤ z) ≡ nat_abs z
abs_neg (pos zero) = refl
abs_neg (pos (suc n)) = refl
abs_neg (negsuc n) = refl

pub abs-mul : (a b : ℤ) → nat_abs (a *ℤ b) ≡ nat_abs a * nat_abs b
abs-mul (pos a) (pos b) = refl
abs-mul (pos a) (negsuc b) = abs_neg (pos (a * suc b))
abs-mul (negsuc a) (pos b) = abs_neg (pos (suc a * b))
abs-mul (negsuc a) (negsuc b) = refl

-- m - n, of two naturals
abs-sub : (m n : ℕ) → nat_abs (sub_ℕ m n) ≤ m + n
abs-sub m n =
    cond_cases (ltb m n) (negsuc (n - suc m)) (pos (m - n)) (λ z. nat_abs z ≤ m + n)
    (λ t. let h = ltb→lt m n t in omega arith)
    (λ t. omega arith)

pub abs-add : (a b : ℤ) → nat_abs (a +ℤ b) ≤ nat_abs a + nat_abs b
abs-add (pos a) (pos b) = omega arith
abs-add (pos a) (negsuc b) = omega (arith, abs-sub a (suc b))
abs-add (negsuc a) (pos b) = omega (arith, abs-sub b (suc a))
abs-add (negsuc a) (negsuc b) = omega arith

pub abs-zero : (z : ℤ) → nat_abs z ≡ 0 → z ≡ pos 0
abs-zero (pos n) e = ap pos e
abs-zero (negsuc n) e = absurd (never n e)
  where
    never : (n : ℕ) → suc n ≡ 0 → ⊥
    never n e = omega arith

-- ---- the test for 0
pub zero_test : (z : ℤ) → T (is_zero z) → z ≡ pos 0
zero_test z t = abs-zero z (eqb→eq (nat_abs z) 0 t)

pub nonzero-test : (z : ℤ) → T (not (is_zero z)) → zero < nat_abs z
nonzero-test (pos zero) t = absurd t
nonzero-test (pos (suc n)) t = omega arith
nonzero-test (negsuc n) t = omega arith

pub test-nonzero : (z : ℤ) → zero < nat_abs z → T (not (is_zero z))
test-nonzero z h = not_T (is_zero z) (λ t. never (nat_abs z) h (eqb→eq (nat_abs z) 0 t))
  where
    never : (n : ℕ) → zero < n → n ≡ 0 → ⊥
    never n h e = omega arith

-- ---- and what fits
pub mag-le : (z : ℤ) → mag z ≤ nat_abs z
mag-le (pos n) = omega arith
mag-le (negsuc n) = omega arith

pub sfits-abs : {w : Width} {z : ℤ} → nat_abs z < 2 ^ hbits w → SFits w z
sfits-abs {w} {z} h = record { sfits = lt_of_le_of_lt (mag-le z) h }

-- ---- sizes for omega: nat_abs z < k is -k < z < k, by parts
pub abs-between : (z : ℤ) (k : ℕ) → (up z < dn z + k) × (dn z < up z + k) → nat_abs z < k
abs-between (pos n) k h = omega arith
abs-between (negsuc n) k h = omega arith

pub abs-parts : (z : ℤ) → nat_abs z ≡ up z + dn z
abs-parts (pos n) = omega arith
abs-parts (negsuc n) = omega arith
