-- Division of whole numbers, toward zero (`quot_z`, `rem_z`) and Euclidean: each has a quotient and a remainder, the remainder is bounded, and there is one such
-- pair; and what one is to the other.
use mathlib.Core.Path.{◌≡◌, refl, sym, ◌∙◌, ap, subst}
use mathlib.Core.List.{[], ◌∷◌}
use lib.IntN.{ℤ, pos, negsuc, neg_ℤ, nat_abs, ◌+ℤ◌, ◌*ℤ◌, ◌-ℤ◌, neg_ℤ-neg_ℤ, neg_ℤ-+ℤ}
use lib.Signed.{quot_z, rem_z, ◌<ℤ◌}
use Prim.Native.Nat.{ℕ, zero, suc, ◌+◌, ◌*◌, ◌-◌, ◌/◌, ◌%◌, ◌<◌}
use native.Mathlib.Nat.{div-add-mod', mod-lt}
use native.Mathlib.Omega.{arith}
use Rattle.integer.specs.Division.{div_euclid, rem_euclid}
use Rattle.integer.proofs.Ring.{neg-*ℤ, sub-eq-zero}
use Rattle.integer.proofs.Reify.{ring, reify, zero-by, ◌∗◌, ◌⊹◌, eq-by}
use Rattle.integer.proofs.Parts.{ints, sum, difference, negative}
use Rattle.integer.proofs.Order.{NonNeg, nonneg-dn, neg-up, pos-dn, parts-nonneg}
use Rattle.integer.proofs.Size.{abs_neg, abs-mul, abs-zero, abs-between, abs-parts}

-- ---- toward zero
neg_sum : (q b r : ℕ) {n : ℕ} → q * b + r ≡ n → neg_ℤ (pos q) *ℤ pos b +ℤ neg_ℤ (pos r) ≡ neg_ℤ (pos n)
neg_sum q b r e = ap (λ t. t +ℤ neg_ℤ (pos r)) (neg-*ℤ (pos q) (pos b)) ∙ sym (neg_ℤ-+ℤ (pos (q * b)) (pos r)) ∙ ap (λ (n : ℕ). neg_ℤ (pos n)) e

pub quot-rem : (a d : ℤ) → quot_z a d *ℤ d +ℤ rem_z a d ≡ a
quot-rem (pos a) (pos b) = ap pos (div-add-mod' a b)
quot-rem (pos a) (negsuc b) = ap (λ t. t +ℤ pos (a % suc b)) (neg-*ℤ (pos (a / suc b)) (negsuc b) ∙ neg_ℤ-neg_ℤ (pos (a / suc b * suc b))) ∙ ap pos (div-add-mod' a (suc b))
quot-rem (negsuc a) (pos b) = neg_sum (suc a / b) b (suc a % b) (div-add-mod' (suc a) b)
quot-rem (negsuc a) (negsuc b) = sym (neg_ℤ-+ℤ (pos (suc a / suc b * suc b)) (pos (suc a % suc b))) ∙ ap (λ (n : ℕ). neg_ℤ (pos n)) (div-add-mod' (suc a) (suc b))

abs-rem : (a d : ℤ) → nat_abs (rem_z a d) ≡ nat_abs a % nat_abs d
abs-rem (pos a) d = refl
abs-rem (negsuc a) d = abs_neg (pos (suc a % nat_abs d))

pub rem_lt : (a d : ℤ) → zero < nat_abs d → nat_abs (rem_z a d) < nat_abs d
rem_lt a d h = subst (λ (n : ℕ). n < nat_abs d) (sym (abs-rem a d)) (mod-lt (nat_abs a) h)

-- r has the sign of a, or is 0
abbrev pub SameSign : ℤ → ℤ → Type 0
SameSign (pos a) r = NonNeg r
SameSign (negsuc a) r = NonNeg (neg_ℤ r)

pub rem-sign : (a d : ℤ) → SameSign a (rem_z a d)
rem-sign (pos a) d = record { sign = tt }
rem-sign (negsuc a) d = subst NonNeg (sym (neg_ℤ-neg_ℤ (pos (suc a % nat_abs d)))) (record { sign = tt })

-- ---- Euclidean
pub rem-euclid-nonneg : (a d : ℤ) → NonNeg (rem_euclid a d)
rem-euclid-nonneg (pos a) d = record { sign = tt }
rem-euclid-nonneg (negsuc a) d = record { sign = tt }

pub rem-euclid-lt : (a d : ℤ) → zero < nat_abs d → nat_abs (rem_euclid a d) < nat_abs d
rem-euclid-lt (pos a) d h = mod-lt a h
rem-euclid-lt (negsuc a) d h = omega arith

-- -(a + 1) = -(q + 1)·b + (b - (r + 1)), where a = q·b + r
below : (q b r a : ℕ) → q * b + r ≡ a → r < b → neg_ℤ (pos (suc q * b)) +ℤ pos (b - suc r) ≡ negsuc a
below q b r a e h = ap (λ (n : ℕ). neg_ℤ (pos n) +ℤ pos (b - suc r)) (whole q b r a e h) ∙ cancel (pos (suc a)) (pos (b - suc r))
  where
    whole : (q b r a : ℕ) → q * b + r ≡ a → r < b → suc q * b ≡ suc a + (b - suc r)
    whole q b r a e h = omega arith

    cancel : (x y : ℤ) → neg_ℤ (x +ℤ y) +ℤ y ≡ neg_ℤ x
    cancel x y = ring (x ∷ y ∷ []) (search reify depth 40) tt

pub div-rem-euclid : (a d : ℤ) → zero < nat_abs d → div_euclid a d *ℤ d +ℤ rem_euclid a d ≡ a
div-rem-euclid (pos a) (pos b) h = ap pos (div-add-mod' a b)
div-rem-euclid (pos a) (negsuc b) h = quot-rem (pos a) (negsuc b)
div-rem-euclid (negsuc a) (pos b) h = below (a / b) b (a % b) a (div-add-mod' a b) (mod-lt a h)
div-rem-euclid (negsuc a) (negsuc b) h = below (a / suc b) (suc b) (a % suc b) a (div-add-mod' a (suc b)) (mod-lt a h)

-- ---- uniqueness: remainders less than |d| apart have one quotient
small-multiple : (k m : ℕ) → k * m < m → k ≡ zero
small-multiple zero m h = refl
small-multiple (suc k) m h = absurd (never k m h)
  where
    never : (k m : ℕ) → suc k * m < m → ⊥
    never k m h = omega arith

unique : (q p d r s : ℤ) → q *ℤ d +ℤ r ≡ p *ℤ d +ℤ s → nat_abs (s -ℤ r) < nat_abs d → (q ≡ p) × (r ≡ s)
unique q p d r s e h = (same, eq-by (zero-by e ⊹ zero-by same ∗ neg_ℤ d) (ring (q ∷ p ∷ d ∷ r ∷ s ∷ []) (search reify depth 40) tt))
  where
    apart : (q -ℤ p) *ℤ d ≡ s -ℤ r
    apart = eq-by (zero-by e) (ring (q ∷ p ∷ d ∷ r ∷ s ∷ []) (search reify depth 40) tt)

    same : q ≡ p
    same = sub-eq-zero q p (abs-zero (q -ℤ p) (small-multiple (nat_abs (q -ℤ p)) (nat_abs d) (subst (λ (n : ℕ). n < nat_abs d) (ap nat_abs (sym apart) ∙ abs-mul (q -ℤ p) d) h)))

-- two numbers of one sign
near : (r s : ℤ) (k : ℕ) → NonNeg r → NonNeg s → nat_abs r < k → nat_abs s < k → nat_abs (s -ℤ r) < k
near r s k a b h l =
    abs-between (s -ℤ r) k
    (omega (arith, difference s r, abs-parts r, abs-parts s, nonneg-dn a, nonneg-dn b))

pub euclid-unique : (a d q r : ℤ) → q *ℤ d +ℤ r ≡ a → NonNeg r → nat_abs r < nat_abs d → (q ≡ div_euclid a d) × (r ≡ rem_euclid a d)
euclid-unique a d q r e n h =
    unique q (div_euclid a d) d r (rem_euclid a d) (e ∙ sym (div-rem-euclid a d (omega arith)))
    (near r (rem_euclid a d) (nat_abs d) n (rem-euclid-nonneg a d) h (rem-euclid-lt a d (omega arith)))

near-sign : (a r s : ℤ) (k : ℕ) → SameSign a r → SameSign a s → nat_abs r < k → nat_abs s < k → nat_abs (s -ℤ r) < k
near-sign (pos a) r s k m n h l = near r s k m n h l
near-sign (negsuc a) r s k m n h l =
    abs-between (s -ℤ r) k
    (omega (arith, difference s r, abs-parts r, abs-parts s, (negative r).0, (negative r).1, (negative s).0, (negative s).1, nonneg-dn m, nonneg-dn n))

pub quot_unique : (a d q r : ℤ) → q *ℤ d +ℤ r ≡ a → SameSign a r → nat_abs r < nat_abs d → (q ≡ quot_z a d) × (r ≡ rem_z a d)
quot_unique a d q r e n h =
    unique q (quot_z a d) d r (rem_z a d) (e ∙ sym (quot-rem a d))
    (near-sign a r (rem_z a d) (nat_abs d) n (rem-sign a d) h (rem_lt a d (omega arith)))

-- ---- from the division toward zero to the Euclidean one
module _ (a d : ℤ) (h : zero < nat_abs d) where
  pub euclid-same : NonNeg (rem_z a d) → (quot_z a d ≡ div_euclid a d) × (rem_z a d ≡ rem_euclid a d)
  euclid-same n = euclid-unique a d (quot_z a d) (rem_z a d) (quot-rem a d) n (rem_lt a d h)

  pub euclid-down : rem_z a d <ℤ pos 0 → pos 0 <ℤ d → (quot_z a d -ℤ pos 1 ≡ div_euclid a d) × (rem_z a d +ℤ d ≡ rem_euclid a d)
  euclid-down n p =
      euclid-unique a d (quot_z a d -ℤ pos 1) (rem_z a d +ℤ d) (shift (quot_z a d) (rem_z a d) d ∙ quot-rem a d)
      (parts-nonneg (rem_z a d +ℤ d) (omega (arith, ints, sum (rem_z a d) d, rem_lt a d h, abs-parts (rem_z a d), abs-parts d, neg-up n, pos-dn p)))
      (abs-between (rem_z a d +ℤ d) (nat_abs d)
      (omega (arith, ints, sum (rem_z a d) d, rem_lt a d h, abs-parts (rem_z a d), abs-parts d, neg-up n, pos-dn p)))
    where
      shift : (q r d : ℤ) → (q -ℤ pos 1) *ℤ d +ℤ (r +ℤ d) ≡ q *ℤ d +ℤ r
      shift q r d = ring (q ∷ r ∷ d ∷ []) (search reify depth 40) tt

  pub euclid-up : rem_z a d <ℤ pos 0 → d <ℤ pos 0 → (quot_z a d +ℤ pos 1 ≡ div_euclid a d) × (rem_z a d -ℤ d ≡ rem_euclid a d)
  euclid-up n p =
      euclid-unique a d (quot_z a d +ℤ pos 1) (rem_z a d -ℤ d) (shift (quot_z a d) (rem_z a d) d ∙ quot-rem a d)
      (parts-nonneg (rem_z a d -ℤ d) (omega (arith, ints, difference (rem_z a d) d, rem_lt a d h, abs-parts (rem_z a d), abs-parts d, neg-up n, neg-up p)))
      (abs-between (rem_z a d -ℤ d) (nat_abs d)
      (omega (arith, ints, difference (rem_z a d) d, rem_lt a d h, abs-parts (rem_z a d), abs-parts d, neg-up n, neg-up p)))
    where
      shift : (q r d : ℤ) → (q +ℤ pos 1) *ℤ d +ℤ (r -ℤ d) ≡ q *ℤ d +ℤ r
      shift q r d = ring (q ∷ r ∷ d ∷ []) (search reify depth 40) tt
