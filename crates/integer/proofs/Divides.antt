-- Laws of divisibility and of greatest common divisors; units; no zero divisors.
use mathlib.Core.Path.{◌≡◌, refl, sym, ◌∙◌, ap, ap₂, subst}
use mathlib.Core.List.{[], ◌∷◌}
use lib.IntN.{ℤ, pos, negsuc, neg_ℤ, nat_abs, ◌+ℤ◌, ◌*ℤ◌, ◌-ℤ◌, zero-*ℤ}
use lib.Signed.{quot_z, rem_z}
use Prim.Native.Nat.{ℕ, zero, suc, ◌+◌, ◌*◌, ◌≤◌, ◌<◌}
use native.Mathlib.Nat.{eq-zero-or-pos, mul-le-mul_right}
use mathlib.Core.Logic.{⊎_elim}
use native.Mathlib.Omega.{arith}
use Rattle.integer.specs.Division.{div_euclid, rem_euclid}
use Rattle.integer.specs.Divides.{Divides, IsGcd}
use Rattle.integer.proofs.Ring.{sub-eq-zero, *ℤ-assoc}
use Rattle.integer.proofs.Reify.{ring, reify, zero-by, ◌∗◌, eq-by}
use Rattle.integer.proofs.Size.{abs-mul, abs-zero}
use Rattle.integer.proofs.Division.{SameSign, quot-rem, quot_unique, div-rem-euclid, euclid-unique}

-- ---- no zero divisors, cancellation, units
nat-zero : (m n : ℕ) → zero < n → m * n ≡ zero → m ≡ zero
nat-zero zero n h e = refl
nat-zero (suc m) n h e = absurd (never m n h e)
  where
    never : (m n : ℕ) → zero < n → suc m * n ≡ zero → ⊥
    never m n h e = omega arith

pub zero-of-mul : (x d : ℤ) → zero < nat_abs d → x *ℤ d ≡ pos 0 → x ≡ pos 0
zero-of-mul x d h e = abs-zero x (nat-zero (nat_abs x) (nat_abs d) h (sym (abs-mul x d) ∙ ap nat_abs e))

pub mul-cancel : (x y d : ℤ) → zero < nat_abs d → x *ℤ d ≡ y *ℤ d → x ≡ y
mul-cancel x y d h e = sub-eq-zero x y (zero-of-mul (x -ℤ y) d h (eq-by (zero-by e) (ring (x ∷ y ∷ d ∷ []) (search reify depth 40) tt)))

nat-factors : (m n : ℕ) → zero < m * n → (zero < m) × (zero < n)
nat-factors zero n h = absurd (omega arith)
nat-factors (suc m) zero h = absurd (never m h)
  where
    never : (m : ℕ) → zero < suc m * zero → ⊥
    never m h = omega arith
nat-factors (suc m) (suc n) h = (omega arith, omega arith)

-- the factors of a product that is not 0
pub nonzero-factors : (x y : ℤ) → zero < nat_abs (x *ℤ y) → (zero < nat_abs x) × (zero < nat_abs y)
nonzero-factors x y h = nat-factors (nat_abs x) (nat_abs y) (subst (λ (n : ℕ). zero < n) (abs-mul x y) h)

nat-one : (m n : ℕ) → m * n ≡ 1 → m ≡ 1
nat-one zero n e = absurd (never n e)
  where
    never : (n : ℕ) → zero * n ≡ 1 → ⊥
    never n e = omega arith
nat-one (suc m) zero e = absurd (never m e)
  where
    never : (m : ℕ) → suc m * zero ≡ 1 → ⊥
    never m e = omega arith
nat-one (suc m) (suc n) e = omega arith

-- a unit is 1 or -1
pub unit-abs : (x y : ℤ) → x *ℤ y ≡ pos 1 → nat_abs x ≡ 1
unit-abs x y e = nat-one (nat_abs x) (nat_abs y) (sym (abs-mul x y) ∙ ap nat_abs e)

pub unit-square : (x : ℤ) → nat_abs x ≡ 1 → x *ℤ x ≡ pos 1
unit-square (pos n) e = ap (λ (k : ℕ). pos (k * k)) e
unit-square (negsuc n) e = ap (λ (k : ℕ). pos (k * k)) e

-- ---- a divisor of sums and multiples
pub divides-refl : (d : ℤ) → Divides d d
divides-refl d = record { times = pos 1; is = ring (d ∷ []) (search reify depth 40) tt }

pub divides-zero : (d : ℤ) → Divides d (pos 0)
divides-zero d = record { times = pos 0; is = sym (zero-*ℤ d) }

pub divides-trans : {a b c : ℤ} → Divides a b → Divides b c → Divides a c
divides-trans {a} p q = record { times = q.times *ℤ p.times; is = q.is ∙ ap (λ t. q.times *ℤ t) p.is ∙ sym (*ℤ-assoc q.times p.times a) }

-- z is j·x + k·y
pub divides-comb : {d x y z : ℤ} (j k : ℤ) → Divides d x → Divides d y → z ≡ j *ℤ x +ℤ k *ℤ y → Divides d z
divides-comb {d} {x} {y} {z} j k p q e = record {
  times = j *ℤ p.times +ℤ k *ℤ q.times;
  is = e ∙ ap₂ (λ u v. j *ℤ u +ℤ k *ℤ v) p.is q.is ∙ ring (j ∷ k ∷ p.times ∷ q.times ∷ d ∷ []) (search reify depth 40) tt;
}

pub divides-add : {d x y : ℤ} → Divides d x → Divides d y → Divides d (x +ℤ y)
divides-add {d} {x} {y} p q = divides-comb (pos 1) (pos 1) p q (ring (x ∷ y ∷ []) (search reify depth 40) tt)

pub divides-mul : {d x : ℤ} (k : ℤ) → Divides d x → Divides d (k *ℤ x)
divides-mul {d} {x} k p = divides-comb k (pos 0) p p (ring (k ∷ x ∷ []) (search reify depth 40) tt)

pub divides-neg : {d x : ℤ} → Divides d x → Divides d (neg_ℤ x)
divides-neg {d} {x} p = divides-comb (negsuc 0) (pos 0) p p (ring (x ∷ []) (search reify depth 40) tt)

-- ---- sizes: a divisor of a number that is not 0 is at most that number, and at most half of it if it is smaller
pub divides-le : {d z : ℤ} → Divides d z → zero < nat_abs z → nat_abs d ≤ nat_abs z
divides-le {d} {z} p h = ⊎_elim (λ e. absurd (none e)) (λ k. omega (arith, times-size, mul-le-mul_right (nat_abs d) k)) (eq-zero-or-pos (nat_abs p.times))
  where
    times-size : nat_abs z ≡ nat_abs p.times * nat_abs d
    times-size = ap nat_abs p.is ∙ abs-mul p.times d

    none : nat_abs p.times ≡ zero → ⊥
    none e = let n : nat_abs z ≡ zero * nat_abs d = times-size ∙ ap (λ (k : ℕ). k * nat_abs d) e in omega arith

pub divides-half : {d z : ℤ} → Divides d z → nat_abs d < nat_abs z → nat_abs d + nat_abs d ≤ nat_abs z
divides-half {d} {z} p h = half (nat_abs p.times) (nat_abs d) (nat_abs z) (ap nat_abs p.is ∙ abs-mul p.times d) h
  where
    half : (k d z : ℕ) → z ≡ k * d → d < z → d + d ≤ z
    half zero d z e h = omega arith
    half (suc zero) d z e h = omega arith
    half (suc (suc k)) d z e h = omega arith

pub divides-antisym : {a b : ℤ} → Divides a b → Divides b a → nat_abs a ≡ nat_abs b
divides-antisym {a} {b} p q = go (nat_abs a) (nat_abs b) (nat_abs p.times) (nat_abs q.times) (ap nat_abs p.is ∙ abs-mul p.times a) (ap nat_abs q.is ∙ abs-mul q.times b)
  where
    go : (m n j k : ℕ) → n ≡ j * m → m ≡ k * n → m ≡ n
    go m n zero k e f = omega (arith, ap (λ (t : ℕ). k * t) e)
    go m n (suc j) zero e f = omega (arith, ap (λ (t : ℕ). suc j * t) f)
    go m n (suc j) (suc k) e f = omega arith

pub divides-unit : {d : ℤ} → Divides d (pos 1) → nat_abs d ≡ 1
divides-unit {d} p = unit-abs d p.times (sym (p.is ∙ ring (d ∷ p.times ∷ []) (search reify depth 40) tt))

-- ---- and the remainders: d divides a exactly if a leaves none
pub rem-zero : (a d : ℤ) → rem_z a d ≡ pos 0 → Divides d a
rem-zero a d e = record { times = quot_z a d; is = sym (quot-rem a d) ∙ eq-by (zero-by e) (ring (quot_z a d ∷ rem_z a d ∷ d ∷ []) (search reify depth 40) tt) }

no_sign : (a : ℤ) → SameSign a (pos 0)
no_sign (pos a) = record { sign = tt }
no_sign (negsuc a) = record { sign = tt }

exact : {a d : ℤ} → zero < nat_abs d → (p : Divides d a) → (p.times ≡ quot_z a d) × (pos 0 ≡ rem_z a d)
exact {a} {d} h p = quot_unique a d p.times (pos 0) (sym (p.is ∙ ring (p.times ∷ d ∷ []) (search reify depth 40) tt)) (no_sign a) h

pub divides-quot : {a d : ℤ} → zero < nat_abs d → (p : Divides d a) → quot_z a d ≡ p.times
divides-quot h p = sym (exact h p).0

pub divides-rem : {a d : ℤ} → zero < nat_abs d → Divides d a → rem_z a d ≡ pos 0
divides-rem h p = sym (exact h p).1

pub rem-euclid-zero : (a d : ℤ) → zero < nat_abs d → rem_euclid a d ≡ pos 0 → Divides d a
rem-euclid-zero a d h e = record { times = div_euclid a d; is = sym (div-rem-euclid a d h) ∙ eq-by (zero-by e) (ring (div_euclid a d ∷ rem_euclid a d ∷ d ∷ []) (search reify depth 40) tt) }

pub divides-rem-euclid : {a d : ℤ} → zero < nat_abs d → Divides d a → rem_euclid a d ≡ pos 0
divides-rem-euclid {a} {d} h p = sym (euclid-unique a d p.times (pos 0) (sym (p.is ∙ ring (p.times ∷ d ∷ []) (search reify depth 40) tt)) (record { sign = tt }) h).1

-- ---- greatest common divisors
-- a common divisor that is a combination of both
pub gcd-bezout : {g a b : ℤ} (s t : ℤ) → Divides g a → Divides g b → g ≡ s *ℤ a +ℤ t *ℤ b → IsGcd g a b
gcd-bezout s t p q e = record { left = p; right = q; greatest = λ d m n. divides-comb s t m n e }

pub gcd-zero : (a : ℤ) → IsGcd a a (pos 0)
gcd-zero a = record { left = divides-refl a; right = divides-zero a; greatest = λ d m n. m }

pub gcd-swap : {g a b : ℤ} → IsGcd g a b → IsGcd g b a
gcd-swap p = record { left = p.right; right = p.left; greatest = λ d m n. p.greatest d n m }

-- a step of Euclid's: a = q·b + r
pub gcd-step : {g a b r : ℤ} (q : ℤ) → a ≡ q *ℤ b +ℤ r → IsGcd g b r → IsGcd g a b
gcd-step {g} {a} {b} {r} q e p = record {
  left = divides-comb q (pos 1) p.left p.right (e ∙ ring (q ∷ b ∷ r ∷ []) (search reify depth 40) tt);
  right = p.left;
  greatest = λ d m n. p.greatest d n (divides-comb (pos 1) (neg_ℤ q) m n (eq-by (zero-by e ∗ negsuc 0) (ring (q ∷ a ∷ b ∷ r ∷ []) (search reify depth 40) tt)));
}

pub gcd-unique : {g h a b : ℤ} → IsGcd g a b → IsGcd h a b → nat_abs g ≡ nat_abs h
gcd-unique {g} {h} p q = divides-antisym (q.greatest g p.left p.right) (p.greatest h q.left q.right)
