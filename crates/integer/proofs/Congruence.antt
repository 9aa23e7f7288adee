-- Congruence modulo d: an equivalence that sums, products and negatives keep, and that holds exactly between numbers of one remainder.
use mathlib.Core.Path.{◌≡◌, sym}
use mathlib.Core.List.{[], ◌∷◌}
use lib.IntN.{ℤ, pos, negsuc, neg_ℤ, nat_abs, ◌+ℤ◌, ◌*ℤ◌}
use Prim.Native.Nat.{zero, ◌<◌}
use Rattle.integer.specs.Division.{div_euclid, rem_euclid}
use Rattle.integer.specs.Divides.{Congruent}
use Rattle.integer.proofs.Reify.{ring, reify, zero-by, ◌∗◌, ◌⊹◌, eq-by}
use Rattle.integer.proofs.Division.{div-rem-euclid, rem-euclid-nonneg, rem-euclid-lt, euclid-unique}
use Rattle.integer.proofs.Divides.{divides-comb}

-- a = b + k·d
pub congruent-by : {d a b : ℤ} (k : ℤ) → a ≡ b +ℤ k *ℤ d → Congruent d a b
congruent-by {d} {a} {b} k e = record { apart = record { times = k; is = eq-by (zero-by e) (ring (k ∷ d ∷ a ∷ b ∷ []) (search reify depth 40) tt) } }

pub congruent-is : {d a b : ℤ} (c : Congruent d a b) → a ≡ b +ℤ c.apart.times *ℤ d
congruent-is {d} {a} {b} c = eq-by (zero-by c.apart.is) (ring (c.apart.times ∷ d ∷ a ∷ b ∷ []) (search reify depth 40) tt)

pub congruent-refl : (d a : ℤ) → Congruent d a a
congruent-refl d a = congruent-by (pos 0) (ring (d ∷ a ∷ []) (search reify depth 40) tt)

pub congruent-sym : {d a b : ℤ} → Congruent d a b → Congruent d b a
congruent-sym {d} {a} {b} c = record { apart = divides-comb (negsuc 0) (pos 0) c.apart c.apart (ring (a ∷ b ∷ []) (search reify depth 40) tt) }

pub congruent-trans : {d a b c : ℤ} → Congruent d a b → Congruent d b c → Congruent d a c
congruent-trans {d} {a} {b} {c} p q = record { apart = divides-comb (pos 1) (pos 1) p.apart q.apart (ring (a ∷ b ∷ c ∷ []) (search reify depth 40) tt) }

pub congruent-add : {d a b x y : ℤ} → Congruent d a b → Congruent d x y → Congruent d (a +ℤ x) (b +ℤ y)
congruent-add {d} {a} {b} {x} {y} p q = record { apart = divides-comb (pos 1) (pos 1) p.apart q.apart (ring (a ∷ b ∷ x ∷ y ∷ []) (search reify depth 40) tt) }

pub congruent-mul : {d a b x y : ℤ} → Congruent d a b → Congruent d x y → Congruent d (a *ℤ x) (b *ℤ y)
congruent-mul {d} {a} {b} {x} {y} p q = record { apart = divides-comb x b p.apart q.apart (ring (a ∷ b ∷ x ∷ y ∷ []) (search reify depth 40) tt) }

pub congruent-neg : {d a b : ℤ} → Congruent d a b → Congruent d (neg_ℤ a) (neg_ℤ b)
congruent-neg {d} {a} {b} p = record { apart = divides-comb (negsuc 0) (pos 0) p.apart p.apart (ring (a ∷ b ∷ []) (search reify depth 40) tt) }

-- ---- remainders
module _ (d : ℤ) (h : zero < nat_abs d) where
  pub rem-congruent : (a : ℤ) → Congruent d (rem_euclid a d) a
  rem-congruent a = congruent-by (neg_ℤ (div_euclid a d)) (eq-by (zero-by (div-rem-euclid a d h)) (ring (div_euclid a d ∷ rem_euclid a d ∷ a ∷ d ∷ []) (search reify depth 40) tt))

  pub same-rem : {a b : ℤ} → Congruent d a b → rem_euclid a d ≡ rem_euclid b d
  same-rem {a} {b} c = sym (euclid-unique a d (div_euclid b d +ℤ c.apart.times) (rem_euclid b d) eqn (rem-euclid-nonneg b d) (rem-euclid-lt b d h)).1
    where
      eqn : (div_euclid b d +ℤ c.apart.times) *ℤ d +ℤ rem_euclid b d ≡ a
      eqn = eq-by (zero-by (div-rem-euclid b d h) ⊹ zero-by (congruent-is c) ∗ negsuc 0) (ring (div_euclid b d ∷ rem_euclid b d ∷ c.apart.times ∷ a ∷ b ∷ d ∷ []) (search reify depth 40) tt)

  pub rem-same : {a b : ℤ} → rem_euclid a d ≡ rem_euclid b d → Congruent d a b
  rem-same {a} {b} e = congruent-trans (congruent-sym (rem-congruent a)) (congruent-trans (same-is e) (rem-congruent b))
    where
      same-is : {x y : ℤ} → x ≡ y → Congruent d x y
      same-is {x} {y} e = congruent-by (pos 0) (eq-by (zero-by e) (ring (x ∷ y ∷ d ∷ []) (search reify depth 40) tt))
