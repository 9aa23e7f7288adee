-- The Hermite form is one: two of them that a matrix with a determinant of 1 or -1 leads to each other are equal.
use mathlib.Core.Path.{◌≡◌, sym, ◌∙◌, ap, ap₂, subst}
use mathlib.Core.List.{[], ◌∷◌}
use Prim.Native.Nat.{ℕ, zero, ◌+◌, ◌*◌, ◌<◌}
use native.Mathlib.Nat.{mul_assoc, mul_comm}
use native.Mathlib.Omega.{arith}
use lib.Dec.{ltb→lt}
use lib.IntN.{ℤ, pos, negsuc, nat_abs, ◌+ℤ◌, ◌*ℤ◌}
use lib.Signed.{◌<ℤ◌}
use Rattle.integer.proofs.Order.{NonNeg, nonneg_of}
use Rattle.integer.proofs.Reify.{ring, reify}
use Rattle.integer.proofs.Size.{abs-mul}
use Rattle.integer.proofs.Divides.{zero-of-mul, unit-abs}
use Rattle.integer.proofs.Division.{euclid-unique}
use Rattle.common.specs.Matrix.{Mat, ◌·◌, det}
use Rattle.common.proofs.Matrix.{identity-product}
use Rattle.common.proofs.Unimodular.{Unimodular}
use Rattle.hermite3x3.specs.Points.{Reduced, HermiteForm}

-- ---- positive numbers and remainders by their sizes
pub positive-size : {x : ℤ} → pos 0 <ℤ x → zero < nat_abs x
positive-size {x = pos n} h = ltb→lt 0 n h.lt
positive-size {x = negsuc n} h = absurd h.lt

pub positive-nonneg : {x : ℤ} → pos 0 <ℤ x → NonNeg x
positive-nonneg {x = pos n} h = record { sign = tt }
positive-nonneg {x = negsuc n} h = absurd h.lt

reduced-nonneg : {x p : ℤ} → Reduced x p → NonNeg x
reduced-nonneg r = nonneg_of r.least

less-size : {x p : ℤ} → NonNeg x → x <ℤ p → nat_abs x < nat_abs p
less-size {x = pos m} {p = pos n} s h = ltb→lt m n h.lt
less-size {x = pos m} {p = negsuc n} s h = absurd h.lt
less-size {x = negsuc m} s h = absurd s.sign

reduced-below : {x p : ℤ} → Reduced x p → nat_abs x < nat_abs p
reduced-below r = less-size (reduced-nonneg r) r.below

-- ---- units
nat-unit : (m n : ℕ) → m * n ≡ 1 → m ≡ 1
nat-unit m n e = unit-abs (pos m) (pos n) (ap pos e)

-- u·x of two positive numbers, where u is a unit
unit-one : (u x y : ℤ) → nat_abs u ≡ 1 → NonNeg x → NonNeg y → zero < nat_abs x → y ≡ u *ℤ x → u ≡ pos 1
unit-one (pos n) x y e p q h f = ap pos e
unit-one (negsuc n) (pos x) (pos y) e p q h f = absurd (no n x y (omega arith) (omega arith) f)
  where
    no : (n x y : ℕ) → n ≡ 0 → zero < x → pos y ≡ negsuc n *ℤ pos x → ⊥
    no n x y z h f = let g : pos y +ℤ pos x ≡ pos 0 = ap (λ t. t +ℤ pos x) (f ∙ ap (λ (n : ℕ). negsuc n *ℤ pos x) z) ∙ ring (pos x ∷ []) (search reify depth 40) tt in let k : y + x ≡ 0 = ap nat_abs g in omega arith
unit-one (negsuc n) (negsuc x) y e p q h f = absurd p.sign
unit-one (negsuc n) (pos x) (negsuc y) e p q h f = absurd q.sign

-- b + k·m of two remainders of m
same-remainder : (b c k m : ℤ) → NonNeg b → NonNeg c → nat_abs b < nat_abs m → nat_abs c < nat_abs m → c ≡ b +ℤ k *ℤ m → k ≡ pos 0
same-remainder b c k m p q h l e =
    let x = euclid-unique c m k b (sym (e ∙ ring (b ∷ k ∷ m ∷ []) (search reify depth 40) tt)) p h in
    let y = euclid-unique c m (pos 0) c (ring (c ∷ m ∷ []) (search reify depth 40) tt) q l in
    x.0 ∙ sym y.0

-- x·a + y·p + z·q with zeros
drop-two : (x a y z : ℤ) {p q r : ℤ} → p ≡ pos 0 → q ≡ pos 0 → x *ℤ a +ℤ y *ℤ p +ℤ z *ℤ q ≡ r → r ≡ x *ℤ a
drop-two x a y z e f h = sym h ∙ ap₂ (λ p q. x *ℤ a +ℤ y *ℤ p +ℤ z *ℤ q) e f ∙ ring (x ∷ a ∷ y ∷ z ∷ []) (search reify depth 60 fits 100000) tt

drop-first : (a y b z c : ℤ) {x r : ℤ} → x ≡ pos 0 → x *ℤ a +ℤ y *ℤ b +ℤ z *ℤ c ≡ r → y *ℤ b +ℤ z *ℤ c ≡ r
drop-first a y b z c e h = sym (ap (λ x. x *ℤ a +ℤ y *ℤ b +ℤ z *ℤ c) e ∙ ring (a ∷ y ∷ b ∷ z ∷ c ∷ []) (search reify depth 60 fits 100000) tt) ∙ h

drop-last : (y b z : ℤ) {c r : ℤ} → c ≡ pos 0 → y *ℤ b +ℤ z *ℤ c ≡ r → r ≡ y *ℤ b
drop-last y b z e h = sym h ∙ ap (λ c. y *ℤ b +ℤ z *ℤ c) e ∙ ring (y ∷ b ∷ z ∷ []) (search reify depth 60 fits 100000) tt

-- ---- lower zero
pub triangular : (m : Mat ℤ) → m.d ≡ pos 0 → m.g ≡ pos 0 → m.h ≡ pos 0 → det m ≡ m.a *ℤ m.e *ℤ m.i
triangular m p q r = (λ j. det (record { a = m.a; b = m.b; c = m.c; d = p j; e = m.e; f = m.f; g = q j; h = r j; i = m.i })) ∙ law m.a m.b m.c m.e m.f m.i
  where
    law : (a b c e f i : ℤ) → det (record { a = a; b = b; c = c; d = pos 0; e = e; f = f; g = pos 0; h = pos 0; i = i }) ≡ a *ℤ e *ℤ i
    law a b c e f i = ring (a ∷ b ∷ c ∷ e ∷ f ∷ i ∷ []) (search reify depth 60 fits 100000) tt

module _ (H K U : Mat ℤ) (u : Unimodular U) (h : HermiteForm H) (k : HermiteForm K) (e : U · H ≡ K) where
  at : (f : Mat ℤ → ℤ) → f (U · H) ≡ f K
  at f = ap f e

  ud : U.d ≡ pos 0
  ud = zero-of-mul U.d H.a (positive-size h.a) (sym (drop-two U.d H.a U.e U.f h.d0 h.g0 (at (λ m. m.d))) ∙ k.d0)

  ug : U.g ≡ pos 0
  ug = zero-of-mul U.g H.a (positive-size h.a) (sym (drop-two U.g H.a U.h U.i h.d0 h.g0 (at (λ m. m.g))) ∙ k.g0)

  uh : U.h ≡ pos 0
  uh = zero-of-mul U.h H.e (positive-size h.e) (sym (drop-last U.h H.e U.i h.h0 (drop-first H.b U.h H.e U.i H.h ug (at (λ m. m.h)))) ∙ k.h0)

  -- the three on the diagonal are units
  sizes : nat_abs U.a * nat_abs U.e * nat_abs U.i ≡ 1
  sizes = sym (abs-mul (U.a *ℤ U.e) U.i ∙ ap (λ n. n * nat_abs U.i) (abs-mul U.a U.e)) ∙ ap nat_abs (sym (triangular U ud ug uh)) ∙ u.unit

  ua : U.a ≡ pos 1
  ua = unit-one U.a H.a K.a (nat-unit (nat_abs U.a) (nat_abs U.e * nat_abs U.i) (sym (mul_assoc (nat_abs U.a) (nat_abs U.e) (nat_abs U.i)) ∙ sizes)) (positive-nonneg h.a) (positive-nonneg k.a) (positive-size h.a) (drop-two U.a H.a U.b U.c h.d0 h.g0 (at (λ m. m.a)))

  ue : U.e ≡ pos 1
  ue = unit-one U.e H.e K.e (nat-unit (nat_abs U.e) (nat_abs U.a * nat_abs U.i) (swap (nat_abs U.a) (nat_abs U.e) (nat_abs U.i) ∙ sizes)) (positive-nonneg h.e) (positive-nonneg k.e) (positive-size h.e) (drop-last U.e H.e U.f h.h0 (drop-first H.b U.e H.e U.f H.h ud (at (λ m. m.e))))
    where
      swap : (x y z : ℕ) → y * (x * z) ≡ x * y * z
      swap x y z = omega arith

  ui : U.i ≡ pos 1
  ui = unit-one U.i H.i K.i (nat-unit (nat_abs U.i) (nat_abs U.a * nat_abs U.e) (mul_comm (nat_abs U.i) (nat_abs U.a * nat_abs U.e) ∙ sizes)) (positive-nonneg h.i) (positive-nonneg k.i) (positive-size h.i) (last (drop-first H.c U.h H.f U.i H.i ug (at (λ m. m.i))))
    where
      last : U.h *ℤ H.f +ℤ U.i *ℤ H.i ≡ K.i → K.i ≡ U.i *ℤ H.i
      last p = sym p ∙ ap (λ x. x *ℤ H.f +ℤ U.i *ℤ H.i) uh ∙ ring (H.f ∷ U.i ∷ H.i ∷ []) (search reify depth 60 fits 100000) tt

  one-times : (x y : ℤ) {w : ℤ} → w ≡ pos 1 → w *ℤ x +ℤ y ≡ x +ℤ y
  one-times x y p = ap (λ w. w *ℤ x +ℤ y) p ∙ ring (x ∷ y ∷ []) (search reify depth 60 fits 100000) tt

  e-same : K.e ≡ H.e
  e-same = drop-last U.e H.e U.f h.h0 (drop-first H.b U.e H.e U.f H.h ud (at (λ m. m.e))) ∙ ap (λ w. w *ℤ H.e) ue ∙ ring (H.e ∷ []) (search reify depth 40) tt

  i-same : K.i ≡ H.i
  i-same = sym (at (λ m. m.i)) ∙ (λ j. ug j *ℤ H.c +ℤ uh j *ℤ H.f +ℤ ui j *ℤ H.i) ∙ ring (H.c ∷ H.f ∷ H.i ∷ []) (search reify depth 60 fits 100000) tt

  ub : U.b ≡ pos 0
  ub =
      same-remainder H.b K.b U.b H.e (reduced-nonneg h.b) (reduced-nonneg k.b) (reduced-below h.b) (subst (λ (z : ℤ). nat_abs K.b < nat_abs z) e-same (reduced-below k.b))
      (sym (at (λ m. m.b)) ∙ ap₂ (λ w z. w *ℤ H.b +ℤ U.b *ℤ H.e +ℤ U.c *ℤ z) ua h.h0 ∙ ring (H.b ∷ U.b ∷ H.e ∷ U.c ∷ []) (search reify depth 60 fits 100000) tt)

  uf : U.f ≡ pos 0
  uf =
      same-remainder H.f K.f U.f H.i (reduced-nonneg h.f) (reduced-nonneg k.f) (reduced-below h.f) (subst (λ (z : ℤ). nat_abs K.f < nat_abs z) i-same (reduced-below k.f))
      (sym (at (λ m. m.f)) ∙ ap₂ (λ w z. w *ℤ H.c +ℤ z *ℤ H.f +ℤ U.f *ℤ H.i) ud ue ∙ ring (H.c ∷ H.f ∷ U.f ∷ H.i ∷ []) (search reify depth 60 fits 100000) tt)

  uc : U.c ≡ pos 0
  uc =
      same-remainder H.c K.c U.c H.i (reduced-nonneg h.c) (reduced-nonneg k.c) (reduced-below h.c) (subst (λ (z : ℤ). nat_abs K.c < nat_abs z) i-same (reduced-below k.c))
      (sym (at (λ m. m.c)) ∙ ap₂ (λ w z. w *ℤ H.c +ℤ z *ℤ H.f +ℤ U.c *ℤ H.i) ua ub ∙ ring (H.c ∷ H.f ∷ U.c ∷ H.i ∷ []) (search reify depth 60 fits 100000) tt)

  pub hermite-unique : H ≡ K
  hermite-unique = sym (identity-product H) ∙ (λ j. record { a = sym ua j; b = sym ub j; c = sym uc j; d = sym ud j; e = sym ue j; f = sym uf j; g = sym ug j; h = sym uh j; i = sym ui j } · H) ∙ e
