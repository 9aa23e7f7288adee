-- Where P·A·Q is a diagonal of positive numbers and det P is 1, det Q has the sign of det A.
use mathlib.Core.Path.{◌≡◌, refl, sym, ◌∙◌, ap, subst}
use Prim.Native.Nat.{ℕ, zero, suc, ◌*◌, ◌<◌}
use native.Mathlib.Nat.{mul-pos, lt_irrefl}
use native.Mathlib.Omega.{arith}
use lib.Dec.{ltb→lt, lt→ltb, lit<}
use lib.Signed.{◌<ℤ◌, lt_z_yes}
use lib.IntN.{ℤ, pos, negsuc, neg_ℤ, nat_abs, ◌*ℤ◌}
use Rattle.integer.proofs.Ring.{one-*ℤ, *ℤ-1, *ℤ-assoc}
use Rattle.integer.proofs.Divides.{unit-square}
use Rattle.common.specs.Matrix.{Axis, X, Y, Z, Vec, Mat, side, ◌·◌, det, diagonal}
use Rattle.common.proofs.Matrix.{det-product, det-diagonal}
use Rattle.snf_steps.proofs.Ordering.{naturals}
use Rattle.snf3x3.specs.Diagonalises.{sign}

-- ---- positive numbers
-- by their size
pub is-size : {z : ℤ} → pos 0 <ℤ z → (pos (nat_abs z) ≡ z) × (zero < nat_abs z)
is-size {z = pos n} h = (refl, ltb→lt 0 n h.lt)
is-size {z = negsuc n} h = absurd h.lt

pub naturals-positive : {x y z : ℕ} → zero < x → zero < y → zero < z → (k : Axis) → pos 0 <ℤ side (naturals x y z) k
naturals-positive {x} {y} {z} a b c k = each k
  where
    positive : {n : ℕ} → zero < n → pos 0 <ℤ pos n
    positive {n} h = lt_z_yes (lt→ltb 0 n h)

    each : (k : Axis) → pos 0 <ℤ side (naturals x y z) k
    each X = positive a
    each Y = positive b
    each Z = positive c

-- ---- determinants
pub det-brought : (A P Q : Mat ℤ) {d : Vec ℤ} → P · A · Q ≡ diagonal d → d.x *ℤ d.y *ℤ d.z ≡ det P *ℤ det A *ℤ det Q
det-brought A P Q {d} e = sym (det-diagonal (side d)) ∙ ap det (sym e) ∙ det-product (P · A) Q ∙ ap (λ z. z *ℤ det Q) (det-product P A)

-- ---- the sign of det Q
sign-positive : (n : ℕ) → zero < n → sign (pos n) ≡ pos 1
sign-positive zero h = absurd (lt_irrefl zero h)
sign-positive (suc n) h = refl

sign-negative : (n : ℕ) → zero < n → sign (neg_ℤ (pos n)) ≡ negsuc 0
sign-negative zero h = absurd (lt_irrefl zero h)
sign-negative (suc n) h = refl

-- a number by a unit is positive: the unit is its sign
sign_of : (a q : ℤ) (n : ℕ) → zero < n → nat_abs q ≡ 1 → a *ℤ q ≡ pos n → q ≡ sign a
sign_of a q n h u e = by q u (sym (*ℤ-assoc a q q ∙ ap (λ z. a *ℤ z) (unit-square q u) ∙ *ℤ-1 a) ∙ ap (λ z. z *ℤ q) e)
  where
    by : (q : ℤ) → nat_abs q ≡ 1 → a ≡ pos n *ℤ q → q ≡ sign a
    by (pos k) u f = ap pos u ∙ sym (ap sign f ∙ sign-positive (n * k) (mul-pos h (subst (λ (k : ℕ). zero < k) (sym u) (lit< tt))))
    by (negsuc k) u f = ap negsuc (let z : k ≡ 0 = omega arith in z) ∙ sym (ap sign f ∙ sign-negative (n * suc k) (mul-pos h (let z : zero < suc k = omega arith in z)))

pub det-q-sign : (A P Q : Mat ℤ) {d : Vec ℤ} → P · A · Q ≡ diagonal d → det P ≡ pos 1 → nat_abs (det Q) ≡ 1 → ((k : Axis) → pos 0 <ℤ side d k) → det Q ≡ sign (det A)
det-q-sign A P Q {d} e one unit positive =
    let x = is-size (positive X) in
    let y = is-size (positive Y) in
    let z = is-size (positive Z) in
    sign_of (det A) (det Q) (nat_abs d.x * nat_abs d.y * nat_abs d.z) (mul-pos (mul-pos x.1 y.1) z.1) unit
    (sym (ap (λ w. w *ℤ det Q) (ap (λ w. w *ℤ det A) one ∙ one-*ℤ (det A))) ∙ sym (det-brought A P Q e) ∙ (λ i. sym x.0 i *ℤ sym y.0 i *ℤ sym z.0 i))
