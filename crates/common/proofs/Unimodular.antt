-- A matrix whose determinant is not 0 can be cancelled; one with a determinant of 1 or -1 has a whole inverse.
use mathlib.Core.Path.{◌≡◌, sym, ◌∙◌, ap, ap₂, subst}
use lib.IntN.{ℤ, nat_abs, ◌*ℤ◌, *ℤ_comm}
use Prim.Native.Nat.{ℕ, zero, ◌*◌, ◌<◌}
use native.Mathlib.Nat.{le_of_eq, mul-pos}
use Rattle.integer.proofs.Size.{abs_neg, abs-mul}
use Rattle.integer.proofs.Divides.{mul-cancel, unit-abs, unit-square}
pub use Rattle.common.specs.Matrix.{Unimodular}
use Rattle.common.specs.Matrix.{Axis, Mat, entry, transpose, ◌·◌, det, adjugate, scalar, identity, negate, inverse}
use Rattle.common.proofs.Matrix.{same-matrix, at_entry, product-assoc, identity-product, product-identity, product-adjugate, adjugate-product, product-diagonal, scalar-product, scalar-commutes, negate-product, product-negate, det-product, det-transpose, det-negate}

pub record Regular (A : Mat ℤ) : Type 0 where
  pub nonzero : zero < nat_abs (det A)

abs-product : (A B : Mat ℤ) → nat_abs (det (A · B)) ≡ nat_abs (det A) * nat_abs (det B)
abs-product A B = ap nat_abs (det-product A B) ∙ abs-mul (det A) (det B)

pub regular-product : {A B : Mat ℤ} → Regular A → Regular B → Regular (A · B)
regular-product {A} {B} r s = record { nonzero = subst (λ (n : ℕ). zero < n) (sym (abs-product A B)) (mul-pos r.nonzero s.nonzero) }

pub regular-transpose : {A : Mat ℤ} → Regular A → Regular (transpose A)
regular-transpose {A} r = record { nonzero = subst (λ (z : ℤ). zero < nat_abs z) (sym (det-transpose A)) r.nonzero }

pub unimodular-regular : {A : Mat ℤ} → Unimodular A → Regular A
unimodular-regular u = record { nonzero = le_of_eq (sym u.unit) }

pub unimodular-product : {A B : Mat ℤ} → Unimodular A → Unimodular B → Unimodular (A · B)
unimodular-product {A} {B} u v = record { unit = abs-product A B ∙ ap₂ ◌*◌ u.unit v.unit }

pub unimodular-transpose : {A : Mat ℤ} → Unimodular A → Unimodular (transpose A)
unimodular-transpose {A} u = record { unit = ap nat_abs (det-transpose A) ∙ u.unit }

pub unimodular-negate : {A : Mat ℤ} → Unimodular A → Unimodular (negate A)
unimodular-negate {A} u = record { unit = ap nat_abs (det-negate A) ∙ abs_neg (det A) ∙ u.unit }

-- ---- cancellation, by the adjugate
cancel-scalar : (x : ℤ) → zero < nat_abs x → (B C : Mat ℤ) → B · scalar x ≡ C · scalar x → B ≡ C
cancel-scalar x h B C e = same-matrix {f = entry B} {g = entry C} (λ j k. mul-cancel (entry B j k) (entry C j k) x h (multiples j k))
  where
    multiples : (j k : Axis) → entry B j k *ℤ x ≡ entry C j k *ℤ x
    multiples = at_entry (λ j k. entry B j k *ℤ x) (λ j k. entry C j k *ℤ x) (sym (product-diagonal B (λ k. x)) ∙ e ∙ product-diagonal C (λ k. x))

module _ {A : Mat ℤ} (r : Regular A) where
  pub cancel_left : (B C : Mat ℤ) → A · B ≡ A · C → B ≡ C
  cancel_left B C e = cancel-scalar (det A) r.nonzero B C (multiple B ∙ ap (λ M. adjugate A · M) e ∙ sym (multiple C))
    where
      multiple : (B : Mat ℤ) → B · scalar (det A) ≡ adjugate A · (A · B)
      multiple B = scalar-commutes (det A) B ∙ ap (λ M. M · B) (sym (adjugate-product A)) ∙ product-assoc (adjugate A) A B

  pub cancel_right : (B C : Mat ℤ) → B · A ≡ C · A → B ≡ C
  cancel_right B C e = cancel-scalar (det A) r.nonzero B C (multiple B ∙ ap (λ M. M · adjugate A) e ∙ sym (multiple C))
    where
      multiple : (B : Mat ℤ) → B · scalar (det A) ≡ B · A · adjugate A
      multiple B = ap (λ M. B · M) (sym (product-adjugate A)) ∙ sym (product-assoc B A (adjugate A))

-- ---- similar matrices, B-as-A = A-as-C
pub similar-product : (A B C D E : Mat ℤ) → B · A ≡ A · C → D · A ≡ A · E → B · D · A ≡ A · (C · E)
similar-product A B C D E e f = product-assoc B D A ∙ ap (λ M. B · M) f ∙ sym (product-assoc B A E) ∙ ap (λ M. M · E) e ∙ product-assoc A C E

pub similar-negate : (A B C : Mat ℤ) → B · A ≡ A · C → negate B · A ≡ A · negate C
similar-negate A B C e = negate-product B A ∙ ap negate e ∙ sym (product-negate A C)

module _ {A : Mat ℤ} (r : Regular A) where
  pub similar-identity : (B : Mat ℤ) → B · A ≡ A · identity → B ≡ identity
  similar-identity B e = cancel_right r B identity (e ∙ product-identity A ∙ sym (identity-product A))

  pub similar-det : (B C : Mat ℤ) → B · A ≡ A · C → det B ≡ det C
  similar-det B C e = mul-cancel (det B) (det C) (det A) r.nonzero (sym (det-product B A) ∙ ap det e ∙ det-product A C ∙ *ℤ_comm (det A) (det C))

-- ---- inverses
module _ {A : Mat ℤ} (u : Unimodular A) where
  pub inverse_left : inverse A · A ≡ identity
  inverse_left =
      product-assoc (scalar (det A)) (adjugate A) A ∙ ap (λ M. scalar (det A) · M) (adjugate-product A) ∙ scalar-product (det A) (det A)
      ∙ ap scalar (unit-square (det A) u.unit)

  pub inverse-right : A · inverse A ≡ identity
  inverse-right = cancel_right (unimodular-regular u) (A · inverse A) identity (product-assoc A (inverse A) A ∙ ap (λ M. A · M) inverse_left ∙ product-identity A ∙ sym (identity-product A))

  pub unimodular-inverse : Unimodular (inverse A)
  unimodular-inverse = record { unit = unit-abs (det (inverse A)) (det A) (sym (det-product (inverse A) A) ∙ ap det inverse_left) }

  -- M is D·A⁻¹·R·A·D⁻¹, so it is similar to R
  pub conjugate-similar : (D M R : Mat ℤ) → M · D ≡ D · (inverse A · R · A) → M · (D · inverse A) ≡ D · inverse A · R
  conjugate-similar D M R e =
      sym (product-assoc M D (inverse A)) ∙ ap (λ N. N · inverse A) e ∙ product-assoc D (inverse A · R · A) (inverse A) ∙ ap (λ N. D · N) undone
      ∙ sym (product-assoc D (inverse A) R)
    where
      undone : inverse A · R · A · inverse A ≡ inverse A · R
      undone = product-assoc (inverse A · R) A (inverse A) ∙ ap (λ N. inverse A · R · N) inverse-right ∙ product-identity (inverse A · R)
