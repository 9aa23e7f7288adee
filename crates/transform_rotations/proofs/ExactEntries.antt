-- With det Q of 1 or -1 each entry of the transform, up to its last division, is exact; so that division decides whether the fraction is whole.
use mathlib.Core.Path.{◌≡◌, sym, ◌∙◌, ap, subst}
use mathlib.Core.Bool.{Bool, not}
use Prim.Native.Nat.{ℕ, ◌≤◌}
use native.Mathlib.Nat.{lt_of_le_of_lt}
use native.Mathlib.Omega.{arith}
use lib.Dec.{T, lit≤, lit<}
use lib.IntN.{ℤ, pos, negsuc, nat_abs, ◌*ℤ◌, *ℤ_comm}
use lib.Ieee.{Float, binary64, mul, div, lt, of_int}
use Rattle.integer.proofs.Size.{abs-mul}
use Rattle.float.specs.Rounding.{nint_of, offset, tolerance}
use Rattle.float.proofs.Quotient.{quotient-unit, quotient-accepted, quotient-nint, quotient-close}
use Rattle.common.specs.Matrix.{Axis, Vec, Mat, side, entry, all_axes, det_over, adjugate_over, ◌·◌, det, adjugate, diagonal, inverse}
use Rattle.common.specs.Limits.{side_fits}
use Rattle.common.specs.FloatMatrix.{floats}
use Rattle.common.proofs.Matrix.{axes-of, all-axes, same-matrix, at_entry, entry-matrix, diagonal-product, product-diagonal}
use Rattle.common.proofs.Bounds.{side-positive, side-size}
use Rattle.common.proofs.Unimodular.{Unimodular}
use Rattle.transform_rotations.specs.Transform.{inverse_d, conjugate_d, to_d, transform_d, is_whole, rounded}
use Rattle.transform_rotations.proofs.ExactMatrix.{Exact, Exacts, int-exact, mul-exact, matrix-exact, to_d-exact, product-exact, adjugate-exact, det-exact}

-- ---- Q⁻¹·R·Q
unit-exact : {n : ℕ} {x y : Float} {a z : ℤ} → Exact 2000000 x a → Exact n y z → nat_abs z ≡ 1 → Exact 2000000 (div binary64 x y) (z *ℤ a)
unit-exact {x = x} {y = y} {a = a} {z = z} p q e =
    record { whole = quotient-unit x y a z (lt_of_le_of_lt p.size (lit< tt)) e p.whole q.whole; size = let s = p.size in rw (abs-mul z a, e) (omega arith) }

module _ (q : Mat ℤ) (Q : (j k : Axis) → nat_abs (entry q j k) ≤ 1000) where
  to_q : Exacts 1000 (to_d q) q
  to_q = to_d-exact q Q (lit≤ tt)

  pub det_q : Exact 6000000000 (det_over floats (to_d q)) (det q)
  det_q = det-exact to_q (lit≤ tt) (lit≤ tt)

  inverse-exact : Unimodular q → Exacts 2000000 (inverse_d (to_d q)) (inverse q)
  inverse-exact u =
      let x = adjugate_over floats (to_d q) in
      let y = det_over floats (to_d q) in
      subst (λ m. Exacts 2000000 (inverse_d (to_d q)) m) (sym (diagonal-product (λ k. det q) (adjugate q)))
      (matrix-exact (λ j k. div binary64 (entry x j k) y) (λ j k. det q *ℤ entry (adjugate q) j k) (λ j k. unit-exact ((adjugate-exact to_q (lit≤ tt)).at j k) det_q u.unit))

  conjugate-exact : Unimodular q → (r : Mat ℤ) → ((j k : Axis) → nat_abs (entry r j k) ≤ 100) → Exacts 1800000000000 (conjugate_d (to_d q) (to_d r)) (inverse q · r · q)
  conjugate-exact u r R = product-exact (product-exact (inverse-exact u) (to_d-exact r R (lit≤ tt)) (lit≤ tt)) to_q (lit≤ tt)

-- ---- one fraction, a·n / b
abbrev fraction_d : Float → ℤ → ℤ → Float
fraction_d x a b = div binary64 (mul binary64 x (of_int binary64 a)) (of_int binary64 b)

abbrev close : Float → Bool
close y = not (lt tolerance (offset y))

record Fraction (y : Float) (a b n : ℤ) : Type 0 where
  accepted : T (close y) → nint_of y *ℤ b ≡ a *ℤ n
  exact : (k : ℤ) → k *ℤ b ≡ a *ℤ n → T (close y) × (nint_of y ≡ k)

fraction : (x : Float) (a b n : ℤ) → T (side_fits a) → T (side_fits b) → Exact 1800000000000 x n → Fraction (fraction_d x a b) a b n
fraction x a (negsuc c) n A B p = absurd B
fraction x a (pos c) n A B p =
    let v = mul binary64 x (of_int binary64 a) in
    let w = of_int binary64 (pos c) in
    let s = mul-exact p (int-exact a (side-size a A) (lit≤ tt)) (lit≤ tt) in
    let N = lt_of_le_of_lt s.size (lit< tt) in
    let C = side-positive (pos c) B in
    let D = side-size (pos c) B in
    let e = (int-exact (pos c) D (lit≤ tt)).whole in
    record {
      accepted = λ t. sym (quotient-accepted v w (n *ℤ a) c N C D s.whole e t) ∙ *ℤ_comm n a;
      exact = λ k f. let g = *ℤ_comm n a ∙ sym f in (quotient-close v w (n *ℤ a) c N C D s.whole e k g, quotient-nint v w (n *ℤ a) c N C D s.whole e k g);
    }

-- ---- all nine
module _ (d : Vec ℤ) (D : (k : Axis) → T (side_fits (side d k))) (q r : Mat ℤ) (Q : (j k : Axis) → nat_abs (entry q j k) ≤ 1000)
    (R : (j k : Axis) → nat_abs (entry r j k) ≤ 100) (u : Unimodular q) where
  abbrev y : Mat Float
  y = transform_d d q r

  fractions : (j k : Axis) → Fraction (entry y j k) (side d j) (side d k) (entry (inverse q · r · q) j k)
  unfolding transform_d
  fractions j k =
      let m = conjugate_d (to_d q) (to_d r) in
      subst (λ y. Fraction y (side d j) (side d k) (entry (inverse q · r · q) j k)) (sym (entry-matrix (λ j k. fraction_d (entry m j k) (side d j) (side d k)) j k))
      (fraction (entry m j k) (side d j) (side d k) (entry (inverse q · r · q) j k) (D j) (D k) ((conjugate-exact q Q u r R).at j k))

  pub all-accepted : T (is_whole (transform_d d q r)) → rounded (transform_d d q r) · diagonal d ≡ diagonal d · (inverse q · r · q)
  unfolding is_whole rounded
  all-accepted t =
      product-diagonal (rounded y) (side d) ∙ same-matrix (λ j k. ap (λ z. z *ℤ side d k) (entry-matrix (λ j k. nint_of (entry y j k)) j k) ∙ (fractions j k).accepted (at j k))
      ∙ sym (diagonal-product (side d) (inverse q · r · q))
    where
      at : (j k : Axis) → T (close (entry y j k))
      at j = axes-of (λ k. close (entry y j k)) (axes-of (λ j. all_axes (λ k. close (entry y j k))) t j)

  pub all-exact : (m : Mat ℤ) → m · diagonal d ≡ diagonal d · (inverse q · r · q) → T (is_whole (transform_d d q r)) × (rounded (transform_d d q r) ≡ m)
  unfolding is_whole rounded
  all-exact m e = (
    all-axes (λ j. all_axes (λ k. close (entry y j k))) (λ j. all-axes (λ k. close (entry y j k)) (λ k. (at j k).0)),
    same-matrix {g = entry m} (λ j k. (at j k).1),
  )
    where
      at : (j k : Axis) → T (close (entry y j k)) × (nint_of (entry y j k) ≡ entry m j k)
      at j k =
          (fractions j k).exact (entry m j k)
          (at_entry (λ j k. entry m j k *ℤ side d k) (λ j k. side d j *ℤ entry (inverse q · r · q) j k)
          (sym (product-diagonal m (side d)) ∙ e ∙ diagonal-product (side d) (inverse q · r · q)) j k)
