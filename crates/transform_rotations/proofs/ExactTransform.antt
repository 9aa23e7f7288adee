-- The exact case of `transform_rotations`. With det Q of 1 or -1 the call accepts exactly if all fractions are whole, and returns these whole numbers; a group of
-- matrices then goes to one that acts on the grid.
use mathlib.Core.Path.{◌≡◌, sym, ◌∙◌, ap, subst}
use mathlib.Core.Logic.{◌↔◌}
use mathlib.Core.Bool.{not}
use mathlib.Core.List.{List, map}
use Prim.Native.Nat.{ℕ, ◌/◌}
use native.Mathlib.Omega.{arith}
use lib.Dec.{T, lit≤, not_T}
use lib.IntN.{ℤ, pos, nat_abs}
use lib.ListN.{length}
use lib.Ieee.{binary64, of_int}
use Rattle.common.specs.Tested.{Accepted}
use Rattle.float.proofs.Whole.{eq→whole}
use Rattle.common.specs.Matrix.{Mat, det_over, ◌·◌, det, diagonal, identity, negate, inverse}
use Rattle.common.specs.Array.{vector_of, sides_of, matrix_of, matrices, flat}
use Rattle.common.specs.Limits.{matrix_within, diagonal_fits}
use Rattle.common.specs.FloatMatrix.{floats}
use Rattle.common.proofs.Bounds.{matrix-sizes, sizes-within}
use Rattle.common.proofs.Every.{every_of, of-every}
use Rattle.common.proofs.Reading.{matrices-flat, read_small}
use Rattle.common.proofs.Unimodular.{Regular, Unimodular, regular-product, unimodular-regular, unimodular-inverse, cancel_left, cancel_right, similar-identity, similar-product, similar-negate, similar-det, conjugate-similar}
use Rattle.grgrid.proofs.Lists.{◌∈◌}
use Rattle.grgrid.proofs.Acting.{Acts, grid}
use Rattle.grgrid.proofs.MatrixGroup.{MatrixGroup, grid-regular, transformed, transformed-acts}
use Rattle.transform_rotations.specs.Transform.{to_d, transform_d, is_whole}
use Rattle.transform_rotations.specs.TransformRotations.{singular_q, input_tests, transform_tests, transform_rotations}
use Rattle.transform_rotations.specs.ExactTransform.{Fractions, transform_of, EveryTransform}
use Rattle.transform_rotations.proofs.ExactMatrix.{int-exact}
use Rattle.transform_rotations.proofs.ExactEntries.{det_q, all-accepted, all-exact}
use Rattle.transform_rotations.proofs.Accepted.{input-accepted}
use Rattle.transform_rotations.proofs.ExactCall.{sides-fit, sides-positive, grid-is, tests-input, tests-whole, whole-tests, written-flat}

-- ---- one rotation
module _ (d : List ℤ) (q r : Mat ℤ) (D : T (diagonal_fits d)) (Q : T (matrix_within 1000 q)) (R : T (matrix_within 100 r)) (u : Unimodular q) where
  pub accepted-whole : T (is_whole (transform_d (vector_of d) q r)) → Fractions (vector_of d) q r (transform_of (vector_of d) q r)
  accepted-whole t = all-accepted (vector_of d) (sides-fit d D) q r (matrix-sizes 1000 q Q) (matrix-sizes 100 r R) u t

  pub whole-accepted : (m : Mat ℤ) → Fractions (vector_of d) q r m → T (is_whole (transform_d (vector_of d) q r)) × (transform_of (vector_of d) q r ≡ m)
  whole-accepted m e = all-exact (vector_of d) (sides-fit d D) q r (matrix-sizes 1000 q Q) (matrix-sizes 100 r R) u m e

-- ---- identity goes to identity, products to products, negatives to negatives, distinct to distinct; determinants are kept
module _ (d : List ℤ) (q : Mat ℤ) (D : T (diagonal_fits d)) (u : Unimodular q) where
  abbrev change : Mat ℤ
  change = diagonal (vector_of d) · inverse q

  regular : Regular change
  regular = regular-product (subst Regular (sym (grid-is d D)) (grid-regular (sides-positive d D))) (unimodular-regular (unimodular-inverse u))

  similar : (r m : Mat ℤ) → Fractions (vector_of d) q r m → m · change ≡ change · r
  similar r m e = conjugate-similar u (diagonal (vector_of d)) m r e

  pub fractions-identity : (m : Mat ℤ) → Fractions (vector_of d) q identity m → m ≡ identity
  fractions-identity m e = similar-identity regular m (similar identity m e)

  pub fractions-product : (r s m n p : Mat ℤ) → Fractions (vector_of d) q r m → Fractions (vector_of d) q s n → Fractions (vector_of d) q (r · s) p → p ≡ m · n
  fractions-product r s m n p e f g = cancel_right regular p (m · n) (similar (r · s) p g ∙ sym (similar-product change m r n s (similar r m e) (similar s n f)))

  pub fractions-negate : (r m n : Mat ℤ) → Fractions (vector_of d) q r m → Fractions (vector_of d) q (negate r) n → n ≡ negate m
  fractions-negate r m n e f = cancel_right regular n (negate m) (similar (negate r) n f ∙ sym (similar-negate change m r (similar r m e)))

  pub fractions-distinct : (r s m : Mat ℤ) → Fractions (vector_of d) q r m → Fractions (vector_of d) q s m → r ≡ s
  fractions-distinct r s m e f = cancel_left regular r s (sym (similar r m e) ∙ similar s m f)

  pub fractions-det : (r m : Mat ℤ) → Fractions (vector_of d) q r m → det m ≡ det r
  fractions-det r m e = similar-det regular m r (similar r m e)

-- ---- the call
-- a determinant of 1 or -1 does not count as 0
pub never-singular : (q : Mat ℤ) → T (matrix_within 1000 q) → Unimodular q → T (not (singular_q q))
unfolding singular_q
never-singular q Q u =
    not_T (singular_q q) (λ t. never (det q) u.unit (eq→whole (det_over floats (to_d q)) (of_int binary64 (pos 0)) (det q) (pos 0) (det_q q (matrix-sizes 1000 q Q)).whole (int-exact {k = 0} (pos 0) (lit≤ tt) (lit≤ tt)).whole t))
  where
    never : (z : ℤ) → nat_abs z ≡ 1 → z ≡ pos 0 → ⊥
    never z e f = let g : ◌≡◌ {A = ℕ} 1 0 = sym e ∙ ap nat_abs f in omega arith

module _ (rotations d : List ℤ) (q : List (List ℤ)) (n : ℕ) (u : Unimodular (matrix_of q)) where
  rotation-fits : input_tests rotations d q n ≡ Accepted → (r : Mat ℤ) → r ∈ matrices rotations → T (matrix_within 100 r)
  rotation-fits e r k = sizes-within 100 r (read_small 100 rotations (input-accepted rotations d q n e).entries 0 (length rotations / 9) r k)

  pub call-fractions : transform_tests rotations d q n ≡ Accepted → (r : Mat ℤ) → r ∈ matrices rotations → Fractions (vector_of d) (matrix_of q) r (transform_of (vector_of d) (matrix_of q) r)
  call-fractions t r k =
      let e = tests-input rotations d q n t in
      let l = input-accepted rotations d q n e in
      accepted-whole d (matrix_of q) r l.grid l.change (rotation-fits e r k) u (every_of (λ r. is_whole (transform_d (vector_of d) (matrix_of q) r)) (matrices rotations) (tests-whole rotations d q n t) r k)

  -- accepted exactly if the fractions of each rotation are whole
  pub call-accepts : input_tests rotations d q n ≡ Accepted
      → (transform_tests rotations d q n ≡ Accepted) ↔ ((r : Mat ℤ) → r ∈ matrices rotations → (m : Mat ℤ) × Fractions (vector_of d) (matrix_of q) r m)
  call-accepts e = (λ t r k. (transform_of (vector_of d) (matrix_of q) r, call-fractions t r k), λ h. whole-tests rotations d q n e (of-every (λ r. is_whole (transform_d (vector_of d) (matrix_of q) r)) (matrices rotations) (λ r k. accept r k (h r k))))
    where
      accept : (r : Mat ℤ) → r ∈ matrices rotations → (m : Mat ℤ) × Fractions (vector_of d) (matrix_of q) r m → T (is_whole (transform_d (vector_of d) (matrix_of q) r))
      accept r k f = let l = input-accepted rotations d q n e in (whole-accepted d (matrix_of q) r l.grid l.change (rotation-fits e r k) u f.0 f.1).0

  module _ (t : transform_tests rotations d q n ≡ Accepted) where
    -- then the output is those of each rotation in order
    pub call_returns : (transform_rotations rotations d q n).out ≡ flat (map (transform_of (vector_of d) (matrix_of q)) (matrices rotations))
    call_returns = written-flat rotations d q n t

    pub call-matrices : matrices (transform_rotations rotations d q n).out ≡ map (transform_of (vector_of d) (matrix_of q)) (matrices rotations)
    call-matrices = ap matrices call_returns ∙ matrices-flat (map (transform_of (vector_of d) (matrix_of q)) (matrices rotations))

    -- ---- lists for demand 3
    on-grid : (r : Mat ℤ) → r ∈ matrices rotations → transform_of (vector_of d) (matrix_of q) r · grid (sides_of d) ≡ grid (sides_of d) · (inverse (matrix_of q) · r · matrix_of q)
    on-grid r k = subst (λ D. transform_of (vector_of d) (matrix_of q) r · D ≡ D · (inverse (matrix_of q) · r · matrix_of q)) (grid-is d (input-accepted rotations d q n (tests-input rotations d q n t)).grid) (call-fractions t r k)

    pub call-group : MatrixGroup (matrices rotations) → MatrixGroup (matrices (transform_rotations rotations d q n).out)
    call-group g = subst MatrixGroup (sym call-matrices) (transformed g (sides-positive d (input-accepted rotations d q n (tests-input rotations d q n t)).grid) u (transform_of (vector_of d) (matrix_of q)) on-grid)

    pub call-acts : (M : Mat ℤ) → M ∈ matrices (transform_rotations rotations d q n).out → Acts (sides_of d) M
    call-acts M k = transformed-acts (transform_of (vector_of d) (matrix_of q)) (λ r. inverse (matrix_of q) · r · matrix_of q) on-grid M (subst (λ l. M ∈ l) call-matrices k)

-- ---- the theorem
pub exact-transform : EveryTransform
unfolding transform_rotations
exact-transform rotations d q n u = record {
  accepts = call-accepts rotations d q n u;
  returns = call_returns rotations d q n u;
  exact = call-fractions rotations d q n u;
}
