-- The four conditions of demand 3, asked of the list with its negatives joined, where time reversal joins them: they go on to the list that is transformed, and to what
-- transforming makes of it.
use mathlib.Core.Path.{◌≡◌, refl, sym, ◌∙◌, ap, ap₂, subst}
use mathlib.Core.Logic.{◌↔◌, ⊎_elim}
use mathlib.Core.Bool.{Bool, true, false, not, ◌&&◌}
use mathlib.Core.List.Memᴰ.{append_cases}
use mathlib.Core.List.Memᴰ.{append_left}
use mathlib.Core.List.Memᴰ.{head as here}
use mathlib.Core.List.Memᴰ.{of_map}
use mathlib.Core.List.Memᴰ.{tail as there}
use mathlib.Core.List.{List, [], ◌∷◌, ◌++◌, map, map-append}
use Prim.Native.Nat.{ℕ, ◌/◌, ◌≤◌}
use lib.Dec.{T}
use lib.IntN.{ℤ, neg_ℤ, nat_abs}
use lib.ListN.{length}
use Rattle.common.specs.Tested.{Accepted}
use Rattle.integer.proofs.Size.{abs_neg}
use Rattle.integer.proofs.Test.{same_test}
use Rattle.common.specs.Matrix.{Mat, entry, ◌·◌, transpose, diagonal, identity, negate, inversion, inverse}
use Rattle.common.specs.Array.{vector_of, matrix_of, matrices}
use Rattle.common.specs.Limits.{matrix_within}
use Rattle.common.proofs.Matrix.{identity-product, product-identity, negate-product, product-negate, entry-matrix}
use Rattle.common.proofs.Bounds.{matrix-sizes, sizes-within}
use Rattle.common.proofs.Reading.{matrices-flat, read_small}
use Rattle.common.proofs.Unimodular.{Unimodular, inverse_left}
use Rattle.grgrid.proofs.Lists.{◌∈◌, Distinct}
use Rattle.grgrid.proofs.MatrixGroup.{MatrixGroup, transposes, transformed}
use Rattle.recip_rotations.specs.Unique.{same_matrix, among}
use Rattle.recip_rotations.specs.PointGroup.{transposed_if, joins, with_negatives, point_group}
use Rattle.recip_rotations.proofs.Same.{matrix-eq, matrix-refl}
use Rattle.recip_rotations.proofs.Told.{unique-distinct, joined-group}
use Rattle.transform_rotations.specs.TransformRotations.{transform_tests, transform_rotations}
use Rattle.transform_rotations.proofs.Accepted.{InputAccepted, input-accepted}
use Rattle.transform_rotations.proofs.ExactCall.{grid-is, sides-positive, tests-input}
use Rattle.transform_rotations.specs.ExactTransform.{Fractions, transform_of}
use Rattle.transform_rotations.proofs.ExactTransform.{whole-accepted, fractions-distinct, call-fractions, call-matrices}
use Rattle.recip_rotations.proofs.ToldPart.{told_part}
use Rattle.demand3.specs.FinishedList.{Given, as-it-stands, as-returned}

-- ---- the list alone
distinct-left : (l k : List (Mat ℤ)) → Distinct (l ++ k) → Distinct l
distinct-left [] k e = tt
distinct-left (x ∷ l) k e = (λ m. e.0 (append_left k m), distinct-left l k e.1)

-- no repeats in the list with its negatives, none in the list
pub list-distinct : (time : Bool) (l : List (Mat ℤ)) → MatrixGroup (with_negatives time l) → Distinct l
list-distinct time l m = step (joins time l) m.distinct
  where
    step : (b : Bool) → Distinct {A = Mat ℤ} (elim b [ true ↦ l ++ map negate l | false ↦ l ]) → Distinct l
    step true e = distinct-left l (map negate l) e
    step false e = e

pub told_is : (l : List (Mat ℤ)) → Distinct l → (time t : Bool) → point_group l time t ≡ with_negatives time (transposed_if t l)
unfolding point_group
told_is l e time t = ap (λ k. with_negatives time (transposed_if t k)) (unique-distinct l e)

-- ---- a map of the members that keeps negatives, and takes only the inversion to the inversion
module _ (f : Mat ℤ → Mat ℤ) where
  negates : (l : List (Mat ℤ)) → ((A : Mat ℤ) → A ∈ l → f (negate A) ≡ negate (f A)) → map f (map negate l) ≡ map negate (map f l)
  negates [] n = refl
  negates (A ∷ l) n = ap₂ ◌∷◌ (n A (here refl)) (negates l (λ B k. n B (there k)))

  inversion-among : (l : List (Mat ℤ)) → ((A : Mat ℤ) → A ∈ l → (f A ≡ inversion) ↔ (A ≡ inversion)) → among inversion (map f l) ≡ among inversion l
  inversion-among [] i = refl
  inversion-among (A ∷ l) i = ap₂ (λ (b c : Bool). elim b as (λ _. Bool) [ true ↦ true | false ↦ c ]) same (inversion-among l (λ B k. i B (there k)))
    where
      tested : {x y : Mat ℤ} → y ≡ x → T (same_matrix x y)
      tested {x} e = subst (λ y. T (same_matrix x y)) (sym e) (matrix-refl x)

      same : same_matrix inversion (f A) ≡ same_matrix inversion A
      same = let r = i A (here refl) in
          same_test (same_matrix inversion (f A)) (same_matrix inversion A)
          (λ t. tested (r.0 (sym (matrix-eq inversion (f A) t)))) (λ t. tested (r.1 (sym (matrix-eq inversion A t))))

  joined-map : (time : Bool) (l : List (Mat ℤ)) → ((A : Mat ℤ) → A ∈ l → f (negate A) ≡ negate (f A)) → ((A : Mat ℤ) → A ∈ l → (f A ≡ inversion) ↔ (A ≡ inversion))
      → with_negatives time (map f l) ≡ map f (with_negatives time l)
  joined-map time l n i = ap (λ b. step_of (time && not b)) (inversion-among l i) ∙ step (joins time l)
    where
      step_of : Bool → List (Mat ℤ)
      step_of b = elim b [ true ↦ map f l ++ map negate (map f l) | false ↦ map f l ]

      step : (b : Bool) → step_of b ≡ map f (elim b [ true ↦ l ++ map negate l | false ↦ l ])
      step true = sym (map-append f l (map negate l) ∙ ap (λ k. map f l ++ k) (negates l n))
      step false = refl

-- ---- the list that is transformed
turned-joined : (t time : Bool) (l : List (Mat ℤ)) → MatrixGroup (with_negatives time l) → MatrixGroup (with_negatives time (transposed_if t l))
turned-joined true time l m = subst MatrixGroup (sym (joined-map transpose time l (λ A k. refl) (λ A k. (ap transpose, ap transpose)))) (transposes m)
turned-joined false time l m = m

pub given-joined : {time : Bool} {list rotations : List ℤ} → Given time list rotations → MatrixGroup (with_negatives time (matrices list)) → MatrixGroup (with_negatives time (matrices rotations))
given-joined as-it-stands m = m
given-joined {time} {list} (as-returned t n count e) m =
    let l = matrices list in
    let is = ap matrices (told_part list time t n count e) ∙ matrices-flat (point_group l time t) ∙ told_is l (list-distinct time l m) time t in
    subst (λ k. MatrixGroup (with_negatives time k)) (sym is) (joined-group time (turned-joined t time l m))

-- ---- what transforming makes of it
fractions-inversion : {q : Mat ℤ} (D : Mat ℤ) → Unimodular q → inversion · D ≡ D · (inverse q · inversion · q)
fractions-inversion {q} D u =
    negate-product identity D ∙ ap negate (identity-product D) ∙ sym (
    ap (λ M. D · M) (ap (λ M. M · q) (product-negate (inverse q) identity ∙ ap negate (product-identity (inverse q))) ∙ negate-product (inverse q) q ∙ ap negate (inverse_left u))
    ∙ product-negate D identity ∙ ap negate (product-identity D))

fractions-negative : (D q r m : Mat ℤ) → m · D ≡ D · (inverse q · r · q) → negate m · D ≡ D · (inverse q · negate r · q)
fractions-negative D q r m e =
    negate-product m D ∙ ap negate e
    ∙ sym (ap (λ M. D · M) (ap (λ M. M · q) (product-negate (inverse q) r) ∙ negate-product (inverse q · r) q) ∙ product-negate D (inverse q · r · q))

negate-fits : (r : Mat ℤ) → T (matrix_within 100 r) → T (matrix_within 100 (negate r))
negate-fits r t = sizes-within 100 (negate r) (λ j k. subst (λ (n : ℕ). n ≤ 100) (sym (ap nat_abs (entry-matrix (λ j k. neg_ℤ (entry r j k)) j k) ∙ abs_neg (entry r j k))) (matrix-sizes 100 r t j k))

module _ (rotations d : List ℤ) (q : List (List ℤ)) (n : ℕ) (u : Unimodular (matrix_of q)) (t : transform_tests rotations d q n ≡ Accepted) where
  abbrev made : Mat ℤ → Mat ℤ
  made = transform_of (vector_of d) (matrix_of q)

  abbrev Whole : Mat ℤ → Mat ℤ → Type 0
  Whole r m = Fractions (vector_of d) (matrix_of q) r m

  input : InputAccepted rotations d q n
  input = input-accepted rotations d q n (tests-input rotations d q n t)

  whole : (A : Mat ℤ) → A ∈ matrices rotations → Whole A (made A)
  whole = call-fractions rotations d q n u t

  fits : (A : Mat ℤ) → A ∈ matrices rotations → T (matrix_within 100 A)
  fits A k = sizes-within 100 A (read_small 100 rotations input.entries 0 (length rotations / 9) A k)

  -- a negative goes to the negative, though the call did not transform it
  to-negative : (A : Mat ℤ) → A ∈ matrices rotations → made (negate A) ≡ negate (made A)
  to-negative A k =
      (whole-accepted d (matrix_of q) (negate A) input.grid input.change (negate-fits A (fits A k)) u (negate (made A))
      (fractions-negative (diagonal (vector_of d)) (matrix_of q) A (made A) (whole A k))).1

  to-inversion : (A : Mat ℤ) → A ∈ matrices rotations → (made A ≡ inversion) ↔ (A ≡ inversion)
  to-inversion A k =
      let inverts : Whole inversion inversion = fractions-inversion (diagonal (vector_of d)) u in (
        λ e. fractions-distinct d (matrix_of q) input.grid u A inversion inversion (subst (Whole A) e (whole A k)) inverts,
        λ e. (whole-accepted d (matrix_of q) A input.grid input.change (fits A k) u inversion (subst (λ r. Whole r inversion) (sym e) inverts)).1,
      )

  whole-joined : (time : Bool) (A : Mat ℤ) → A ∈ with_negatives time (matrices rotations) → Whole A (made A)
  whole-joined time A = step (joins time (matrices rotations))
    where
      negative : A ∈ map negate (matrices rotations) → Whole A (made A)
      negative j =
          let r = of_map negate (matrices rotations) j in
          subst (λ A. Whole A (made A)) r.2
          (subst (Whole (negate r.0)) (sym (to-negative r.0 r.1)) (fractions-negative (diagonal (vector_of d)) (matrix_of q) r.0 (made r.0) (whole r.0 r.1)))

      step : (b : Bool) → A ∈ elim b [ true ↦ matrices rotations ++ map negate (matrices rotations) | false ↦ matrices rotations ] → Whole A (made A)
      step true k = ⊎_elim (whole A) negative (append_cases (matrices rotations) k)
      step false k = whole A k

  pub transformed-joined : (time : Bool) → MatrixGroup (with_negatives time (matrices rotations)) → MatrixGroup (with_negatives time (matrices (transform_rotations rotations d q n).out))
  transformed-joined time m =
      subst (λ l. MatrixGroup (with_negatives time l)) (sym (call-matrices rotations d q n u t))
      (subst MatrixGroup (sym (joined-map made time (matrices rotations) to-negative to-inversion))
      (transformed m (sides-positive d input.grid) u made
      (λ A k. subst (λ D. made A · D ≡ D · (inverse (matrix_of q) · A · matrix_of q)) (grid-is d input.grid) (whole-joined time A k))))
