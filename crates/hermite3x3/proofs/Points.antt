-- Two matrices have the same points exactly if a matrix with a determinant of 1 or -1 on the left of one makes the other.
use mathlib.Core.Path.{◌≡◌, refl, sym, ◌∙◌, ap, subst}
use mathlib.Core.Logic.{◌↔◌}
use mathlib.Core.List.{[], ◌∷◌}
use Prim.Native.Nat.{ℕ, zero, ◌*◌, ◌<◌}
use native.Mathlib.Nat.{mul-pos}
use lib.IntN.{ℤ, pos, nat_abs, ◌*ℤ◌}
use Rattle.integer.specs.Divides.{Divides}
use Rattle.integer.proofs.Reify.{ring, reify}
use Rattle.integer.proofs.Size.{abs-mul}
use Rattle.integer.proofs.Divides.{divides-refl, divides-zero, divides-comb, unit-abs}
use Rattle.common.specs.Matrix.{Axis, X, Y, Z, Vec, Mat, side, vector, entry, matrix, dot, integers, ◌·◌, ◌▹◌, det, adjugate, scalar, identity, inverse}
use Rattle.common.proofs.Matrix.{entry-matrix, same-matrix, product-assoc, identity-product, product-adjugate, adjugate-product, product-diagonal, scalar-commutes, det-product, side-vector, apply-product}
use Rattle.common.proofs.Unimodular.{Regular, Unimodular, regular-product, unimodular-regular, unimodular-product, cancel_right, unimodular-inverse, inverse_left}
use Rattle.hermite3x3.specs.Points.{IsPoint, SamePoints, LeftMultiple}

-- column k
abbrev column_of : Mat ℤ → Axis → Vec ℤ
column_of A k = vector (λ n. entry A n k)

applied : (A B : Mat ℤ) (j k : Axis) → side (A ▹ column_of B k) j ≡ entry (A · B) j k
applied A B j k =
    side-vector (λ j. dot integers (entry A j) (side (column_of B k))) j ∙ (λ i. dot integers (entry A j) (λ n. side-vector (λ n. entry B n k) n i))
    ∙ sym (entry-matrix (λ j k. dot integers (entry A j) (λ n. entry B n k)) j k)

-- the columns of the adjugate over the determinant are points
adjugate-points : (A : Mat ℤ) (k : Axis) → IsPoint A (det A) (column_of (adjugate A) k)
adjugate-points A k = record { whole = λ j. subst (Divides (det A)) (sym (applied A (adjugate A) j k ∙ ap (λ m. entry m j k) (product-adjugate A))) (at j k) }
  where
    at : (j k : Axis) → Divides (det A) (entry (scalar (det A)) j k)
    at X X = divides-refl (det A)
    at X Y = divides-zero (det A)
    at X Z = divides-zero (det A)
    at Y X = divides-zero (det A)
    at Y Y = divides-refl (det A)
    at Y Z = divides-zero (det A)
    at Z X = divides-zero (det A)
    at Z Y = divides-zero (det A)
    at Z Z = divides-refl (det A)

-- so what makes them whole is a multiple
record LeftOf (A B : Mat ℤ) : Type 0 where
  by : Mat ℤ
  is : by · A ≡ B

left-of : (A B : Mat ℤ) → Regular A → ((k : Axis) → IsPoint B (det A) (column_of (adjugate A) k)) → LeftOf A B
left-of A B r h = record { by = U; is = cancel_right {A = scalar (det A)} regular (U · A) B (product-assoc U A (scalar (det A)) ∙ ap (λ m. U · m) (scalar-commutes (det A) A) ∙ sym (product-assoc U (scalar (det A)) A) ∙ ap (λ m. m · A) (sym multiple) ∙ product-assoc B (adjugate A) A ∙ ap (λ m. B · m) (adjugate-product A)) }
  where
    U : Mat ℤ
    U = matrix (λ j k. ((h k).whole j).times)

    regular : Regular (scalar (det A))
    regular = record { nonzero = subst (λ (z : ℤ). zero < nat_abs z) (sym (cube (det A))) (subst (λ (n : ℕ). zero < n) (sym (abs-mul (det A *ℤ det A) (det A) ∙ ap (λ n. n * nat_abs (det A)) (abs-mul (det A) (det A)))) (mul-pos (mul-pos r.nonzero r.nonzero) r.nonzero)) }
      where
        cube : (x : ℤ) → det (scalar x) ≡ x *ℤ x *ℤ x
        cube x = ring (x ∷ []) (search reify depth 60 fits 100000) tt

    multiple : B · adjugate A ≡ U · scalar (det A)
    multiple =
        same-matrix (λ j k. sym (entry-matrix (λ j k. dot integers (entry B j) (λ n. entry (adjugate A) n k)) j k) ∙ sym (applied B (adjugate A) j k) ∙ ((h k).whole j).is ∙ ap (λ x. x *ℤ det A) (sym (entry-matrix (λ j k. ((h k).whole j).times) j k)))
        ∙ sym (product-diagonal U (λ k. det A))

point-left : {A : Mat ℤ} (U : Mat ℤ) {m : ℤ} {v : Vec ℤ} → IsPoint A m v → IsPoint (U · A) m v
point-left {A} U {m} {v} h = record { whole = λ j. subst (Divides m) (sym (ap (λ w. side w j) (apply-product U A v) ∙ side-vector (λ j. dot integers (entry U j) (side (A ▹ v))) j)) (of_three (entry U j) (side (A ▹ v)) h.whole) }
  where
    of_three : (u w : Axis → ℤ) → ((k : Axis) → Divides m (w k)) → Divides m (dot integers u w)
    of_three u w d = divides-comb (pos 1) (u Z) (divides-comb (u X) (u Y) (d X) (d Y) refl) (d Z) (ring (u X ∷ u Y ∷ u Z ∷ w X ∷ w Y ∷ w Z ∷ []) (search reify depth 60 fits 100000) tt)

pub unimodular-by : {A B : Mat ℤ} (l : LeftMultiple A B) → Unimodular l.by
unimodular-by l = record { unit = l.unit }

pub left-none : (A : Mat ℤ) → LeftMultiple A A
left-none A = record { by = identity; unit = refl; is = identity-product A }

pub left-then : {A B C : Mat ℤ} → LeftMultiple A B → LeftMultiple B C → LeftMultiple A C
left-then {A} l k = record {
  by = k.by · l.by;
  unit = (unimodular-product (unimodular-by k) (unimodular-by l)).unit;
  is = product-assoc k.by l.by A ∙ ap (λ m. k.by · m) l.is ∙ k.is;
}

pub left-regular : {A B : Mat ℤ} → Regular A → LeftMultiple A B → Regular B
left-regular r l = subst Regular l.is (regular-product (unimodular-regular (unimodular-by l)) r)

pub left_back : {A B : Mat ℤ} → LeftMultiple A B → LeftMultiple B A
left_back {A} l = record {
  by = inverse l.by;
  unit = (unimodular-inverse (unimodular-by l)).unit;
  is = ap (λ m. inverse l.by · m) (sym l.is) ∙ sym (product-assoc (inverse l.by) l.by A) ∙ ap (λ m. m · A) (inverse_left (unimodular-by l)) ∙ identity-product A;
}

-- ---- the rule of document 02
pub same_points : {A B : Mat ℤ} → Regular A → Regular B → SamePoints A B ↔ LeftMultiple A B
unfolding SamePoints
same_points {A} {B} r s = (to, from)
  where
    to : ((m : ℤ) → zero < nat_abs m → (v : Vec ℤ) → IsPoint A m v ↔ IsPoint B m v) → LeftMultiple A B
    to h =
        let u = left-of A B r (λ k. (h (det A) r.nonzero (column_of (adjugate A) k)).0 (adjugate-points A k)) in
        let v = left-of B A s (λ k. (h (det B) s.nonzero (column_of (adjugate B) k)).1 (adjugate-points B k)) in
        let one : u.by · v.by ≡ identity = cancel_right s (u.by · v.by) identity (product-assoc u.by v.by B ∙ ap (λ m. u.by · m) v.is ∙ u.is ∙ sym (identity-product B)) in
        record { by = u.by; unit = unit-abs (det u.by) (det v.by) (sym (det-product u.by v.by) ∙ ap det one); is = u.is }

    from : LeftMultiple A B → (m : ℤ) → zero < nat_abs m → (v : Vec ℤ) → IsPoint A m v ↔ IsPoint B m v
    from l m h v =
        let back = left_back l in
        (λ x. subst (λ M. IsPoint M m v) l.is (point-left l.by x), λ y. subst (λ M. IsPoint M m v) back.is (point-left back.by y))
