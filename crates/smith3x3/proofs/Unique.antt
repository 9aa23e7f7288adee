-- The invariant factors of a matrix are the only ones.
use mathlib.Core.Path.{◌≡◌, refl, sym, ◌∙◌, ap, ap₂, subst}
use mathlib.Core.List.{[], ◌∷◌}
use Prim.Native.Nat.{ℕ, zero, ◌*◌, ◌<◌}
use native.Mathlib.Nat.{eq_of_mul-eq-mul_right, mul_comm, mul-pos}
use native.Mathlib.Omega.{arith}
use lib.IntN.{ℤ, pos, nat_abs, ◌*ℤ◌}
use Rattle.integer.specs.Divides.{Divides}
use Rattle.snf3x3.proofs.Signs.{is-size, det-brought}
use Rattle.smith3x3.specs.Factors.{Factors, Brings}
use Rattle.integer.proofs.Polynomial.{var, mul}
use Rattle.integer.proofs.Size.{abs-mul}
use Rattle.integer.proofs.Reify.{ring, reify}
use Rattle.integer.proofs.Divides.{divides-refl, divides-zero, divides-trans, divides-comb, divides-antisym}
use Rattle.common.specs.Matrix.{Axis, X, Y, Z, Vec, Mat, side, entry, entries, dot, integers, ◌·◌, det, adjugate, diagonal, inverse}
use Rattle.common.proofs.Matrix.{𝔸, 𝔹, ◌⊡◌, adjugate_e, solve_mat, entry-matrix, product-assoc, identity-product, product-identity, diagonal_e, column, sides}
use Rattle.common.proofs.Unimodular.{Unimodular, unimodular-inverse, inverse_left, inverse-right}

-- ---- the adjugate of a product
pub adjugate-of-product : (A B : Mat ℤ) → adjugate (A · B) ≡ adjugate B · adjugate A
adjugate-of-product A B = solve_mat (entries A (entries B [])) (adjugate_e (𝔸 ⊡ 𝔹)) (adjugate_e 𝔹 ⊡ adjugate_e 𝔸) tt

-- ---- k divides every entry
pub record Common (k : ℤ) (A : Mat ℤ) : Type 0 where
  pub each : (i j : Axis) → Divides k (entry A i j)

dot-divides : {k : ℤ} (u v : Axis → ℤ) → ((n : Axis) → Divides k (v n)) → Divides k (dot integers u v)
dot-divides u v h = divides-comb (pos 1) (u Z) (divides-comb (u X) (u Y) (h X) (h Y) refl) (h Z) (ring (u X ∷ u Y ∷ u Z ∷ v X ∷ v Y ∷ v Z ∷ []) (search reify depth 60 fits 100000) tt)

dot-divides' : {k : ℤ} (u v : Axis → ℤ) → ((n : Axis) → Divides k (u n)) → Divides k (dot integers u v)
dot-divides' u v h = subst (Divides _) (ring (u X ∷ u Y ∷ u Z ∷ v X ∷ v Y ∷ v Z ∷ []) (search reify depth 60 fits 100000) tt) (dot-divides v u h)

pub common-left : {k : ℤ} (P : Mat ℤ) {A : Mat ℤ} → Common k A → Common k (P · A)
common-left {k} P {A} c = record { each = λ i j. subst (Divides k) (sym (entry-matrix (λ i j. dot integers (entry P i) (λ n. entry A n j)) i j)) (dot-divides (entry P i) (λ n. entry A n j) (λ n. c.each n j)) }

pub common-right : {k : ℤ} {A : Mat ℤ} (Q : Mat ℤ) → Common k A → Common k (A · Q)
common-right {k} {A} Q c = record { each = λ i j. subst (Divides k) (sym (entry-matrix (λ i j. dot integers (entry A i) (λ n. entry Q n j)) i j)) (dot-divides' (entry A i) (λ n. entry Q n j) (λ n. c.each i n)) }

-- ---- a matrix that is brought to another: both have the same common divisors, of their entries and of their minors
module _ {A P Q B : Mat ℤ} (e : Brings A P Q B) where
  unimodular-p : Unimodular P
  unimodular-p = record { unit = e.unit-p }

  unimodular-q : Unimodular Q
  unimodular-q = record { unit = e.unit-q }

  pub brings-back : Brings B (inverse P) (inverse Q) A
  brings-back = record {
    unit-p = (unimodular-inverse unimodular-p).unit;
    unit-q = (unimodular-inverse unimodular-q).unit;
    product = ap (λ m. inverse P · m · inverse Q) (sym e.product ∙ product-assoc P A Q)
        ∙ ap (λ m. m · inverse Q) (sym (product-assoc (inverse P) P (A · Q)) ∙ ap (λ m. m · (A · Q)) (inverse_left unimodular-p) ∙ identity-product (A · Q))
        ∙ product-assoc A Q (inverse Q) ∙ ap (λ m. A · m) (inverse-right unimodular-q) ∙ product-identity A;
  }

  pub common-along : {k : ℤ} → Common k A → Common k B
  common-along {k} c = subst (Common k) e.product (common-right Q (common-left P c))

  pub minors-along : {k : ℤ} → Common k (adjugate A) → Common k (adjugate B)
  minors-along {k} c =
      subst (Common k) (sym (adjugate-of-product (P · A) Q ∙ ap (λ m. adjugate Q · m) (adjugate-of-product P A)) ∙ ap adjugate e.product)
      (common-left (adjugate Q) (common-right (adjugate P) c))

-- ---- positive numbers, each of which divides the next
first-common : {d : Vec ℤ} → Factors d → Common d.x (diagonal d)
first-common {d} f = record { each = at }
  where
    at : (i j : Axis) → Divides d.x (entry (diagonal d) i j)
    at X X = divides-refl d.x
    at X Y = divides-zero d.x
    at X Z = divides-zero d.x
    at Y X = divides-zero d.x
    at Y Y = f.first
    at Y Z = divides-zero d.x
    at Z X = divides-zero d.x
    at Z Y = divides-zero d.x
    at Z Z = divides-trans f.first f.second

abbrev pairs : Vec ℤ → Vec ℤ
pairs d = record { x = d.y *ℤ d.z; y = d.z *ℤ d.x; z = d.x *ℤ d.y }

adjugate-diagonal : (d : Vec ℤ) → adjugate (diagonal d) ≡ diagonal (pairs d)
adjugate-diagonal d = solve_mat (sides d []) (adjugate_e (diagonal_e (column 0))) (diagonal_e (record { x = mul (var 1) (var 2); y = mul (var 2) (var 0); z = mul (var 0) (var 1) })) tt

minors-common : {d : Vec ℤ} → Factors d → Common (d.x *ℤ d.y) (adjugate (diagonal d))
minors-common {d} f = subst (Common (d.x *ℤ d.y)) (sym (adjugate-diagonal d)) (record { each = at })
  where
    yz : Divides (d.x *ℤ d.y) (d.y *ℤ d.z)
    yz =
        let p = f.first in
        let q = f.second in
        record {
          times = q.times *ℤ p.times;
          is = ap (λ z. d.y *ℤ z) q.is ∙ ap (λ y. d.y *ℤ (q.times *ℤ y)) p.is ∙ ring (d.x ∷ d.y ∷ p.times ∷ q.times ∷ []) (search reify depth 60 fits 100000) tt;
        }

    zx : Divides (d.x *ℤ d.y) (d.z *ℤ d.x)
    zx = let q = f.second in record { times = q.times; is = ap (λ z. z *ℤ d.x) q.is ∙ ring (d.x ∷ d.y ∷ q.times ∷ []) (search reify depth 60 fits 100000) tt }

    at : (i j : Axis) → Divides (d.x *ℤ d.y) (entry (diagonal (pairs d)) i j)
    at X X = yz
    at X Y = divides-zero (d.x *ℤ d.y)
    at X Z = divides-zero (d.x *ℤ d.y)
    at Y X = divides-zero (d.x *ℤ d.y)
    at Y Y = zx
    at Y Z = divides-zero (d.x *ℤ d.y)
    at Z X = divides-zero (d.x *ℤ d.y)
    at Z Y = divides-zero (d.x *ℤ d.y)
    at Z Z = divides-refl (d.x *ℤ d.y)

-- ---- one side of each equation
module _ {A P Q P' Q' : Mat ℤ} {d e : Vec ℤ} (p : Brings A P Q (diagonal d)) (q : Brings A P' Q' (diagonal e)) (f : Factors d) where
  first-divides : Divides d.x e.x
  first-divides = (common-along q (common-along (brings-back p) (first-common f))).each X X

  minors-divide : Divides (d.x *ℤ d.y) (e.x *ℤ e.y)
  minors-divide =
      subst (λ (m : Mat ℤ). Divides (d.x *ℤ d.y) m.i) (adjugate-diagonal e) ((minors-along q (minors-along (brings-back p) (minors-common f))).each Z Z)

-- ---- determinants
det-size : {A P Q : Mat ℤ} {d : Vec ℤ} → Brings A P Q (diagonal d) → nat_abs (det A) ≡ nat_abs (d.x *ℤ d.y *ℤ d.z)
det-size {A} {P} {Q} {d} p =
    sym (ap nat_abs (det-brought A P Q p.product)
    ∙ abs-mul (det P *ℤ det A) (det Q) ∙ ap₂ (λ x y. x * y) (abs-mul (det P) (det A) ∙ ap (λ x. x * nat_abs (det A)) p.unit-p) p.unit-q ∙ one (nat_abs (det A)))
  where
    one : (n : ℕ) → 1 * n * 1 ≡ n
    one n = omega arith

-- equal sizes of positive numbers, and of their products
same_number : {x y : ℤ} → pos (nat_abs x) ≡ x → pos (nat_abs y) ≡ y → nat_abs x ≡ nat_abs y → x ≡ y
same_number p q e = sym p ∙ ap pos e ∙ q

next-number : (a b c : ℕ) → zero < a → a * b ≡ a * c → b ≡ c
next-number a b c h e = eq_of_mul-eq-mul_right a h b c (mul_comm b a ∙ e ∙ mul_comm a c)

pub factors-unique : {A P Q P' Q' : Mat ℤ} {d e : Vec ℤ} → Brings A P Q (diagonal d) → Brings A P' Q' (diagonal e) → Factors d → Factors e → d ≡ e
factors-unique {d = d} {e = e} p q f g =
    let a = nat_abs d.x in
    let b = nat_abs d.y in
    let ab = nat_abs (d.x *ℤ d.y) in
    let one = divides-antisym (first-divides p q f) (first-divides q p g) in
    let minors = divides-antisym (minors-divide p q f) (minors-divide q p g) in
    let two = sym (abs-mul d.x d.y) ∙ minors ∙ abs-mul e.x e.y in
    let second = next-number a b (nat_abs e.y) (is-size (f.positive X)).1 (two ∙ ap (λ n. n * nat_abs e.y) (sym one)) in
    let three = sym (abs-mul (d.x *ℤ d.y) d.z) ∙ sym (det-size p) ∙ det-size q ∙ abs-mul (e.x *ℤ e.y) e.z in
    let nonzero : zero < ab = subst (λ (n : ℕ). zero < n) (sym (abs-mul d.x d.y)) (mul-pos (is-size (f.positive X)).1 (is-size (f.positive Y)).1) in
    let third = next-number ab (nat_abs d.z) (nat_abs e.z) nonzero (three ∙ ap (λ n. n * nat_abs e.z) (sym minors)) in
    λ i. record { x = same X one i; y = same Y second i; z = same Z third i }
  where
    same : (k : Axis) → nat_abs (side d k) ≡ nat_abs (side e k) → side d k ≡ side e k
    same k n = same_number (is-size (f.positive k)).0 (is-size (g.positive k)).0 n
