-- The walk: what it leaves is the given matrix times one with a determinant of 1 or -1 on the left, in Hermite form.
use mathlib.Core.Path.{◌≡◌, refl, sym, ◌∙◌, ap, subst}
use mathlib.Core.Bool.{not}
use mathlib.Core.List.{[], ◌∷◌}
use Prim.Native.Nat.{ℕ, zero, suc, ◌<◌}
use native.Mathlib.Omega.{arith}
use lib.Dec.{T, ltb→lt, lt→ltb, le→leb}
use lib.IntN.{ℤ, pos, negsuc, neg_ℤ, nat_abs, ◌+ℤ◌, ◌*ℤ◌}
use lib.Signed.{◌<ℤ◌, lt_z}
use Rattle.integer.specs.Division.{div_euclid, rem_euclid}
use Rattle.integer.proofs.Order.{NonNeg}
use Rattle.integer.proofs.Reify.{ring, reify}
use Rattle.integer.proofs.Divides.{nonzero-factors}
use Rattle.integer.proofs.Division.{div-rem-euclid, rem-euclid-nonneg, rem-euclid-lt}
use Rattle.common.specs.Matrix.{X, Y, Z, Mat, ◌·◌}
use Rattle.common.specs.Array.{matrix_of}
use Rattle.common.proofs.Unimodular.{Regular, Unimodular}
use Rattle.snf_steps.specs.Elementary.{elementary_flip_sign_row}
use Rattle.snf_steps.proofs.Accepted.{Accepted, accepted-bind}
use Rattle.snf_steps.proofs.FittingEntries.{Fits, entry-size}
use Rattle.snf_steps.proofs.Bezout.{zero-below}
use Rattle.snf_steps.proofs.RowOperations.{combine-01, combine-02, combine-12, flip-0, flip-1, flip-2, add-01, add-02, add-12, unimodular-01, unimodular-02, unimodular-12, unimodular-add-01, unimodular-add-02, unimodular-add-12}
use Rattle.snf_steps.proofs.Clearing.{of-zeros}
use Rattle.hermite3x3.specs.Points.{LeftMultiple, Reduced, HermiteForm}
use Rattle.hermite3x3.specs.Hermite3x3.{clear, sign, reduce, columns, signs, above, steps}
use Rattle.hermite3x3.proofs.Points.{left-none, left-then, left-regular}
use Rattle.hermite3x3.proofs.Unique.{positive-size, triangular}
use Rattle.hermite3x3.proofs.RowSteps.{clear-does, sign-does, reduce-does}

-- one more matrix on the left
product-left : {A m t : Mat ℤ} {l : Mat ℤ} → LeftMultiple A m → Unimodular l → t ≡ l · m → LeftMultiple A t
product-left {l = l} k u e = left-then k (record { by = l; unit = u.unit; is = sym e })

-- ---- the columns: zeros below the diagonal, one after the other, in matrices that A makes from the left
record Begun (A m : Mat ℤ) : Type 0 where
  left : LeftMultiple A m
  fits : Fits m

record OneZero (A m : Mat ℤ) : Type 0 where
  begun : Begun A m
  d0 : m.d ≡ pos 0

record TwoZeros (A m : Mat ℤ) : Type 0 where
  begun : Begun A m
  d0 : m.d ≡ pos 0
  g0 : m.g ≡ pos 0

pub record Upper (A m : Mat ℤ) : Type 0 where
  pub left : LeftMultiple A m
  pub d0 : m.d ≡ pos 0
  pub g0 : m.g ≡ pos 0
  pub h0 : m.h ≡ pos 0

module _ (A : Mat ℤ) where
  clear-01 : (m : Mat ℤ) → Begun A m → Accepted (OneZero A) (clear 0 1 m.a m.d m)
  clear-01 m s =
      clear-does (OneZero A) 0 1 m.a m.d m (entry-size s.fits Y X)
      (λ e. record { begun = s; d0 = e })
      (λ z t p. let rows = combine-01 z.s z.t (neg_ℤ z.v) z.u m in record {
        begun = record { left = product-left s.left (unimodular-01 z) p.is; fits = p.fits };
        d0 = ap (λ (m : Mat ℤ). m.d) (p.is ∙ rows) ∙ zero-below z;
      })

  clear-02 : (m : Mat ℤ) → OneZero A m → Accepted (TwoZeros A) (clear 0 2 m.a m.g m)
  clear-02 m s =
      clear-does (TwoZeros A) 0 2 m.a m.g m (entry-size s.begun.fits Z X)
      (λ e. record { begun = s.begun; d0 = s.d0; g0 = e })
      (λ z t p. let rows = combine-02 z.s z.t (neg_ℤ z.v) z.u m in record {
        begun = record { left = product-left s.begun.left (unimodular-02 z) p.is; fits = p.fits };
        d0 = ap (λ (m : Mat ℤ). m.d) (p.is ∙ rows) ∙ s.d0;
        g0 = ap (λ (m : Mat ℤ). m.g) (p.is ∙ rows) ∙ zero-below z;
      })

  clear-12 : (m : Mat ℤ) → TwoZeros A m → Accepted (Upper A) (clear 1 2 m.e m.h m)
  clear-12 m s =
      clear-does (Upper A) 1 2 m.e m.h m (entry-size s.begun.fits Z Y)
      (λ e. record { left = s.begun.left; d0 = s.d0; g0 = s.g0; h0 = e })
      (λ z t p. let rows = combine-12 z.s z.t (neg_ℤ z.v) z.u m in record {
        left = product-left s.begun.left (unimodular-12 z) p.is;
        d0 = ap (λ (m : Mat ℤ). m.d) (p.is ∙ rows) ∙ of-zeros z.s z.t s.d0 s.g0;
        g0 = ap (λ (m : Mat ℤ). m.g) (p.is ∙ rows) ∙ of-zeros (neg_ℤ z.v) z.u s.d0 s.g0;
        h0 = ap (λ (m : Mat ℤ). m.h) (p.is ∙ rows) ∙ zero-below z;
      })

  pub columns-clear : Fits A → Accepted (Upper A) (columns A)
  unfolding columns
  columns-clear w = accepted-bind _ (accepted-bind _ (clear-01 A (record { left = left-none A; fits = w })) clear-02) clear-12

-- ---- the diagonal is not 0
record Pivots (m : Mat ℤ) : Type 0 where
  a : zero < nat_abs m.a
  e : zero < nat_abs m.e
  i : zero < nat_abs m.i

pivots : {A m : Mat ℤ} → Regular A → Upper A m → Pivots m
pivots {m = m} r u =
    let whole = nonzero-factors (m.a *ℤ m.e) m.i (subst (λ (z : ℤ). zero < nat_abs z) (triangular m u.d0 u.g0 u.h0) (left-regular r u.left).nonzero) in
    let two = nonzero-factors m.a m.e whole.0 in
    record { a = two.0; e = two.1; i = whole.1 }

-- ---- the signs
kept-positive : (x : ℤ) → zero < nat_abs x → T (not (lt_z x (pos 0))) → pos 0 <ℤ x
kept-positive (pos n) h t = record { lt = lt→ltb 0 n h }
kept-positive (negsuc n) h t = absurd t

made-positive : (x : ℤ) → T (lt_z x (pos 0)) → pos 0 <ℤ neg_ℤ x
made-positive (pos n) t = absurd (never n (ltb→lt n 0 t))
  where
    never : (n : ℕ) → n < 0 → ⊥
    never n h = omega arith
made-positive (negsuc n) t = record { lt = lt→ltb 0 (suc n) (omega arith) }

positive-by : {x y : ℤ} → x ≡ y → pos 0 <ℤ y → pos 0 <ℤ x
positive-by e h = subst (λ z. pos 0 <ℤ z) (sym e) h

record OnePositive (A m : Mat ℤ) : Type 0 where
  upper : Upper A m
  a : pos 0 <ℤ m.a

record TwoPositive (A m : Mat ℤ) : Type 0 where
  upper : Upper A m
  a : pos 0 <ℤ m.a
  e : pos 0 <ℤ m.e

pub record Positive (A m : Mat ℤ) : Type 0 where
  pub upper : Upper A m
  pub a : pos 0 <ℤ m.a
  pub e : pos 0 <ℤ m.e
  pub i : pos 0 <ℤ m.i

module _ (A : Mat ℤ) (r : Regular A) where
  sign-0 : (m : Mat ℤ) → Upper A m → Accepted (OnePositive A) (sign 0 m.a m)
  sign-0 m u =
      sign-does (OnePositive A) 0 m.a m
      (λ n. record { upper = u; a = kept-positive m.a (pivots r u).a n })
      (λ n t s. let rows = s ∙ flip-0 m in record {
        upper = record { left = product-left {l = matrix_of (elementary_flip_sign_row 0)} u.left (record { unit = refl }) s; d0 = ap (λ (m : Mat ℤ). m.d) rows ∙ u.d0; g0 = ap (λ (m : Mat ℤ). m.g) rows ∙ u.g0; h0 = ap (λ (m : Mat ℤ). m.h) rows ∙ u.h0 };
        a = positive-by (ap (λ (m : Mat ℤ). m.a) rows) (made-positive m.a n);
      })

  sign-1 : (m : Mat ℤ) → OnePositive A m → Accepted (TwoPositive A) (sign 1 m.e m)
  sign-1 m v =
      let u = v.upper in
      sign-does (TwoPositive A) 1 m.e m
      (λ n. record { upper = u; a = v.a; e = kept-positive m.e (pivots r u).e n })
      (λ n t s. let rows = s ∙ flip-1 m in record {
        upper = record { left = product-left {l = matrix_of (elementary_flip_sign_row 1)} u.left (record { unit = refl }) s; d0 = ap (λ (m : Mat ℤ). m.d) rows ∙ ap neg_ℤ u.d0; g0 = ap (λ (m : Mat ℤ). m.g) rows ∙ u.g0; h0 = ap (λ (m : Mat ℤ). m.h) rows ∙ u.h0 };
        a = positive-by (ap (λ (m : Mat ℤ). m.a) rows) v.a;
        e = positive-by (ap (λ (m : Mat ℤ). m.e) rows) (made-positive m.e n);
      })

  sign-2 : (m : Mat ℤ) → TwoPositive A m → Accepted (Positive A) (sign 2 m.i m)
  sign-2 m v =
      let u = v.upper in
      sign-does (Positive A) 2 m.i m
      (λ n. record { upper = u; a = v.a; e = v.e; i = kept-positive m.i (pivots r u).i n })
      (λ n t s. let rows = s ∙ flip-2 m in record {
        upper = record { left = product-left {l = matrix_of (elementary_flip_sign_row 2)} u.left (record { unit = refl }) s; d0 = ap (λ (m : Mat ℤ). m.d) rows ∙ u.d0; g0 = ap (λ (m : Mat ℤ). m.g) rows ∙ ap neg_ℤ u.g0; h0 = ap (λ (m : Mat ℤ). m.h) rows ∙ ap neg_ℤ u.h0 };
        a = positive-by (ap (λ (m : Mat ℤ). m.a) rows) v.a;
        e = positive-by (ap (λ (m : Mat ℤ). m.e) rows) v.e;
        i = positive-by (ap (λ (m : Mat ℤ). m.i) rows) (made-positive m.i n);
      })

  pub signs-positive : (m : Mat ℤ) → Upper A m → Accepted (Positive A) (signs m)
  unfolding signs
  signs-positive m u = accepted-bind _ (accepted-bind _ (sign-0 m u) sign-1) sign-2

-- ---- the entries above
zero-reduced : {x p : ℤ} → x ≡ pos 0 → pos 0 <ℤ p → Reduced x p
zero-reduced {p = p} e h = subst (λ x. Reduced x p) (sym e) (record { least = record { le = tt }; below = h })

-- a remainder
reduced-of : {x p : ℤ} → NonNeg x → nat_abs x < nat_abs p → pos 0 <ℤ p → Reduced x p
reduced-of {x = pos m} {p = pos n} s l h = record { least = record { le = le→leb 0 m (omega arith) }; below = record { lt = lt→ltb m n l } }
reduced-of {x = negsuc m} s l h = absurd s.sign
reduced-of {x = pos m} {p = negsuc n} s l h = absurd h.lt

floor-rest : (x p : ℤ) → zero < nat_abs p → neg_ℤ (div_euclid x p) *ℤ p +ℤ x ≡ rem_euclid x p
floor-rest x p h = law (div_euclid x p) p (rem_euclid x p) x (div-rem-euclid x p h)
  where
    law : (q p r x : ℤ) → q *ℤ p +ℤ r ≡ x → neg_ℤ q *ℤ p +ℤ x ≡ r
    law q p r x e = ap (λ x. neg_ℤ q *ℤ p +ℤ x) (sym e) ∙ ring (q ∷ p ∷ r ∷ []) (search reify depth 40) tt

made-reduced : {y : ℤ} (x p : ℤ) → y ≡ neg_ℤ (div_euclid x p) *ℤ p +ℤ x → pos 0 <ℤ p → Reduced y p
made-reduced x p e h =
    subst (λ y. Reduced y p) (sym (e ∙ floor-rest x p (positive-size h)))
    (reduced-of (rem-euclid-nonneg x p) (rem-euclid-lt x p (positive-size h)) h)

-- q times 0, added to x
plus_none : (q x : ℤ) {p : ℤ} → p ≡ pos 0 → q *ℤ p +ℤ x ≡ x
plus_none q x e = ap (λ p. q *ℤ p +ℤ x) e ∙ ring (q ∷ x ∷ []) (search reify depth 40) tt

reduced-by : {x y p q : ℤ} → x ≡ y → p ≡ q → Reduced y q → Reduced x p
reduced-by {y} {p} e f r = subst (λ x. Reduced x p) (sym e) (subst (λ p. Reduced y p) (sym f) r)

record OneReduced (A m : Mat ℤ) : Type 0 where
  positive : Positive A m
  b : Reduced m.b m.e

record TwoReduced (A m : Mat ℤ) : Type 0 where
  positive : Positive A m
  b : Reduced m.b m.e
  c : Reduced m.c m.i

-- the Hermite form, and how it comes of A
pub record Formed (A m : Mat ℤ) : Type 0 where
  pub left : LeftMultiple A m
  pub form : HermiteForm m

module _ (A : Mat ℤ) where
  reduce-01 : (m : Mat ℤ) → Positive A m → Accepted (OneReduced A) (reduce 0 1 m.b m.e m)
  reduce-01 m v =
      let u = v.upper in
      let q = neg_ℤ (div_euclid m.b m.e) in
      reduce-does (OneReduced A) 0 1 m.b m.e m
      (λ e. record { positive = v; b = zero-reduced e v.e })
      (λ t s. let rows = s ∙ add-01 q m in record {
        positive = record {
          upper = record { left = product-left u.left (unimodular-add-01 q) s; d0 = ap (λ (m : Mat ℤ). m.d) rows ∙ u.d0; g0 = ap (λ (m : Mat ℤ). m.g) rows ∙ u.g0; h0 = ap (λ (m : Mat ℤ). m.h) rows ∙ u.h0 };
          a = positive-by (ap (λ (m : Mat ℤ). m.a) rows ∙ plus_none q m.a u.d0) v.a;
          e = positive-by (ap (λ (m : Mat ℤ). m.e) rows) v.e;
          i = positive-by (ap (λ (m : Mat ℤ). m.i) rows) v.i;
        };
        b = reduced-by refl (ap (λ (m : Mat ℤ). m.e) rows) (made-reduced m.b m.e (ap (λ (m : Mat ℤ). m.b) rows) v.e);
      })

  reduce-02 : (m : Mat ℤ) → OneReduced A m → Accepted (TwoReduced A) (reduce 0 2 m.c m.i m)
  reduce-02 m w =
      let v = w.positive in
      let u = v.upper in
      let q = neg_ℤ (div_euclid m.c m.i) in
      reduce-does (TwoReduced A) 0 2 m.c m.i m
      (λ e. record { positive = v; b = w.b; c = zero-reduced e v.i })
      (λ t s. let rows = s ∙ add-02 q m in record {
        positive = record {
          upper = record { left = product-left u.left (unimodular-add-02 q) s; d0 = ap (λ (m : Mat ℤ). m.d) rows ∙ u.d0; g0 = ap (λ (m : Mat ℤ). m.g) rows ∙ u.g0; h0 = ap (λ (m : Mat ℤ). m.h) rows ∙ u.h0 };
          a = positive-by (ap (λ (m : Mat ℤ). m.a) rows ∙ plus_none q m.a u.g0) v.a;
          e = positive-by (ap (λ (m : Mat ℤ). m.e) rows) v.e;
          i = positive-by (ap (λ (m : Mat ℤ). m.i) rows) v.i;
        };
        b = reduced-by (ap (λ (m : Mat ℤ). m.b) rows ∙ plus_none q m.b u.h0) (ap (λ (m : Mat ℤ). m.e) rows) w.b;
        c = reduced-by refl (ap (λ (m : Mat ℤ). m.i) rows) (made-reduced m.c m.i (ap (λ (m : Mat ℤ). m.c) rows) v.i);
      })

  reduce-12 : (m : Mat ℤ) → TwoReduced A m → Accepted (Formed A) (reduce 1 2 m.f m.i m)
  reduce-12 m w =
      let v = w.positive in
      let u = v.upper in
      let q = neg_ℤ (div_euclid m.f m.i) in
      reduce-does (Formed A) 1 2 m.f m.i m
      (λ e. record { left = u.left; form = record { d0 = u.d0; g0 = u.g0; h0 = u.h0; a = v.a; e = v.e; i = v.i; b = w.b; c = w.c; f = zero-reduced e v.i } })
      (λ t s. let rows = s ∙ add-12 q m in
      let e-same = ap (λ (m : Mat ℤ). m.e) rows ∙ plus_none q m.e u.h0 in
      let i-same = ap (λ (m : Mat ℤ). m.i) rows in
      record {
        left = product-left u.left (unimodular-add-12 q) s;
        form = record {
          d0 = ap (λ (m : Mat ℤ). m.d) rows ∙ plus_none q m.d u.g0 ∙ u.d0;
          g0 = ap (λ (m : Mat ℤ). m.g) rows ∙ u.g0;
          h0 = ap (λ (m : Mat ℤ). m.h) rows ∙ u.h0;
          a = positive-by (ap (λ (m : Mat ℤ). m.a) rows) v.a;
          e = positive-by e-same v.e;
          i = positive-by i-same v.i;
          b = reduced-by (ap (λ (m : Mat ℤ). m.b) rows) e-same w.b;
          c = reduced-by (ap (λ (m : Mat ℤ). m.c) rows) i-same w.c;
          f = reduced-by refl i-same (made-reduced m.f m.i (ap (λ (m : Mat ℤ). m.f) rows) v.i);
        };
      })

  pub above-reduced : (m : Mat ℤ) → Positive A m → Accepted (Formed A) (above m)
  unfolding above
  above-reduced m v = accepted-bind _ (accepted-bind _ (reduce-01 m v) reduce-02) reduce-12

  -- the walk
  pub steps-form : Fits A → Regular A → Accepted (Formed A) (steps A)
  unfolding steps
  steps-form w r = accepted-bind above (accepted-bind signs (columns-clear A w) (signs-positive A r)) above-reduced
