-- a = p · A · transpose q is kept; what `first` and `second` leave; and their pivots, which divide the determinant of A and are not 0.
use mathlib.Core.Path.{◌≡◌, refl, sym, ◌∙◌, ap, ap₂, subst}
use mathlib.Core.Bool.{Bool, not, ◌&&◌}
use mathlib.Core.List.{[], ◌∷◌}
use Prim.Native.Nat.{zero, ◌<◌}
use lib.Dec.{T}
use lib.IntN.{ℤ, pos, neg_ℤ, nat_abs, ◌+ℤ◌, ◌*ℤ◌, ◌-ℤ◌}
use lib.Signed.{quot_z, rem_z}
use Rattle.std.specs.Prelude.{Some}
use Rattle.integer.specs.Checked.{fits64, is_zero}
use Rattle.integer.specs.Divides.{Divides}
use Rattle.integer.proofs.Test.{and_l, and_r}
use Rattle.integer.proofs.Ring.{neg-*ℤ}
use Rattle.integer.proofs.Reify.{ring, reify, zero-by, ◌∗◌, ◌⊹◌, eq-by}
use Rattle.integer.proofs.Size.{zero_test, nonzero-test}
use Rattle.integer.proofs.Divides.{unit-square, divides-mul, divides-quot, divides-rem, rem-zero}
use Rattle.common.specs.Matrix.{Mat, Vec, transpose, ◌·◌, det, diagonal}
use Rattle.common.specs.Array.{matrix_of}
use Rattle.common.proofs.Matrix.{product-assoc, transpose-product, det-product, det-transpose}
use Rattle.common.proofs.Unimodular.{Regular, Unimodular, regular-product, regular-transpose, unimodular-regular, unimodular-product, unimodular-transpose}
use Rattle.snf_steps.specs.Elementary.{below_first, below_second, quotient_fits, neg_quotient_fits, is_multiple, neg_quotient}
use Rattle.snf_steps.specs.Columns.{Pair, multiply, first_column, second_column}
use Rattle.snf_steps.specs.Stages.{Triple, rows_of, columns_of, with_rows, with_columns, on_rows, on_columns, one_loop, Outcome, through, again, first_end, first, second_end, second}
use Rattle.snf_steps.proofs.Accepted.{Accepted, accepted, accepted-is, accepted-bind, accepted-provided, accepted-pick}
use Rattle.snf_steps.proofs.FittingEntries.{Fits, transpose-fits}
use Rattle.snf_steps.proofs.RowOperations.{below-first, below-second, unimodular-below-first, unimodular-below-second}
use Rattle.snf_steps.proofs.Zeroing.{multiply-does, Moves}
use Rattle.snf_steps.proofs.Clearing.{first-column, Block, second-column}

-- ---- the test of a multiple, and the quotient that clears it
pub record MultipleTest (z d : ℤ) (b : Bool) : Type 0 where
  pub nonzero : zero < nat_abs d
  pub is : b ≡ is_zero (rem_z z d)

pub is-multiple-does : (z d : ℤ) → Accepted (MultipleTest z d) (is_multiple z d)
is-multiple-does z d =
    accepted-provided (quotient_fits z d) (is_zero (rem_z z d))
    (λ t. record { nonzero = nonzero-test d (and_l (not (is_zero d)) (fits64 (quot_z z d)) t); is = refl })

pub test-divides : {z d : ℤ} {b : Bool} → MultipleTest z d b → T b → Divides d z
test-divides {z} {d} m t = rem-zero z d (zero_test (rem_z z d) (subst T m.is t))

pub test-refutes : {z d : ℤ} {b : Bool} → MultipleTest z d b → T (not b) → Divides d z → ⊥
test-refutes {z} {d} m t p = subst (λ (r : ℤ). T (not (is_zero r))) (divides-rem m.nonzero p) (subst (λ b. T (not b)) m.is t)

pub neg-quotient-does : {z d : ℤ} → zero < nat_abs d → (p : Divides d z) → Accepted (λ u. u ≡ neg_ℤ p.times) (neg_quotient z d)
neg-quotient-does {z} {d} h p =
    accepted-provided (neg_quotient_fits z d) (quot_z (neg_ℤ z) d)
    (λ _. divides-quot h (record { times = neg_ℤ p.times; is = ap neg_ℤ p.is ∙ sym (neg-*ℤ p.times d) }))

-- u times the pivot, added to its multiple z
pub cleared : {u z d : ℤ} (p : Divides d z) → u ≡ neg_ℤ p.times → u *ℤ d +ℤ z ≡ pos 0
cleared {d = d} p e = ap₂ (λ u z. u *ℤ d +ℤ z) e p.is ∙ ring (p.times ∷ d ∷ []) (search reify depth 40) tt

-- u times 0, added to z
pub stays : (u : ℤ) {y z w : ℤ} → y ≡ pos 0 → z ≡ w → u *ℤ y +ℤ z ≡ w
stays u {w = w} e f = ap₂ (λ y z. u *ℤ y +ℤ z) e f ∙ ring (u ∷ w ∷ []) (search reify depth 40) tt

-- ---- diagonal matrices
pub record IsDiagonal (m : Mat ℤ) : Type 0 where
  pub numbers : Vec ℤ
  pub is : m ≡ diagonal numbers

diagonal-by : (m : Mat ℤ) → Block m → m.f ≡ pos 0 → m.h ≡ pos 0 → IsDiagonal m
diagonal-by m k f0 h0 = record {
  numbers = record { x = m.a; y = m.e; z = m.i };
  is = λ j. record { a = m.a; b = k.b0 j; c = k.c0 j; d = k.d0 j; e = m.e; f = f0 j; g = k.g0 j; h = h0 j; i = m.i };
}

pub block-transpose : {m : Mat ℤ} → Block m → Block (transpose m)
block-transpose k = record { b0 = k.d0; c0 = k.g0; d0 = k.b0; g0 = k.c0 }

module _ (A : Mat ℤ) where
  pub record Kept (s : Triple) : Type 0 where
    pub product : s.a ≡ s.p · A · transpose s.q
    pub unimodular-p : Unimodular s.p
    pub unimodular-q : Unimodular s.q

  -- a state of the walk
  pub record Sound (s : Triple) : Type 0 where
    pub kept : Kept s
    pub fits : Fits s.a

  pub rows-kept : (s : Triple) (u : Pair) → Kept s → Moves (rows_of s) u → Kept (with_rows s u)
  rows-kept s u v m =
      let l = m.by in
      let q = transpose s.q in
      record {
        product = ap (λ (x : Pair). x.a) m.is ∙ ap (λ x. l · x) v.product ∙ sym (product-assoc l (s.p · A) q)
            ∙ ap (λ x. x · q) (sym (product-assoc l s.p A)) ∙ ap (λ (x : Pair). x.p · A · q) (sym m.is);
        unimodular-p = subst (λ (x : Pair). Unimodular x.p) (sym m.is) (unimodular-product m.unimodular v.unimodular-p);
        unimodular-q = v.unimodular-q;
      }

  pub columns-kept : (s : Triple) (u : Pair) → Kept s → Moves (columns_of s) u → Kept (with_columns s u)
  columns-kept s u v m =
      let l = m.by in
      record {
        product = ap (λ (x : Pair). transpose x.a) m.is ∙ transpose-product l (transpose s.a) ∙ ap (λ x. x · transpose l) v.product
            ∙ product-assoc (s.p · A) (transpose s.q) (transpose l)
            ∙ ap (λ x. s.p · A · x) (sym (transpose-product l s.q) ∙ ap (λ (x : Pair). transpose x.p) (sym m.is));
        unimodular-p = v.unimodular-p;
        unimodular-q = subst (λ (x : Pair). Unimodular x.p) (sym m.is) (unimodular-product m.unimodular v.unimodular-q);
      }

  pub kept-regular : Regular A → {s : Triple} → Kept s → Regular s.a
  kept-regular r v =
      subst Regular (sym v.product)
      (regular-product (regular-product (unimodular-regular v.unimodular-p) r) (unimodular-regular (unimodular-transpose v.unimodular-q)))

  -- both determinants are the same up to their sign, so what divides one divides the other
  pub kept-divides : {s : Triple} → Kept s → {d : ℤ} → Divides d (det s.a) → Divides d (det A)
  kept-divides {s} v {d} p =
      subst (Divides d) (sym (same (det s.p) (det A) (det s.q) (unit-square (det s.p) v.unimodular-p.unit) (unit-square (det s.q) v.unimodular-q.unit)))
      (divides-mul (det s.p *ℤ det s.q) (subst (Divides d) whole p))
    where
      whole : det s.a ≡ det s.p *ℤ det A *ℤ det s.q
      whole = ap det v.product ∙ det-product (s.p · A) (transpose s.q) ∙ ap₂ ◌*ℤ◌ (det-product s.p A) (det-transpose s.q)

      same : (p a q : ℤ) → p *ℤ p ≡ pos 1 → q *ℤ q ≡ pos 1 → a ≡ p *ℤ q *ℤ (p *ℤ a *ℤ q)
      same p a q e f = eq-by (zero-by e ∗ (neg_ℤ a *ℤ q *ℤ q) ⊹ zero-by f ∗ neg_ℤ a) (ring (p ∷ a ∷ q ∷ []) (search reify depth 60 fits 100000) tt)

  -- ---- rows or columns by one matrix
  pub record ByRows (l : Mat ℤ) (s t : Triple) : Type 0 where
    pub sound : Sound t
    pub is : t.a ≡ l · s.a

  pub rows-multiplied : (l : Mat ℤ) (s : Triple) → Unimodular l → Sound s → Accepted (ByRows l s) (on_rows (multiply l) s)
  rows-multiplied l s u v =
      accepted-bind (λ u. Some (with_rows s u)) (multiply-does l (rows_of s)) (λ t q. accepted (record {
        sound = record { kept = rows-kept s t v.kept (record { by = l; unimodular = u; is = q.is }); fits = q.fits };
        is = ap (λ (x : Pair). x.a) q.is;
      }))

  pub record ByColumns (l : Mat ℤ) (s t : Triple) : Type 0 where
    pub sound : Sound t
    pub is : t.a ≡ transpose (l · transpose s.a)

  pub columns-multiplied : (l : Mat ℤ) (s : Triple) → Unimodular l → Sound s → Accepted (ByColumns l s) (on_columns (multiply l) s)
  columns-multiplied l s u v =
      accepted-bind (λ u. Some (with_columns s u)) (multiply-does l (columns_of s)) (λ t q. accepted (record {
        sound = record { kept = columns-kept s t v.kept (record { by = l; unimodular = u; is = q.is }); fits = transpose-fits q.fits };
        is = ap (λ (x : Pair). transpose x.a) q.is;
      }))

  -- ---- the pivots
  -- after a loop over the first column: the row of the pivot is clear beside it
  pub record FirstPivot (s : Triple) : Type 0 where
    pub sound : Sound s
    pub nonzero : zero < nat_abs s.a.a
    pub b0 : s.a.b ≡ pos 0
    pub c0 : s.a.c ≡ pos 0

  pub first-pivot-divides : {s : Triple} → FirstPivot s → Divides s.a.a (det A)
  first-pivot-divides {s} k =
      let m = s.a in
      kept-divides k.sound.kept (record {
        times = m.e *ℤ m.i -ℤ m.f *ℤ m.h;
        is = (λ j. det (record { a = m.a; b = k.b0 j; c = k.c0 j; d = m.d; e = m.e; f = m.f; g = m.g; h = m.h; i = m.i }))
            ∙ law m.a m.d m.e m.f m.g m.h m.i;
      })
    where
      law : (a d e f g h i : ℤ) → det (record { a = a; b = pos 0; c = pos 0; d = d; e = e; f = f; g = g; h = h; i = i }) ≡ (e *ℤ i -ℤ f *ℤ h) *ℤ a
      law a d e f g h i = ring (a ∷ d ∷ e ∷ f ∷ g ∷ h ∷ i ∷ []) (search reify depth 60 fits 100000) tt

  -- after a loop over the second column of a block
  pub record SecondPivot (s : Triple) : Type 0 where
    pub sound : Sound s
    pub block : Block s.a
    pub nonzero : zero < nat_abs s.a.e
    pub f0 : s.a.f ≡ pos 0

  pub second-pivot-divides : {s : Triple} → SecondPivot s → Divides s.a.e (det A)
  second-pivot-divides {s} k =
      let m = s.a in
      kept-divides k.sound.kept (record {
        times = m.a *ℤ m.i;
        is = (λ j. det (record { a = m.a; b = k.block.b0 j; c = k.block.c0 j; d = m.d; e = m.e; f = k.f0 j; g = m.g; h = m.h; i = m.i }))
            ∙ law m.a m.d m.e m.g m.h m.i;
      })
    where
      law : (a d e g h i : ℤ) → det (record { a = a; b = pos 0; c = pos 0; d = d; e = e; f = pos 0; g = g; h = h; i = i }) ≡ a *ℤ i *ℤ e
      law a d e g h i = ring (a ∷ d ∷ e ∷ g ∷ h ∷ i ∷ []) (search reify depth 60 fits 100000) tt

  -- ---- what the stages leave
  -- through: the first row and column are clear; not through: the row is, and the pivot does not divide the column
  pub record FirstLeft (o : Outcome) : Type 0 where
    pub pivot : FirstPivot o.left
    pub block : T o.done → Block o.left.a
    pub uneven : T (not o.done) → Divides o.left.a.a o.left.a.d → Divides o.left.a.a o.left.a.g → ⊥

  -- through: a is diagonal; not through: still a block, whose pivot does not divide the entry below it
  pub record SecondLeft (o : Outcome) : Type 0 where
    pub pivot : SecondPivot o.left
    pub diagonal : T o.done → IsDiagonal o.left.a
    pub uneven : T (not o.done) → Divides o.left.a.e o.left.a.h → ⊥

  module _ (r : Regular A) where
    -- ---- first
    pub first-loop : (s : Triple) → Sound s → Accepted FirstPivot (one_loop first_column s)
    unfolding one_loop
    first-loop s v =
        accepted-bind {P = Sound} (on_columns first_column) (accepted-bind _ (first-column (rows_of s) v.fits (kept-regular r v.kept))
        (λ u p. accepted (record { kept = rows-kept s u v.kept p.moves; fits = p.fits })))
        (λ t w. accepted-bind _ (first-column (columns_of t) (transpose-fits w.fits) (regular-transpose (kept-regular r w.kept)))
        (λ u p. accepted (record {
          sound = record { kept = columns-kept t u w.kept p.moves; fits = transpose-fits p.fits };
          nonzero = p.nonzero;
          b0 = p.d0;
          c0 = p.g0;
        })))

    pub first-pivot-nonzero : (s t : Triple) → Sound s → one_loop first_column s ≡ Some t → zero < nat_abs t.a.a
    first-pivot-nonzero s t v e = (accepted-is (first-loop s v) e).nonzero

    first-end : (s : Triple) → FirstPivot s → Accepted FirstLeft (first_end s)
    first-end s k =
        let m = s.a in
        accepted-pick (is_zero m.d && is_zero m.g) (through s) _
        (λ t. accepted (record {
          pivot = k;
          block = λ _. record { b0 = k.b0; c0 = k.c0; d0 = zero_test m.d (and_l (is_zero m.d) (is_zero m.g) t); g0 = zero_test m.g (and_r (is_zero m.d) (is_zero m.g) t) };
          uneven = λ n. absurd n;
        }))
        (λ _. accepted-bind _ (is-multiple-does m.d m.a) (λ b e. accepted-pick b _ (again s)
        (λ t. accepted-bind _ (is-multiple-does m.g m.a) (λ c f. accepted-pick c _ (again s)
        (λ u.
        let y = test-divides e t in
        let z = test-divides f u in
        accepted-bind _ (neg-quotient-does k.nonzero y) (λ x p. accepted-bind _ (neg-quotient-does k.nonzero z) (λ w q.
        accepted-bind _ (rows-multiplied (matrix_of (below_first x w)) s (unimodular-below-first x w) k.sound) (λ n l.
        let rows = l.is ∙ below-first x w m in
        let b0 = ap (λ (a : Mat ℤ). a.b) rows ∙ k.b0 in
        let c0 = ap (λ (a : Mat ℤ). a.c) rows ∙ k.c0 in
        accepted (record {
          pivot = record { sound = l.sound; nonzero = subst (λ (a : Mat ℤ). zero < nat_abs a.a) (sym rows) k.nonzero; b0 = b0; c0 = c0 };
          block = λ _. record { b0 = b0; c0 = c0; d0 = ap (λ (a : Mat ℤ). a.d) rows ∙ cleared y p; g0 = ap (λ (a : Mat ℤ). a.g) rows ∙ cleared z q };
          uneven = λ n. absurd n;
        })))))
        (λ n. accepted (record { pivot = k; block = λ t. absurd t; uneven = λ _ _ z. test-refutes f n z }))))
        (λ n. accepted (record { pivot = k; block = λ t. absurd t; uneven = λ _ y _. test-refutes e n y }))))

    pub first-leaves : (s : Triple) → Sound s → Accepted FirstLeft (first s)
    unfolding first
    first-leaves s v = accepted-bind first_end (first-loop s v) first-end

    -- ---- second
    pub second-loop : (s : Triple) → Sound s → Block s.a → Accepted SecondPivot (one_loop second_column s)
    unfolding one_loop
    second-loop s v k =
        accepted-bind {P = λ t. Sound t × Block t.a} (on_columns second_column) (accepted-bind _ (second-column (rows_of s) v.fits k (kept-regular r v.kept))
        (λ u p. accepted (record { kept = rows-kept s u v.kept p.moves; fits = p.fits }, p.block)))
        (λ t w. accepted-bind _ (second-column (columns_of t) (transpose-fits w.0.fits) (block-transpose w.1) (regular-transpose (kept-regular r w.0.kept)))
        (λ u p. accepted (record {
          sound = record { kept = columns-kept t u w.0.kept p.moves; fits = transpose-fits p.fits };
          block = block-transpose p.block;
          nonzero = p.nonzero;
          f0 = p.h0;
        })))

    pub second-pivot-nonzero : (s t : Triple) → Sound s → Block s.a → one_loop second_column s ≡ Some t → zero < nat_abs t.a.e
    second-pivot-nonzero s t v k e = (accepted-is (second-loop s v k) e).nonzero

    second-end : (s : Triple) → SecondPivot s → Accepted SecondLeft (second_end s)
    second-end s k =
        let m = s.a in
        accepted-pick (is_zero m.h) (through s) _
        (λ t. accepted (record { pivot = k; diagonal = λ _. diagonal-by m k.block k.f0 (zero_test m.h t); uneven = λ n. absurd n }))
        (λ _. accepted-bind _ (is-multiple-does m.h m.e) (λ b e. accepted-pick b _ (again s)
        (λ t.
        let z = test-divides e t in
        accepted-bind _ (neg-quotient-does k.nonzero z) (λ w q.
        accepted-bind _ (rows-multiplied (matrix_of (below_second w)) s (unimodular-below-second w) k.sound) (λ n l.
        let rows = l.is ∙ below-second w m in
        let block : Block n.a = record {
          b0 = ap (λ (a : Mat ℤ). a.b) rows ∙ k.block.b0;
          c0 = ap (λ (a : Mat ℤ). a.c) rows ∙ k.block.c0;
          d0 = ap (λ (a : Mat ℤ). a.d) rows ∙ k.block.d0;
          g0 = ap (λ (a : Mat ℤ). a.g) rows ∙ stays w k.block.d0 k.block.g0;
        } in
        let f0 = ap (λ (a : Mat ℤ). a.f) rows ∙ k.f0 in
        accepted (record {
          pivot = record { sound = l.sound; block = block; nonzero = subst (λ (a : Mat ℤ). zero < nat_abs a.e) (sym rows) k.nonzero; f0 = f0 };
          diagonal = λ _. diagonal-by n.a block f0 (ap (λ (a : Mat ℤ). a.h) rows ∙ cleared z q);
          uneven = λ n. absurd n;
        }))))
        (λ n. accepted (record { pivot = k; diagonal = λ t. absurd t; uneven = λ _ z. test-refutes e n z }))))

    pub second-leaves : (s : Triple) → Sound s → Block s.a → Accepted SecondLeft (second s)
    unfolding second
    second-leaves s v k = accepted-bind second_end (second-loop s v k) second-end
