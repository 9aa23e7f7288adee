-- The column steps: they multiply by a matrix with a determinant of 1 or -1, clear the column below its pivot, and leave a pivot that is not 0.
use mathlib.Core.Path.{◌≡◌, refl, sym, ◌∙◌, ap, ap₂, subst}
use mathlib.Core.Bool.{Bool, true, false, not, ◌&&◌, cond}
use mathlib.Core.List.{[], ◌∷◌}
use Prim.Native.Nat.{ℕ, zero, ◌<◌}
use native.Mathlib.Omega.{arith}
use lib.Dec.{T}
use lib.IntN.{ℤ, pos, neg_ℤ, nat_abs, ◌+ℤ◌, ◌*ℤ◌}
use Rattle.std.specs.Prelude.{Some, None, Option}
use Rattle.integer.specs.Checked.{is_zero}
use Rattle.integer.specs.Divides.{Divides}
use Rattle.integer.proofs.Divides.{divides-refl, divides-mul, divides-zero}
use Rattle.integer.proofs.Test.{pick-cases}
use Rattle.integer.proofs.Reify.{ring, reify}
use Rattle.integer.proofs.Size.{zero_test, nonzero-test}
use Rattle.common.specs.Matrix.{X, Y, Z, Mat, ◌·◌, det}
use Rattle.common.specs.Array.{matrix_of}
use Rattle.common.proofs.Unimodular.{Unimodular, Regular}
use Rattle.snf_steps.specs.Elementary.{elementary_swap_rows}
use Rattle.snf_steps.specs.Columns.{Pair, multiply, to_top, zero_first_column, clear_from, first_column, zero_second_column, second_column}
use Rattle.snf_steps.proofs.Accepted.{Accepted, accepted, accepted-bind, accepted-map}
use Rattle.snf_steps.proofs.FittingEntries.{Fits, entry-size}
use Rattle.snf_steps.proofs.Bezout.{Bezout, gcd-on-top, zero-below}
use Rattle.snf_steps.proofs.RowOperations.{combining_by, combine-01, combine-02, combine-12, swap-01, swap-02, swap-12, unimodular-01, unimodular-02, unimodular-12}
use Rattle.snf_steps.proofs.Zeroing.{multiplied, multiply-does, Moves, moves-none, moves-then, make-zero-does}

nonzero-by : {x y : ℤ} → x ≡ y → zero < nat_abs y → zero < nat_abs x
nonzero-by e h = subst (λ (z : ℤ). zero < nat_abs z) (sym e) h

-- an entry of a matrix, where its pair or the matrix itself is known
pub entry_of : {t s : Pair} {m : Mat ℤ} (f : Mat ℤ → ℤ) → t ≡ s → s.a ≡ m → f t.a ≡ f m
entry_of f e g = ap f (ap (λ (x : Pair). x.a) e ∙ g)

never-zero : {m : Mat ℤ} → Regular m → det m ≡ pos 0 → ⊥
never-zero r e = no_size (subst (λ (z : ℤ). zero < nat_abs z) e r.nonzero)
  where
    no_size : zero < zero → ⊥
    no_size l = omega arith

-- what divides the gcd divides both numbers
of-gcd : {a b d g : ℤ} (z : Bezout a b) → g ≡ z.gcd → Divides d g → Divides d a × Divides d b
of-gcd {d = d} z e p =
    let q = subst (Divides d) e p in (subst (Divides d) (sym z.first) (divides-mul z.u q), subst (Divides d) (sym z.second) (divides-mul z.v q))

-- ---- the first column
-- what divides t's column divides s's
pub record Gathers (s t : Pair) : Type 0 where
  pub each : (d : ℤ) → Divides d t.a.a → Divides d t.a.d → Divides d t.a.g → Divides d s.a.a × Divides d s.a.d × Divides d s.a.g

-- its pivot stands at the top
pub record Pivoted (s t : Pair) : Type 0 where
  pub gathers : Gathers s t
  pub moves : Moves s t
  pub fits : Fits t.a
  pub nonzero : zero < nat_abs t.a.a

-- and one entry below is 0
record HalfCleared (s t : Pair) : Type 0 where
  pivoted : Pivoted s t
  d0 : t.a.d ≡ pos 0

pub record FirstCleared (s t : Pair) : Type 0 where
  pub gathers : Gathers s t
  pub moves : Moves s t
  pub fits : Fits t.a
  pub nonzero : zero < nat_abs t.a.a
  pub d0 : t.a.d ≡ pos 0
  pub g0 : t.a.g ≡ pos 0

turned-01 : (s : Pair) → Gathers s (multiplied (matrix_of (elementary_swap_rows 0 1)) s)
turned-01 s = record {
  each = λ d x y w.
      let e = swap-01 s.a in
      (subst (λ (m : Mat ℤ). Divides d m.d) e y, subst (λ (m : Mat ℤ). Divides d m.a) e x, subst (λ (m : Mat ℤ). Divides d m.g) e w);
}

turned-02 : (s : Pair) → Gathers s (multiplied (matrix_of (elementary_swap_rows 0 2)) s)
turned-02 s = record {
  each = λ d x y w.
      let e = swap-02 s.a in
      (subst (λ (m : Mat ℤ). Divides d m.g) e w, subst (λ (m : Mat ℤ). Divides d m.d) e y, subst (λ (m : Mat ℤ). Divides d m.a) e x);
}

swapped-to-top : (i : ℕ) (s : Pair) → Unimodular (matrix_of (elementary_swap_rows 0 i)) → zero < nat_abs (matrix_of (elementary_swap_rows 0 i) · s.a).a
    → Gathers s (multiplied (matrix_of (elementary_swap_rows 0 i)) s) → Accepted (Pivoted s) (multiply (matrix_of (elementary_swap_rows 0 i)) s)
swapped-to-top i s u h c =
    accepted-map (multiply-does (matrix_of (elementary_swap_rows 0 i)) s) (λ t q. record {
      moves = record { by = matrix_of (elementary_swap_rows 0 i); unimodular = u; is = q.is };
      fits = q.fits;
      nonzero = nonzero-by (ap (λ (x : Pair). x.a.a) q.is) h;
      gathers = subst (Gathers s) (sym q.is) c;
    })

zero-second-row : (s t : Pair) → Pivoted s t → Accepted (HalfCleared s) (zero_first_column 1 t)
zero-second-row s t p =
    accepted-map (make-zero-does 0 1 t.a.a t.a.d t refl p.nonzero (entry-size p.fits Y X) p.fits) (λ u q.
    let z = q.by in
    let rows = combine-01 z.s z.t (neg_ℤ z.v) z.u t.a in
    record {
      pivoted = record {
        moves = moves-then p.moves (record { by = combining_by 0 1 z; unimodular = unimodular-01 z; is = q.is });
        fits = q.fits;
        nonzero = nonzero-by (entry_of (λ m. m.a) q.is rows ∙ gcd-on-top z) z.nonzero;
        gathers = record {
          each = λ d x y w.
              let both = of-gcd z (entry_of (λ m. m.a) q.is rows ∙ gcd-on-top z) x in
              p.gathers.each d both.0 both.1 (subst (Divides d) (entry_of (λ m. m.g) q.is rows) w);
        };
      };
      d0 = entry_of (λ m. m.d) q.is rows ∙ zero-below z;
    })

zero-third-row : (s t : Pair) → HalfCleared s t → Accepted (FirstCleared s) (zero_first_column 2 t)
zero-third-row s t h =
    let p = h.pivoted in
    accepted-map (make-zero-does 0 2 t.a.a t.a.g t refl p.nonzero (entry-size p.fits Z X) p.fits) (λ u q.
    let z = q.by in
    let rows = combine-02 z.s z.t (neg_ℤ z.v) z.u t.a in
    record {
      moves = moves-then p.moves (record { by = combining_by 0 2 z; unimodular = unimodular-02 z; is = q.is });
      fits = q.fits;
      nonzero = nonzero-by (entry_of (λ m. m.a) q.is rows ∙ gcd-on-top z) z.nonzero;
      d0 = entry_of (λ m. m.d) q.is rows ∙ h.d0;
      g0 = entry_of (λ m. m.g) q.is rows ∙ zero-below z;
      gathers = record {
        each = λ d x y w.
            let both = of-gcd z (entry_of (λ m. m.a) q.is rows ∙ gcd-on-top z) x in
            p.gathers.each d both.0 (subst (Divides d) (entry_of (λ m. m.d) q.is rows) y) both.1;
      };
    })

clear-below : (s : Pair) (i : ℕ) → Accepted (Pivoted s) (to_top i s) → Accepted (FirstCleared s) (clear_from (Some i) s)
clear-below s i p = accepted-bind (zero_first_column 2) (accepted-bind (zero_first_column 1) p (zero-second-row s)) (zero-third-row s)

-- a column of zeros makes the determinant 0
det-first-zero : (b c e f h i : ℤ) → det (record { a = pos 0; b = b; c = c; d = pos 0; e = e; f = f; g = pos 0; h = h; i = i }) ≡ pos 0
det-first-zero b c e f h i = ring (b ∷ c ∷ e ∷ f ∷ h ∷ i ∷ []) (search reify depth 60 fits 100000) tt

pub first-not-zero : (m : Mat ℤ) → Regular m → m.a ≡ pos 0 → m.d ≡ pos 0 → m.g ≡ pos 0 → ⊥
first-not-zero m r p q s =
    never-zero r
    ((λ j. det (record { a = p j; b = m.b; c = m.c; d = q j; e = m.e; f = m.f; g = s j; h = m.h; i = m.i })) ∙ det-first-zero m.b m.c m.e m.f m.h m.i)

pub first-column : (s : Pair) → Fits s.a → Regular s.a → Accepted (FirstCleared s) (first_column s)
unfolding first_column
first-column s w r =
    let m = s.a in
    let Goal : Option ℕ → Type 0 = λ p. Accepted (FirstCleared s) (clear_from p s) in
    pick-cases (is_zero m.a) (cond (is_zero m.d) (cond (is_zero m.g) None (Some 2)) (Some 1)) (Some 0) Goal
    (λ x. pick-cases (is_zero m.d) (cond (is_zero m.g) None (Some 2)) (Some 1) Goal
    (λ y. pick-cases (is_zero m.g) None (Some 2) Goal
    (λ z. absurd (first-not-zero m r (zero_test m.a x) (zero_test m.d y) (zero_test m.g z)))
    (λ z. clear-below s 2 (swapped-to-top 2 s (record { unit = refl }) (nonzero-by (ap (λ (k : Mat ℤ). k.a) (swap-02 m)) (nonzero-test m.g z)) (turned-02 s))))
    (λ y. clear-below s 1 (swapped-to-top 1 s (record { unit = refl }) (nonzero-by (ap (λ (k : Mat ℤ). k.a) (swap-01 m)) (nonzero-test m.d y)) (turned-01 s))))
    (λ x. clear-below s 0 (accepted (record { moves = moves-none s; fits = w; nonzero = nonzero-test m.a x; gathers = record { each = λ d x y w. (x, y, w) } })))

-- the pivot divides the whole column
pub pivot-divides-column : {s t : Pair} → FirstCleared s t → Divides t.a.a s.a.a × Divides t.a.a s.a.d × Divides t.a.a s.a.g
pivot-divides-column {t = t} c =
    let d = t.a.a in
    c.gathers.each d (divides-refl d) (subst (Divides d) (sym c.d0) (divides-zero d)) (subst (Divides d) (sym c.g0) (divides-zero d))

-- ---- the second column, where the first row and column are clear beside the pivot
pub record Block (m : Mat ℤ) : Type 0 where
  pub b0 : m.b ≡ pos 0
  pub c0 : m.c ≡ pos 0
  pub d0 : m.d ≡ pos 0
  pub g0 : m.g ≡ pos 0

-- what divides t's entries in the column divides s's; the first pivot stays
pub record SecondGathers (s t : Pair) : Type 0 where
  pub each : (d : ℤ) → Divides d t.a.e → Divides d t.a.h → Divides d s.a.e × Divides d s.a.h
  pub corner : t.a.a ≡ s.a.a

-- its pivot stands in the middle
record SecondPivoted (s t : Pair) : Type 0 where
  gathers : SecondGathers s t
  moves : Moves s t
  fits : Fits t.a
  block : Block t.a
  nonzero : zero < nat_abs t.a.e

pub record SecondCleared (s t : Pair) : Type 0 where
  pub gathers : SecondGathers s t
  pub moves : Moves s t
  pub fits : Fits t.a
  pub block : Block t.a
  pub nonzero : zero < nat_abs t.a.e
  pub h0 : t.a.h ≡ pos 0

pub of-zeros : (x y : ℤ) {p q : ℤ} → p ≡ pos 0 → q ≡ pos 0 → x *ℤ p +ℤ y *ℤ q ≡ pos 0
of-zeros x y e f = ap₂ (λ p q. x *ℤ p +ℤ y *ℤ q) e f ∙ ring (x ∷ y ∷ []) (search reify depth 40) tt

zero-below-second : (s t : Pair) → SecondPivoted s t → Accepted (SecondCleared s) (zero_second_column t)
zero-below-second s t p =
    accepted-map (make-zero-does 1 2 t.a.e t.a.h t refl p.nonzero (entry-size p.fits Z Y) p.fits) (λ u q.
    let z = q.by in
    let k = p.block in
    let rows = combine-12 z.s z.t (neg_ℤ z.v) z.u t.a in
    record {
      moves = moves-then p.moves (record { by = combining_by 1 2 z; unimodular = unimodular-12 z; is = q.is });
      fits = q.fits;
      block = record {
        b0 = entry_of (λ m. m.b) q.is rows ∙ k.b0;
        c0 = entry_of (λ m. m.c) q.is rows ∙ k.c0;
        d0 = entry_of (λ m. m.d) q.is rows ∙ of-zeros z.s z.t k.d0 k.g0;
        g0 = entry_of (λ m. m.g) q.is rows ∙ of-zeros (neg_ℤ z.v) z.u k.d0 k.g0;
      };
      nonzero = nonzero-by (entry_of (λ m. m.e) q.is rows ∙ gcd-on-top z) z.nonzero;
      h0 = entry_of (λ m. m.h) q.is rows ∙ zero-below z;
      gathers = record {
        each = λ d x y. let both = of-gcd z (entry_of (λ m. m.e) q.is rows ∙ gcd-on-top z) x in p.gathers.each d both.0 both.1;
        corner = entry_of (λ m. m.a) q.is rows ∙ p.gathers.corner;
      };
    })

det-second-zero : (a b c f i : ℤ) → det (record { a = a; b = b; c = c; d = pos 0; e = pos 0; f = f; g = pos 0; h = pos 0; i = i }) ≡ pos 0
det-second-zero a b c f i = ring (a ∷ b ∷ c ∷ f ∷ i ∷ []) (search reify depth 60 fits 100000) tt

second-not-zero : (m : Mat ℤ) → Block m → Regular m → m.e ≡ pos 0 → m.h ≡ pos 0 → ⊥
second-not-zero m k r p q =
    never-zero r
    ((λ j. det (record { a = m.a; b = m.b; c = m.c; d = k.d0 j; e = p j; f = m.f; g = k.g0 j; h = q j; i = m.i })) ∙ det-second-zero m.a m.b m.c m.f m.i)

-- by the tests of e and h
second-to-top : (s : Pair) (x y : Bool) → Fits s.a → Block s.a → (T (not x) → zero < nat_abs s.a.e) → (T (not y) → zero < nat_abs s.a.h) → (T x → T y → ⊥)
    → Accepted (SecondPivoted s) (cond (x && not y) (multiply (matrix_of (elementary_swap_rows 1 2)) s) (Some s))
second-to-top s true true w k p q n = absurd (n tt tt)
second-to-top s false y w k p q n = accepted (record { moves = moves-none s; fits = w; block = k; nonzero = p tt; gathers = record { each = λ d x y. (x, y); corner = refl } })
second-to-top s true false w k p q n =
    accepted-map (multiply-does (matrix_of (elementary_swap_rows 1 2)) s) (λ t l.
    let rows = swap-12 s.a in
    record {
      moves = record { by = matrix_of (elementary_swap_rows 1 2); unimodular = record { unit = refl }; is = l.is };
      fits = l.fits;
      block = record {
        b0 = entry_of (λ m. m.b) l.is rows ∙ k.b0;
        c0 = entry_of (λ m. m.c) l.is rows ∙ k.c0;
        d0 = entry_of (λ m. m.d) l.is rows ∙ k.g0;
        g0 = entry_of (λ m. m.g) l.is rows ∙ k.d0;
      };
      nonzero = nonzero-by (entry_of (λ m. m.e) l.is rows) (q tt);
      gathers = record {
        each = λ d x y. (subst (Divides d) (entry_of (λ m. m.h) l.is rows) y, subst (Divides d) (entry_of (λ m. m.e) l.is rows) x);
        corner = entry_of (λ m. m.a) l.is rows;
      };
    })

pub second-column : (s : Pair) → Fits s.a → Block s.a → Regular s.a → Accepted (SecondCleared s) (second_column s)
unfolding second_column
second-column s w k r =
    let m = s.a in
    accepted-bind zero_second_column
    (second-to-top s (is_zero m.e) (is_zero m.h) w k (nonzero-test m.e) (nonzero-test m.h) (λ t u. second-not-zero m k r (zero_test m.e t) (zero_test m.h u)))
    (zero-below-second s)

-- the pivot divides both entries of the column
pub second-pivot-divides-column : {s t : Pair} → SecondCleared s t → Divides t.a.e s.a.e × Divides t.a.e s.a.h
second-pivot-divides-column {t = t} c = c.gathers.each t.a.e (divides-refl t.a.e) (subst (Divides t.a.e) (sym c.h0) (divides-zero t.a.e))
