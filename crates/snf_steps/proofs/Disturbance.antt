-- After a disturbance by `finalize` one turn of `first` or `second` is through, and leaves a diagonal matrix.
use mathlib.Core.Path.{◌≡◌, refl, sym, ◌∙◌, ap, subst}
use mathlib.Core.Bool.{Bool, true, false, not, ◌&&◌, cond}
use mathlib.Core.List.{[], ◌∷◌}
use mathlib.Core.Logic.{◌⊎◌, ⊎_elim}
use Prim.Native.Nat.{ℕ, zero, ◌<◌}
use lib.Dec.{T}
use lib.IntN.{ℤ, pos, neg_ℤ, nat_abs, ◌+ℤ◌, ◌*ℤ◌, zero-*ℤ}
use Rattle.std.specs.Prelude.{Some, None}
use Rattle.integer.specs.Checked.{is_zero}
use Rattle.integer.specs.Divides.{Divides}
use Rattle.integer.proofs.Reify.{ring, reify}
use Rattle.integer.proofs.Test.{and_l}
use Rattle.integer.proofs.Size.{zero_test, test-nonzero}
use Rattle.integer.proofs.Divides.{divides-zero}
use Rattle.common.specs.Matrix.{X, Y, Z, Vec, Mat, transpose, ◌·◌, diagonal}
use Rattle.common.specs.Array.{matrix_of}
use Rattle.common.proofs.Unimodular.{Regular}
use Rattle.snf_steps.specs.Then.{◌then◌}
use Rattle.snf_steps.specs.Elementary.{elementary_swap_rows, below_first, below_second}
use Rattle.snf_steps.specs.Columns.{Pair, multiply, make_zero, clear_from, zero_first_column, zero_second_column, first_column, second_column}
use Rattle.snf_steps.specs.Stages.{Triple, rows_of, with_rows, on_rows, on_columns, one_loop, Outcome, through, again, first_end, first, second_end, second}
use Rattle.snf_steps.proofs.Accepted.{Accepted, accepted, accepted-bind, accepted-map, accepted-both, accepted-pick}
use Rattle.snf_steps.proofs.FittingEntries.{Fits, entry-size, transpose-fits}
use Rattle.snf_steps.proofs.Bezout.{Bezout, gcd-on-top, zero-below}
use Rattle.snf_steps.proofs.GcdSign.{GcdSign}
use Rattle.snf_steps.proofs.RowOperations.{combine-01, combine-12, below-first, below-second}
use Rattle.snf_steps.proofs.Zeroing.{multiply-does, make-zero-does}
use Rattle.snf_steps.proofs.Clearing.{Block}
use Rattle.snf_steps.proofs.Keeping.{is-multiple-does, test-divides, test-refutes, neg-quotient-does, cleared, stays, IsDiagonal, Sound, first-leaves, second-leaves}

-- one entry below the diagonal
abbrev pub first_disturbed : (x y z w : ℤ) → Mat ℤ
first_disturbed x y z w = record { a = x; b = pos 0; c = pos 0; d = y; e = z; f = pos 0; g = pos 0; h = pos 0; i = w }

abbrev pub second_disturbed : (x y z w : ℤ) → Mat ℤ
second_disturbed x y z w = record { a = x; b = pos 0; c = pos 0; d = pos 0; e = y; f = pos 0; g = pos 0; h = z; i = w }

-- it is 0, or what stands beside it on the diagonal
abbrev pub Disturbance : (y z : ℤ) → Type 0
Disturbance y z = (y ≡ pos 0) ⊎ (y ≡ z)

-- ---- one column step
make-zero-still : (i j : ℕ) (a b : ℤ) (s : Pair) → b ≡ pos 0 → make_zero i j a b s ≡ Some s
unfolding make_zero
make-zero-still i j a b s e = ap (λ b. make_zero i j a b s) e

second-picked : {A : Type 0} (b : Bool) (x y : A) → T (not b) → cond b x y ≡ y
second-picked true x y t = absurd t
second-picked false x y t = refl

no-swap : {A : Type 0} (b c : Bool) (x y : A) → T (not b) → cond (b && c) x y ≡ y
no-swap true c x y t = absurd t
no-swap false c x y t = refl

right-term : (x y z : ℤ) → x *ℤ pos 0 +ℤ y *ℤ z ≡ y *ℤ z
right-term x y z = ring (x ∷ y ∷ z ∷ []) (search reify depth 40) tt

both_zero : (x y : ℤ) → x *ℤ pos 0 +ℤ y *ℤ pos 0 ≡ pos 0
both_zero x y = ring (x ∷ y ∷ []) (search reify depth 40) tt

-- the entry moves above the diagonal, and the transpose has the shape again
record FirstSwept (x y z w : ℤ) (t : Pair) : Type 0 where
  by : Bezout x y
  is : transpose t.a ≡ first_disturbed by.gcd (by.t *ℤ z) (by.u *ℤ z) w
  still : y ≡ pos 0 → by.t ≡ pos 0
  sign : GcdSign x y by.gcd
  fits : Fits t.a

first-sweeps : (x y z w : ℤ) (p : Mat ℤ) → Fits (first_disturbed x y z w) → zero < nat_abs x → Accepted (FirstSwept x y z w) (first_column (record { a = first_disturbed x y z w; p = p }))
unfolding first_column
first-sweeps x y z w p f h =
    let m = first_disturbed x y z w in
    let s : Pair = record { a = m; p = p } in
    subst (λ v. Accepted (FirstSwept x y z w) (clear_from v s)) (sym (second-picked (is_zero x) (cond (is_zero y) (cond (is_zero (pos 0)) None (Some 2)) (Some 1)) (Some 0) (test-nonzero x h)))
    (accepted-bind (zero_first_column 2) (make-zero-does 0 1 x y s refl h (entry-size f Y X) f) (λ u c.
    let b = c.by in
    let rows = ap (λ (v : Pair). v.a) c.is ∙ combine-01 b.s b.t (neg_ℤ b.v) b.u m in
    subst (λ v. Accepted (FirstSwept x y z w) v) (sym (make-zero-still 0 2 u.a.a u.a.g u (ap (λ (k : Mat ℤ). k.g) rows)))
    (accepted (record {
      by = b;
      still = c.still;
      sign = c.sign;
      fits = c.fits;
      is = ap transpose rows ∙ (λ j. record {
        a = gcd-on-top b j;
        b = zero-below b j;
        c = pos 0;
        d = right-term b.s b.t z j;
        e = right-term (neg_ℤ b.v) b.u z j;
        f = pos 0;
        g = both_zero b.s b.t j;
        h = both_zero (neg_ℤ b.v) b.u j;
        i = w;
      });
    }))))

record SecondSwept (x y z w : ℤ) (t : Pair) : Type 0 where
  by : Bezout y z
  is : transpose t.a ≡ second_disturbed x by.gcd (by.t *ℤ w) (by.u *ℤ w)
  still : z ≡ pos 0 → by.t ≡ pos 0
  sign : GcdSign y z by.gcd
  fits : Fits t.a

second-sweeps : (x y z w : ℤ) (p : Mat ℤ) → Fits (second_disturbed x y z w) → zero < nat_abs y → Accepted (SecondSwept x y z w) (second_column (record { a = second_disturbed x y z w; p = p }))
unfolding second_column
second-sweeps x y z w p f h =
    let m = second_disturbed x y z w in
    let s : Pair = record { a = m; p = p } in
    subst (λ v. Accepted (SecondSwept x y z w) (v then zero_second_column)) (sym (no-swap (is_zero y) (not (is_zero z)) (multiply (matrix_of (elementary_swap_rows 1 2)) s) (Some s) (test-nonzero y h)))
    (accepted-map (make-zero-does 1 2 y z s refl h (entry-size f Z Y) f) (λ u c.
    let b = c.by in
    let rows = ap (λ (v : Pair). v.a) c.is ∙ combine-12 b.s b.t (neg_ℤ b.v) b.u m in
    record {
      by = b;
      still = c.still;
      sign = c.sign;
      fits = c.fits;
      is = ap transpose rows ∙ (λ j. record {
        a = x;
        b = both_zero b.s b.t j;
        c = both_zero (neg_ℤ b.v) b.u j;
        d = pos 0;
        e = gcd-on-top b j;
        f = zero-below b j;
        g = pos 0;
        h = right-term b.s b.t w j;
        i = right-term (neg_ℤ b.v) b.u w j;
      });
    }))

-- ---- rows and columns: what is left below the diagonal is a multiple of what stands above it
zero-times : {t : ℤ} (z : ℤ) → t ≡ pos 0 → t *ℤ z ≡ pos 0
zero-times z e = ap (λ t. t *ℤ z) e ∙ zero-*ℤ z

twice : (x y z : ℤ) (q : Bezout x y) (r : Bezout q.gcd (q.t *ℤ z)) → Disturbance y z → (y ≡ pos 0 → q.t ≡ pos 0) → (q.t *ℤ z ≡ pos 0 → r.t ≡ pos 0)
    → Divides r.gcd (r.t *ℤ (q.u *ℤ z))
twice x y z q r d still still' =
    ⊎_elim
    (λ e. subst (Divides r.gcd) (sym (zero-times (q.u *ℤ z) (still' (zero-times z (still e))))) (divides-zero r.gcd))
    (λ e. record { times = r.t *ℤ q.u *ℤ q.v *ℤ r.u; is = law q.gcd r.gcd r.t q.u r.u q.v z (sym e ∙ q.second) r.first })
    d
  where
    law : (g g' t u u' v z : ℤ) → z ≡ v *ℤ g → g ≡ u' *ℤ g' → t *ℤ (u *ℤ z) ≡ (t *ℤ u *ℤ v *ℤ u') *ℤ g'
    law g g' t u u' v z p q = ap (λ x. t *ℤ (u *ℤ x)) (p ∙ ap (λ x. v *ℤ x) q) ∙ ring (g' ∷ t ∷ u ∷ u' ∷ v ∷ []) (search reify depth 60 fits 100000) tt

-- the gcd of x and y, and the gcd of that and what it leaves beside it; z stands below on the diagonal
pub record Twice (x y z : ℤ) : Type 0 where
  pub q : Bezout x y
  pub r : Bezout q.gcd (q.t *ℤ z)
  pub sign-q : GcdSign x y q.gcd
  pub sign-r : GcdSign q.gcd (q.t *ℤ z) r.gcd
  pub multiple : Divides r.gcd (r.t *ℤ (q.u *ℤ z))

-- what comes to stand below
abbrev pub lower : {x y z : ℤ} → Twice x y z → ℤ
lower {z = z} k = k.r.u *ℤ (k.q.u *ℤ z)

record FirstTwice (x y z w : ℤ) (m : Mat ℤ) : Type 0 where
  by : Twice x y z
  is : m ≡ first_disturbed by.r.gcd (by.r.t *ℤ (by.q.u *ℤ z)) (lower by) w
  fits : Fits m

record SecondTwice (x y z w : ℤ) (m : Mat ℤ) : Type 0 where
  by : Twice y z w
  is : m ≡ second_disturbed x by.r.gcd (by.r.t *ℤ (by.q.u *ℤ w)) (lower by)
  fits : Fits m

first-loop-disturbed : (s : Triple) (x y z w : ℤ) → s.a ≡ first_disturbed x y z w → zero < nat_abs x → Disturbance y z → Fits s.a
    → Accepted (λ t. FirstTwice x y z w t.a) (one_loop first_column s)
unfolding one_loop
first-loop-disturbed s x y z w e h d f =
    accepted-bind {P = λ t. FirstSwept x y z w (rows_of t)} (on_columns first_column)
    (accepted-bind _ (subst (λ m. Accepted (FirstSwept x y z w) (first_column (record { a = m; p = s.p }))) (sym e) (first-sweeps x y z w s.p (subst Fits e f) h)) (λ u p. accepted p))
    (λ t p.
    let a = p.by in
    accepted-bind _ (subst (λ m. Accepted (FirstSwept a.gcd (a.t *ℤ z) (a.u *ℤ z) w) (first_column (record { a = m; p = t.q }))) (sym p.is)
    (first-sweeps a.gcd (a.t *ℤ z) (a.u *ℤ z) w t.q (subst Fits p.is (transpose-fits p.fits)) a.nonzero)) (λ u q.
    let b = q.by in
    accepted (record {
      by = record { q = a; r = b; sign-q = p.sign; sign-r = q.sign; multiple = twice x y z a b d p.still q.still };
      is = q.is;
      fits = transpose-fits q.fits;
    })))

second-loop-disturbed : (s : Triple) (x y z w : ℤ) → s.a ≡ second_disturbed x y z w → zero < nat_abs y → Disturbance z w → Fits s.a
    → Accepted (λ t. SecondTwice x y z w t.a) (one_loop second_column s)
unfolding one_loop
second-loop-disturbed s x y z w e h d f =
    accepted-bind {P = λ t. SecondSwept x y z w (rows_of t)} (on_columns second_column)
    (accepted-bind _ (subst (λ m. Accepted (SecondSwept x y z w) (second_column (record { a = m; p = s.p }))) (sym e) (second-sweeps x y z w s.p (subst Fits e f) h)) (λ u p. accepted p))
    (λ t p.
    let a = p.by in
    accepted-bind _ (subst (λ m. Accepted (SecondSwept x a.gcd (a.t *ℤ w) (a.u *ℤ w)) (second_column (record { a = m; p = t.q }))) (sym p.is)
    (second-sweeps x a.gcd (a.t *ℤ w) (a.u *ℤ w) t.q (subst Fits p.is (transpose-fits p.fits)) a.nonzero)) (λ u q.
    let b = q.by in
    accepted (record {
      by = record { q = a; r = b; sign-q = p.sign; sign-r = q.sign; multiple = twice y z w a b d p.still q.still };
      is = q.is;
      fits = transpose-fits q.fits;
    })))

-- ---- so both are through, and leave the diagonal
pub record RowsBy (l : Mat ℤ) (s t : Triple) : Type 0 where
  pub is : t.a ≡ l · s.a
  pub fits : Fits t.a

pub rows_are : (l : Mat ℤ) (s : Triple) → Accepted (RowsBy l s) (on_rows (multiply l) s)
rows_are l s = accepted-bind (λ u. Some (with_rows s u)) (multiply-does l (rows_of s)) (λ n r. accepted (record { is = ap (λ (v : Pair). v.a) r.is; fits = r.fits }))

pub record ThroughTo (v : Vec ℤ) (o : Outcome) : Type 0 where
  pub done : T o.done
  pub is : o.left.a ≡ diagonal v
  pub fits : Fits o.left.a

first-end-through : (s : Triple) (x y z w : ℤ) → s.a ≡ first_disturbed x y z w → Divides x y → Fits s.a → Accepted (ThroughTo (record { x = x; y = z; z = w })) (first_end s)
first-end-through s x y z w at k fits =
    let m = s.a in
    let on : (g : Mat ℤ → ℤ) → g m ≡ g (first_disturbed x y z w) = λ g. ap g at in
    let below : Divides m.a m.d = subst (λ (n : Mat ℤ). Divides n.a n.d) (sym at) k in
    accepted-pick (is_zero m.d && is_zero m.g) (through s) _
    (λ t. accepted (record {
      done = tt;
      fits = fits;
      is = at ∙ (λ j. first_disturbed x ((sym (on (λ n. n.d)) ∙ zero_test m.d (and_l (is_zero m.d) (is_zero m.g) t)) j) z w);
    }))
    (λ _. accepted-bind _ (is-multiple-does m.d m.a) (λ b e. accepted-pick b _ (again s)
    (λ t. accepted-bind _ (is-multiple-does m.g m.a) (λ c f. accepted-pick c _ (again s)
    (λ u. accepted-bind _ (neg-quotient-does e.nonzero (test-divides e t)) (λ y p. accepted-bind _ (neg-quotient-does f.nonzero (test-divides f u)) (λ v q.
    accepted-bind _ (rows_are (matrix_of (below_first y v)) s) (λ n r. accepted (record {
      done = tt;
      fits = r.fits;
      is = r.is ∙ below-first y v m ∙ (λ j. record {
        a = on (λ n. n.a) j;
        b = on (λ n. n.b) j;
        c = on (λ n. n.c) j;
        d = cleared (test-divides e t) p j;
        e = stays y (on (λ n. n.b)) (on (λ n. n.e)) j;
        f = stays y (on (λ n. n.c)) (on (λ n. n.f)) j;
        g = cleared (test-divides f u) q j;
        h = stays v (on (λ n. n.b)) (on (λ n. n.h)) j;
        i = stays v (on (λ n. n.c)) (on (λ n. n.i)) j;
      });
    })))))
    (λ n. absurd (test-refutes f n (subst (Divides m.a) (sym (on (λ n. n.g))) (divides-zero m.a))))))
    (λ n. absurd (test-refutes e n below))))

second-end-through : (s : Triple) (x y z w : ℤ) → s.a ≡ second_disturbed x y z w → Divides y z → Fits s.a → Accepted (ThroughTo (record { x = x; y = y; z = w })) (second_end s)
second-end-through s x y z w at k fits =
    let m = s.a in
    let on : (g : Mat ℤ → ℤ) → g m ≡ g (second_disturbed x y z w) = λ g. ap g at in
    accepted-pick (is_zero m.h) (through s) _
    (λ t. accepted (record { done = tt; fits = fits; is = at ∙ (λ j. second_disturbed x y ((sym (on (λ n. n.h)) ∙ zero_test m.h t) j) w) }))
    (λ _. accepted-bind _ (is-multiple-does m.h m.e) (λ b e. accepted-pick b _ (again s)
    (λ t. accepted-bind _ (neg-quotient-does e.nonzero (test-divides e t)) (λ v p. accepted-bind _ (rows_are (matrix_of (below_second v)) s) (λ n r. accepted (record {
      done = tt;
      fits = r.fits;
      is = r.is ∙ below-second v m ∙ (λ j. record {
        a = on (λ n. n.a) j;
        b = on (λ n. n.b) j;
        c = on (λ n. n.c) j;
        d = on (λ n. n.d) j;
        e = on (λ n. n.e) j;
        f = on (λ n. n.f) j;
        g = stays v (on (λ n. n.d)) (on (λ n. n.g)) j;
        h = cleared (test-divides e t) p j;
        i = stays v (on (λ n. n.f)) (on (λ n. n.i)) j;
      });
    }))))
    (λ n. absurd (test-refutes e n (subst (λ (n : Mat ℤ). Divides n.e n.h) (sym at) k)))))

-- the two numbers stand where f says
pub record SplitTo (f : ℤ → ℤ → Vec ℤ) (x y z : ℤ) (o : Outcome) : Type 0 where
  pub by : Twice x y z
  pub to : ThroughTo (f by.r.gcd (lower by)) o

abbrev pub at_first : ℤ → ℤ → ℤ → Vec ℤ
at_first w g l = record { x = g; y = l; z = w }

abbrev pub at_last : ℤ → ℤ → ℤ → Vec ℤ
at_last w g l = record { x = w; y = g; z = l }

pub first-splits : (s : Triple) (x y z w : ℤ) → s.a ≡ first_disturbed x y z w → zero < nat_abs x → Disturbance y z → Fits s.a → Accepted (SplitTo (at_first w) x y z) (first s)
unfolding first
first-splits s x y z w e h d f =
    accepted-bind first_end (first-loop-disturbed s x y z w e h d f) (λ t p.
    let k = p.by in
    accepted-map (first-end-through t k.r.gcd (k.r.t *ℤ (k.q.u *ℤ z)) (lower k) w p.is k.multiple p.fits) (λ o q. record { by = k; to = q }))

pub second-splits : (s : Triple) (x y z w : ℤ) → s.a ≡ second_disturbed x y z w → zero < nat_abs y → Disturbance z w → Fits s.a → Accepted (SplitTo (at_last x) y z w) (second s)
unfolding second
second-splits s x y z w e h d f =
    accepted-bind second_end (second-loop-disturbed s x y z w e h d f) (λ t p.
    let k = p.by in
    accepted-map (second-end-through t x k.r.gcd (k.r.t *ℤ (k.q.u *ℤ w)) (lower k) p.is k.multiple p.fits) (λ o q. record { by = k; to = q }))

module _ (A : Mat ℤ) where
  pub record SoundDiagonal (s : Triple) : Type 0 where
    pub sound : Sound A s
    pub diagonal : IsDiagonal s.a

  -- what a disturbance leaves
  pub record FirstDisturbed (s : Triple) : Type 0 where
    pub sound : Sound A s
    pub x : ℤ
    pub y : ℤ
    pub z : ℤ
    pub w : ℤ
    pub is : s.a ≡ first_disturbed x y z w
    pub disturbance : Disturbance y z
    pub nonzero : zero < nat_abs x

  pub record SecondDisturbed (s : Triple) : Type 0 where
    pub sound : Sound A s
    pub x : ℤ
    pub y : ℤ
    pub z : ℤ
    pub w : ℤ
    pub is : s.a ≡ second_disturbed x y z w
    pub disturbance : Disturbance z w
    pub nonzero : zero < nat_abs y

  module _ (r : Regular A) where
    pub first-through : (s : Triple) → FirstDisturbed s → Accepted (λ o. SoundDiagonal o.left) (first s)
    first-through s v =
        accepted-map
        (accepted-both (first-leaves A r s v.sound) (first-splits s v.x v.y v.z v.w v.is v.nonzero v.disturbance v.sound.fits))
        (λ o p. record { sound = p.0.pivot.sound; diagonal = record { numbers = _; is = p.1.to.is } })

    pub second-through : (s : Triple) → SecondDisturbed s → Accepted (λ o. SoundDiagonal o.left) (second s)
    second-through s v =
        accepted-map
        (accepted-both (second-leaves A r s v.sound (subst Block (sym v.is) (record { b0 = refl; c0 = refl; d0 = refl; g0 = refl })))
        (second-splits s v.x v.y v.z v.w v.is v.nonzero v.disturbance v.sound.fits))
        (λ o p. record { sound = p.0.pivot.sound; diagonal = record { numbers = _; is = p.1.to.is } })
