-- The pivot that a stage leaves divides the entries that the stage found in its column; so after a stage that was not through, the next pivot is a proper divisor.
use mathlib.Core.Path.{◌≡◌, refl, sym, ◌∙◌, ap, subst}
use mathlib.Core.Bool.{◌&&◌}
use mathlib.Core.Logic.{⊎_elim}
use Prim.Native.Nat.{ℕ, zero, suc, ◌+◌, ◌-◌, ◌*◌, ◌≤◌, ◌<◌}
use native.Mathlib.Omega.{arith}
use native.Mathlib.Nat.{eq-zero-or-pos}
use lib.IntN.{ℤ, nat_abs, ◌*ℤ◌}
use Rattle.std.specs.Prelude.{Some}
use Rattle.integer.specs.Checked.{is_zero}
use Rattle.integer.specs.Divides.{Divides}
use Rattle.integer.proofs.Ring.{one-*ℤ, *ℤ-assoc}
use Rattle.integer.proofs.Size.{abs-mul}
use Rattle.integer.proofs.Divides.{divides-trans, divides-le, divides-half, unit-square}
use Rattle.common.specs.Matrix.{Mat, ◌·◌}
use Rattle.common.specs.Array.{matrix_of}
use Rattle.common.proofs.Unimodular.{Regular, regular-transpose}
use Rattle.snf_steps.specs.Elementary.{below_first, below_second}
use Rattle.snf_steps.specs.Columns.{Pair, multiply, first_column, second_column}
use Rattle.snf_steps.specs.Pivot.{ProperDivisor}
use Rattle.snf_steps.specs.Stages.{Triple, rows_of, columns_of, with_rows, on_rows, on_columns, one_loop, through, again, first_end, first, second_end, second}
use Rattle.snf_steps.proofs.Accepted.{Accepted, accepted, accepted-bind, accepted-map, accepted-pick}
use Rattle.snf_steps.proofs.FittingEntries.{transpose-fits}
use Rattle.snf_steps.proofs.RowOperations.{below-first, below-second}
use Rattle.snf_steps.proofs.Zeroing.{multiply-does}
use Rattle.snf_steps.proofs.Clearing.{Block, first-column, pivot-divides-column, second-column, second-pivot-divides-column}
use Rattle.snf_steps.proofs.Keeping.{Sound, is-multiple-does, test-divides, neg-quotient-does, rows-kept, kept-regular, block-transpose}

pub record FirstFalls (s t : Triple) : Type 0 where
  pub top : Divides t.a.a s.a.a
  pub middle : Divides t.a.a s.a.d
  pub bottom : Divides t.a.a s.a.g

-- and the first pivot stays
pub record SecondFalls (s t : Triple) : Type 0 where
  pub corner : t.a.a ≡ s.a.a
  pub middle : Divides t.a.e s.a.e
  pub bottom : Divides t.a.e s.a.h

-- ---- what a stage does at its end leaves the pivot
rows_are : (l : Mat ℤ) (s : Triple) → Accepted (λ (n : Triple). n.a ≡ l · s.a) (on_rows (multiply l) s)
rows_are l s = accepted-bind (λ u. Some (with_rows s u)) (multiply-does l (rows_of s)) (λ n r. accepted (ap (λ (v : Pair). v.a) r.is))

first-end-keeps : (s : Triple) → Accepted (λ o. o.left.a.a ≡ s.a.a) (first_end s)
first-end-keeps s =
    let m = s.a in
    accepted-pick (is_zero m.d && is_zero m.g) (through s) _
    (λ _. accepted refl)
    (λ _. accepted-bind _ (is-multiple-does m.d m.a) (λ b e. accepted-pick b _ (again s)
    (λ t. accepted-bind _ (is-multiple-does m.g m.a) (λ c f. accepted-pick c _ (again s)
    (λ u. accepted-bind _ (neg-quotient-does e.nonzero (test-divides e t)) (λ x p. accepted-bind _ (neg-quotient-does f.nonzero (test-divides f u)) (λ w q.
    accepted-bind _ (rows_are (matrix_of (below_first x w)) s) (λ n r. accepted (ap (λ (a : Mat ℤ). a.a) (r ∙ below-first x w m))))))
    (λ _. accepted refl)))
    (λ _. accepted refl)))

second-end-keeps : (s : Triple) → Accepted (λ o. (o.left.a.e ≡ s.a.e) × (o.left.a.a ≡ s.a.a)) (second_end s)
second-end-keeps s =
    let m = s.a in
    accepted-pick (is_zero m.h) (through s) _
    (λ _. accepted (refl, refl))
    (λ _. accepted-bind _ (is-multiple-does m.h m.e) (λ b e. accepted-pick b _ (again s)
    (λ t. accepted-bind _ (neg-quotient-does e.nonzero (test-divides e t)) (λ x p.
    accepted-bind _ (rows_are (matrix_of (below_second x)) s) (λ n r. let e = r ∙ below-second x m in accepted (ap (λ (a : Mat ℤ). a.e) e, ap (λ (a : Mat ℤ). a.a) e))))
    (λ _. accepted (refl, refl))))

pub same-divides : {x y z : ℤ} → x ≡ y → Divides y z → Divides x z
same-divides {z = z} e d = subst (λ w. Divides w z) (sym e) d

module _ (A : Mat ℤ) (r : Regular A) where
  first-loop-falls : (s : Triple) → Sound A s → Accepted (FirstFalls s) (one_loop first_column s)
  unfolding one_loop
  first-loop-falls s v =
      accepted-bind {P = λ t. Sound A t × FirstFalls s t} (on_columns first_column) (accepted-bind _ (first-column (rows_of s) v.fits (kept-regular A r v.kept))
      (λ u p.
      let d = pivot-divides-column p in
      accepted (record { kept = rows-kept A s u v.kept p.moves; fits = p.fits }, record { top = d.0; middle = d.1; bottom = d.2 })))
      (λ t w. accepted-bind _ (first-column (columns_of t) (transpose-fits w.0.fits) (regular-transpose (kept-regular A r w.0.kept)))
      (λ u p.
      let d = (pivot-divides-column p).0 in
      accepted (record { top = divides-trans d w.1.top; middle = divides-trans d w.1.middle; bottom = divides-trans d w.1.bottom })))

  pub first-falls : (s : Triple) → Sound A s → Accepted (λ o. FirstFalls s o.left) (first s)
  unfolding first
  first-falls s v =
      accepted-bind first_end (first-loop-falls s v) (λ t f. accepted-map (first-end-keeps t) (λ o e. record { top = same-divides e f.top; middle = same-divides e f.middle; bottom = same-divides e f.bottom }))

  second-loop-falls : (s : Triple) → Sound A s → Block s.a → Accepted (SecondFalls s) (one_loop second_column s)
  unfolding one_loop
  second-loop-falls s v k =
      accepted-bind {P = λ t. Sound A t × Block t.a × SecondFalls s t} (on_columns second_column) (accepted-bind _ (second-column (rows_of s) v.fits k (kept-regular A r v.kept))
      (λ u p.
      let d = second-pivot-divides-column p in
      accepted (record { kept = rows-kept A s u v.kept p.moves; fits = p.fits }, p.block, record { middle = d.0; bottom = d.1; corner = p.gathers.corner })))
      (λ t w. accepted-bind _ (second-column (columns_of t) (transpose-fits w.0.fits) (block-transpose w.1) (regular-transpose (kept-regular A r w.0.kept)))
      (λ u p.
      let d = (second-pivot-divides-column p).0 in
      accepted (record { middle = divides-trans d w.2.middle; bottom = divides-trans d w.2.bottom; corner = p.gathers.corner ∙ w.2.corner })))

  pub second-falls : (s : Triple) → Sound A s → Block s.a → Accepted (λ o. SecondFalls s o.left) (second s)
  unfolding second
  second-falls s v k =
      accepted-bind second_end (second-loop-falls s v k) (λ t f. accepted-map (second-end-keeps t) (λ o e. record { middle = same-divides e.0 f.middle; bottom = same-divides e.0 f.bottom; corner = e.1 ∙ f.corner }))

-- ---- a divisor of the same size is divided in turn
divides-back : {d z : ℤ} → Divides d z → zero < nat_abs z → nat_abs d ≡ nat_abs z → Divides z d
divides-back {d} {z} p h e =
    let k = p.times in
    let size : nat_abs z ≡ nat_abs k * nat_abs d = ap nat_abs p.is ∙ abs-mul k d in
    let one : nat_abs k ≡ 1 = unit (nat_abs k) (nat_abs d) (nat_abs z) size e h in
    record { times = k; is = sym (ap (λ x. k *ℤ x) p.is ∙ sym (*ℤ-assoc k k d) ∙ ap (λ x. x *ℤ d) (unit-square k one) ∙ one-*ℤ d) }
  where
    unit : (k d z : ℕ) → z ≡ k * d → d ≡ z → zero < z → k ≡ 1
    unit zero d z e f h = absurd (never d z e h)
      where
        never : (d z : ℕ) → z ≡ zero * d → zero < z → ⊥
        never d z e h = omega arith
    unit (suc zero) d z e f h = refl
    unit (suc (suc k)) d z e f h = absurd (never k d z e f h)
      where
        never : (k d z : ℕ) → z ≡ suc (suc k) * d → d ≡ z → zero < z → ⊥
        never k d z e f h = omega arith

-- a divisor that is not divided in turn is proper
proper-by : {d z : ℤ} → Divides d z → zero < nat_abs z → (Divides z d → ⊥) → ProperDivisor d z
proper-by {d} {z} p h never = record { divides = p; smaller = less (nat_abs d) (nat_abs z) (divides-le p h) (λ e. never (divides-back p h e)) }
  where
    less : (m n : ℕ) → m ≤ n → (m ≡ n → ⊥) → m < n
    less m n h never = ⊎_elim (λ e. absurd (never (omega arith))) (λ p. omega arith) (eq-zero-or-pos (n - m))

pub proper-half : {d z : ℤ} → ProperDivisor d z → nat_abs d + nat_abs d ≤ nat_abs z
proper-half f = divides-half f.divides f.smaller

-- after a stage that was not through
pub first-proper : {s t : Triple} → FirstFalls s t → zero < nat_abs s.a.a → (Divides s.a.a s.a.d → Divides s.a.a s.a.g → ⊥) → ProperDivisor t.a.a s.a.a
first-proper f h never = proper-by f.top h (λ b. never (divides-trans b f.middle) (divides-trans b f.bottom))

pub second-proper : {s t : Triple} → SecondFalls s t → zero < nat_abs s.a.e → (Divides s.a.e s.a.h → ⊥) → ProperDivisor t.a.e s.a.e
second-proper f h never = proper-by f.middle h (λ b. never (divides-trans b f.bottom))
