-- Where a row and a column are clear already, or a diagonal is settled, the steps change nothing.
use mathlib.Core.Path.{◌≡◌, refl, sym, ◌∙◌, ap, ap₂}
use mathlib.Core.Bool.{Bool, true, false, not, ◌&&◌, cond}
use Prim.Native.Nat.{ℕ}
use lib.Dec.{T, leb→le}
use lib.IntN.{ℤ, pos, negsuc}
use borrow.Author.Tests.{le-ltb}
use lib.Signed.{lt_z, le_z, rem_z}
use Rattle.std.specs.Prelude.{Option, Some, None}
use Rattle.integer.proofs.Test.{is_true, and_l, and_r}
use Rattle.integer.proofs.Size.{zero_test}
use Rattle.integer.specs.Checked.{is_zero}
use Rattle.common.specs.Array.{matrix_of}
use Rattle.snf_steps.specs.Then.{◌then◌, provided, when}
use Rattle.snf_steps.specs.Gcd.{extended_gcd}
use Rattle.snf_steps.specs.Elementary.{elementary_swap_rows, elementary_disturb_rows, quotient_fits}
use Rattle.snf_steps.specs.declared.columns.Combination.{Combination}
use Rattle.snf_steps.specs.Columns.{Pair, multiply, combination, combine_by, make_zero, clear_from, first_column, second_column, zero_second_column}
use Rattle.snf_steps.specs.Stages.{Triple, rows_of, columns_of, with_rows, with_columns, on_columns, one_loop, through, first_tests, first_end, first, second_tests, second_end, second}
use Rattle.snf_steps.specs.Finalize.{swap_diag_elems, order01, order12, finalize_sort, finalize_disturb, disturb01, disturb12, leaving, put_in_order}
use Rattle.snf_steps.specs.Code.Settled.{divides, in_order, off_diagonal_zero, settled}

not-below : (x y : ℤ) → T (le_z x y) → lt_z y x ≡ false
not-below (pos a) (pos b) t = le-ltb b a (leb→le a b t)
not-below (pos a) (negsuc b) t = absurd t
not-below (negsuc a) (pos b) t = refl
not-below (negsuc a) (negsuc b) t = le-ltb a b (leb→le b a t)

pub zero-kept : (i j : ℕ) (a : ℤ) {b : ℤ} (s : Pair) → b ≡ pos 0 → make_zero i j a b s ≡ Some s
unfolding make_zero
zero-kept i j a s e = ap (λ b. make_zero i j a b s) e

-- and where b is not 0, the step is that of the gcd
pub zero-made : (i j : ℕ) (a b : ℤ) (s : Pair) {c : Option Combination} → is_zero b ≡ false → c ≡ (extended_gcd a b then combination a b) → combine_by i j c s ≡ make_zero i j a b s
unfolding make_zero
zero-made i j a b s n e = λ k. cond (sym n k) (Some s) (combine_by i j (e k) s)

first-column-kept : (s : Pair) → s.a.d ≡ pos 0 → s.a.g ≡ pos 0 → first_column s ≡ Some s
unfolding first_column
first-column-kept s d0 g0 = ap₂ (λ d g. clear_from (cond (is_zero s.a.a) (cond (is_zero d) (cond (is_zero g) None (Some 2)) (Some 1)) (Some 0)) s) d0 g0 ∙ from (is_zero s.a.a)
  where
    from : (t : Bool) → clear_from (cond t None (Some 0)) s ≡ Some s
    from true = refl
    from false = ap (λ r. r then λ s. make_zero 0 2 s.a.a s.a.g s) (zero-kept 0 1 s.a.a s d0) ∙ zero-kept 0 2 s.a.a s g0

second-column-kept : (s : Pair) → s.a.h ≡ pos 0 → second_column s ≡ Some s
unfolding second_column
second-column-kept s h0 =
    ap (λ h. cond (is_zero s.a.e && not (is_zero h)) (multiply (matrix_of (elementary_swap_rows 1 2)) s) (Some s) then zero_second_column) h0
    ∙ ap (λ (t : Bool). cond t (multiply (matrix_of (elementary_swap_rows 1 2)) s) (Some s) then zero_second_column) (and-false (is_zero s.a.e)) ∙ zero-kept 1 2 s.a.e s h0
  where
    and-false : (b : Bool) → (b && false) ≡ false
    and-false true = refl
    and-false false = refl

pub first-kept : (s : Triple) → s.a.b ≡ pos 0 → s.a.c ≡ pos 0 → s.a.d ≡ pos 0 → s.a.g ≡ pos 0 → first s ≡ through s
unfolding first one_loop
first-kept s b0 c0 d0 g0 =
    ap (λ r. r then (λ u. Some (with_rows s u)) then on_columns first_column then first_end) (first-column-kept (rows_of s) d0 g0)
    ∙ ap (λ r. r then (λ u. Some (with_columns s u)) then first_end) (first-column-kept (columns_of s) b0 c0)
    ∙ ap₂ (λ d g. first_tests s.a.a d g s) d0 g0

pub second-kept : (s : Triple) → s.a.f ≡ pos 0 → s.a.h ≡ pos 0 → second s ≡ through s
unfolding second one_loop
second-kept s f0 h0 =
    ap (λ r. r then (λ u. Some (with_rows s u)) then on_columns second_column then second_end) (second-column-kept (rows_of s) h0)
    ∙ ap (λ r. r then (λ u. Some (with_columns s u)) then second_end) (second-column-kept (columns_of s) f0)
    ∙ ap (λ h. second_tests s.a.e h s) h0

-- ---- a settled diagonal
module _ (s : Triple) where
  disturb-kept : (i j : ℕ) (x y : ℤ) → T (divides x y) → finalize_disturb i j x y s ≡ Some s
  unfolding finalize_disturb
  disturb-kept i j x y t =
      (λ k. provided (is_true (quotient_fits y x) (and_l (quotient_fits y x) (is_zero (rem_z y x)) t) k) (is_true (is_zero (rem_z y x)) (and_r (quotient_fits y x) (is_zero (rem_z y x)) t) k)
      then λ b. when (not b) (on_columns (multiply (matrix_of (elementary_disturb_rows i j)))) s)

  sort-kept : T (le_z s.a.a s.a.e) → T (le_z s.a.e s.a.i) → finalize_sort s ≡ Some s
  unfolding finalize_sort
  sort-kept t u =
      let p = not-below s.a.a s.a.e t in
      let q = not-below s.a.e s.a.i u in
      ap (λ (t : Bool). when t (swap_diag_elems 0 1) s then order12 then order01) p ∙ ap (λ (t : Bool). when t (swap_diag_elems 1 2) s then order01) q ∙ ap (λ (t : Bool). when t (swap_diag_elems 0 1) s) p

  pub settled-kept : T (settled s.a) → put_in_order s ≡ Some s
  unfolding put_in_order
  settled-kept t =
      let m = s.a in
      let z = and_l (off_diagonal_zero m) (in_order m.a m.e m.i) t in
      let o = and_r (off_diagonal_zero m) (in_order m.a m.e m.i) t in
      let bc = and_l (is_zero m.b && is_zero m.c) ((is_zero m.d && is_zero m.g) && (is_zero m.f && is_zero m.h)) z in
      let rest = and_r (is_zero m.b && is_zero m.c) ((is_zero m.d && is_zero m.g) && (is_zero m.f && is_zero m.h)) z in
      let dg = and_l (is_zero m.d && is_zero m.g) (is_zero m.f && is_zero m.h) rest in
      let fh = and_r (is_zero m.d && is_zero m.g) (is_zero m.f && is_zero m.h) rest in
      let xyz = and_l (le_z m.a m.e && le_z m.e m.i) (divides m.a m.e && divides m.e m.i) o in
      let o3 = and_r (le_z m.a m.e && le_z m.e m.i) (divides m.a m.e && divides m.e m.i) o in
      let sorted = sort-kept (and_l (le_z m.a m.e) (le_z m.e m.i) xyz) (and_r (le_z m.a m.e) (le_z m.e m.i) xyz) in
      let one = disturb-kept 0 1 m.a m.e (and_l (divides m.a m.e) (divides m.e m.i) o3) in
      let two = disturb-kept 1 2 m.e m.i (and_r (divides m.a m.e) (divides m.e m.i) o3) in
      let f = first-kept s (zero-l m.b m.c bc) (zero-r m.b m.c bc) (zero-l m.d m.g dg) (zero-r m.d m.g dg) in
      let g = second-kept s (zero-l m.f m.h fh) (zero-r m.f m.h fh) in
      ap (λ r. r then disturb01 then leaving first then finalize_sort then disturb12 then leaving second) sorted
      ∙ ap (λ r. r then leaving first then finalize_sort then disturb12 then leaving second) one
      ∙ ap (λ r. (r then λ o. Some o.left) then finalize_sort then disturb12 then leaving second) f
      ∙ ap (λ r. r then disturb12 then leaving second) sorted
      ∙ ap (λ r. r then leaving second) two
      ∙ ap (λ r. r then λ o. Some o.left) g
    where
      zero-l : (y z : ℤ) → T (is_zero y && is_zero z) → y ≡ pos 0
      zero-l y z t = zero_test y (and_l (is_zero y) (is_zero z) t)

      zero-r : (y z : ℤ) → T (is_zero y && is_zero z) → z ≡ pos 0
      zero-r y z t = zero_test z (and_r (is_zero y) (is_zero z) t)
