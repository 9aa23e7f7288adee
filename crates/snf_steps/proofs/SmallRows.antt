-- Where two rows are combined by small numbers.
use mathlib.Core.Path.{◌≡◌, ◌∙◌}
use mathlib.Core.Bool.{◌&&◌}
use mathlib.Core.List.{List, [], ◌∷◌}
use Prim.Native.Nat.{ℕ, zero, suc, ◌≤◌}
use lib.Dec.{T, leb→le, lit≤}
use lib.IntN.{ℤ, pos, negsuc, neg_ℤ, nat_abs, ◌+ℤ◌, ◌*ℤ◌}
use lib.ListN.{get_or, set}
use Rattle.std.specs.Prelude.{Some}
use Rattle.integer.proofs.Test.{and_l, and_r, and_in}
use Rattle.integer.proofs.Fits.{held}
use Rattle.integer.proofs.Reify.{ring, reify}
use Rattle.common.specs.Matrix.{Axis, X, Y, Z, Mat, entry, vector, ◌·◌}
use Rattle.common.specs.Array.{axis_index, along, items, matrix_of, Sized, SizedRows}
use Rattle.common.specs.IntegerMatrix.{product_fits}
use Rattle.common.proofs.Bounds.{entry-within, matrix-sizes}
use Rattle.common.proofs.Matrix.{axes-of, entry-matrix}
use Rattle.common.proofs.Whole.{sized-product}
use Rattle.snf_steps.specs.Elementary.{put, unit, combining, below_first, below_second, elementary_flip_sign_row}
use Rattle.snf_steps.specs.declared.columns.Combination.{Combination}
use Rattle.snf_steps.specs.Columns.{Pair, multiply, small, small_row, small_matrix, small_combination}
use Rattle.snf_steps.proofs.FittingEntries.{multiply-fits}

-- ---- what the locals hold
pub held_small : {x y : ℤ} → held x ≡ x → held y ≡ y → T (small x && small y) → T (small (held x) && small (held y))
held_small e f t = rw (e, f) t

size : {v z : ℤ} → v ≡ z → T (small z) → nat_abs v ≤ 0x3fffffff
size {v} {z} e t = rw e (leb→le (nat_abs z) 0x3fffffff t)

pub rows-small : (m : List (List ℤ)) → T (small_matrix (matrix_of m)) → (j : Axis) → T (small_row (along (get_or m (axis_index j) [])))
rows-small m t X = axes-of (λ j. small_row (entry (matrix_of m) j)) t X
rows-small m t Y = axes-of (λ j. small_row (entry (matrix_of m) j)) t Y
rows-small m t Z = axes-of (λ j. small_row (entry (matrix_of m) j)) t Z

module _ (s t : ℤ) (x y : List ℤ) where
  -- the four numbers at one place of the rows
  pub place-sizes : T (small s && small t) → T (small_row (along x)) → T (small_row (along y)) → (k : Axis) {s' x' t' y' : ℤ} → s' ≡ s → x' ≡ along x k → t' ≡ t → y' ≡ along y k
      → (nat_abs s' ≤ 0x3fffffff) × (nat_abs x' ≤ 0x3fffffff) × (nat_abs t' ≤ 0x3fffffff) × (nat_abs y' ≤ 0x3fffffff)
  place-sizes st u v k es ex et ey =
      (size es (and_l (small s) (small t) st), size ex (axes-of (λ k. small (along x k)) u k), size et (and_r (small s) (small t) st), size ey (axes-of (λ k. small (along y k)) v k))

  pub held-row : {r : List ℤ} → held s ≡ s → held t ≡ t → r ≡ items (vector (λ k. held s *ℤ along x k +ℤ held t *ℤ along y k)) → r ≡ items (vector (λ k. s *ℤ along x k +ℤ t *ℤ along y k))
  held-row es et e = e ∙ (λ i. items (vector (λ k. es i *ℤ along x k +ℤ et i *ℤ along y k)))

-- ---- the numbers that a row is mixed by
pub with-one : {u u' : ℤ} → u' ≡ u → T (small u) → T (small u' && small (pos 1))
with-one {u} {u'} e t = and_in (small u') (small (pos 1)) (rw e t) tt

pub negated : (z : ℤ) → negsuc 0 *ℤ z +ℤ pos 0 *ℤ z ≡ neg_ℤ z
negated z = ring (z ∷ []) (search reify depth 60 fits 100000) tt

pub held-mix : {r s s' x x' t t' y y' : ℤ} → held r ≡ r → r ≡ s' *ℤ x' +ℤ t' *ℤ y' → s' ≡ s → x' ≡ x → t' ≡ t → y' ≡ y → held r ≡ s *ℤ x +ℤ t *ℤ y
held-mix h e es ex et ey = h ∙ e ∙ (λ i. es i *ℤ ex i +ℤ et i *ℤ ey i)

-- ---- nothing leaves 64 bits
-- one item of a list replaced
set_all : {A : Type 0} (P : A → Type 0) {x : A} (l : List A) (d : A) (i n : ℕ) → ((n : ℕ) → P (get_or l n d)) → P x → P (get_or (set l i x) n d)
set_all P [] d i n f h = f n
set_all P (y ∷ l) d zero zero f h = h
set_all P (y ∷ l) d zero (suc n) f h = f (suc n)
set_all P (y ∷ l) d (suc i) zero f h = f zero
set_all P (y ∷ l) d (suc i) (suc n) f h = set_all P l d i n (λ n. f (suc n)) h

put-sized : {k : ℕ} {m : List (List ℤ)} (i j : ℕ) (x : ℤ) → nat_abs x ≤ k → SizedRows k m → SizedRows k (put i j x m)
put-sized {k} {m} i j x h f = record {
  each = λ n. set_all (Sized k) m [] i n f.each (record { each = λ n. set_all (λ z. nat_abs z ≤ k) (get_or m i []) (pos 0) j n (f.each i).each h });
}

unit-sized : SizedRows 0x3fffffff unit
unit-sized = record { each = at }
  where
    at : (n : ℕ) → Sized 0x3fffffff (get_or unit n [])
    at zero = record { each = entry-within 0x3fffffff (get_or unit 0 []) tt }
    at (suc zero) = record { each = entry-within 0x3fffffff (get_or unit 1 []) tt }
    at (suc (suc zero)) = record { each = entry-within 0x3fffffff (get_or unit 2 []) tt }
    at (suc (suc (suc n))) = record { each = entry-within 0x3fffffff [] tt }

-- ---- a matrix of small numbers multiplied from the left
module _ (l : List (List ℤ)) (h : SizedRows 0x3fffffff l) where
  sizes : (a b : Axis) → nat_abs (entry (matrix_of l) a b) ≤ 0x3fffffff
  sizes a b = rw (entry-matrix (λ a b. get_or (get_or l (axis_index a) []) (axis_index b) (pos 0)) a b) ((h.each (axis_index a)).each (axis_index b))

  small-fits : (m : Mat ℤ) → T (small_matrix m) → T (product_fits (matrix_of l) m)
  small-fits m u = sized-product (matrix_of l) m 0x3fffffff 0x3fffffff sizes (matrix-sizes 0x3fffffff m u) (lit≤ tt)

  pub sized-step : (s : Pair) → T (small_matrix s.a && small_matrix s.p) → multiply (matrix_of l) s ≡ Some (record { a = matrix_of l · s.a; p = matrix_of l · s.p })
  sized-step s u = multiply-fits (matrix_of l) s (small-fits s.a (and_l (small_matrix s.a) (small_matrix s.p) u)) (small-fits s.p (and_r (small_matrix s.a) (small_matrix s.p) u))

small-size : (z : ℤ) → T (small z) → nat_abs z ≤ 0x3fffffff
small-size z t = leb→le (nat_abs z) 0x3fffffff t

pub combining-sized : (i j : ℕ) (c : Combination) → T (small_combination c) → SizedRows 0x3fffffff (combining i j c.s c.t c.v c.u)
combining-sized i j c t =
    let st = and_l (small c.s && small c.t) (small c.v && small c.u) t in
    let vu = and_r (small c.s && small c.t) (small c.v && small c.u) t in
    put-sized j j c.u (small-size c.u (and_r (small c.v) (small c.u) vu)) (put-sized j i c.v (small-size c.v (and_l (small c.v) (small c.u) vu))
    (put-sized i j c.t (small-size c.t (and_r (small c.s) (small c.t) st)) (put-sized i i c.s (small-size c.s (and_l (small c.s) (small c.t) st)) unit-sized)))

pub below-first-sized : (u v : ℤ) → T (small u && small v) → SizedRows 0x3fffffff (below_first u v)
below-first-sized u v t = put-sized 2 0 v (small-size v (and_r (small u) (small v) t)) (put-sized 1 0 u (small-size u (and_l (small u) (small v) t)) unit-sized)

pub below-second-sized : (v : ℤ) → T (small v) → SizedRows 0x3fffffff (below_second v)
below-second-sized v t = put-sized 2 1 v (small-size v t) unit-sized

pub flip-sized : (i : ℕ) → SizedRows 0x3fffffff (elementary_flip_sign_row i)
flip-sized i = put-sized i i (negsuc 0) (small-size (negsuc 0) tt) unit-sized
