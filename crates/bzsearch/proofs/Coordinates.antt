-- The size of reduced coordinates: a grid coordinate is at most 1, and so their nearest whole numbers are at most 4096.
use mathlib.Core.List.{List}
use mathlib.Core.Path.{◌≡◌, sym, ap, subst}
use Prim.Native.Nat.{ℕ, ◌+◌, ◌*◌, ◌^◌, ◌≤◌, ◌<◌, zero-le}
use native.Mathlib.Nat.{le_of_lt, le_trans, lt_of_lt_of_le, mul-pos, mul-le-mul_right}
use native.Mathlib.Omega.{arith}
use lib.Dec.{T, lit≤}
use lib.ListN.{length}
use lib.IntN.{ℤ, pos, nat_abs, ◌+ℤ◌, ◌*ℤ◌}
use lib.Ieee.{Float, binary64, add, mul, div, of_int, fits}
use lib.Ieee.Fits.{add-fits}
use lib.Ieee.Positive.{den, den_pos}
use Rattle.integer.specs.Parts.{up, dn}
use Rattle.integer.proofs.Size.{abs-parts, abs-add, abs-mul}
use Rattle.float.specs.Value.{plus, less, Whole, Bounded}
use Rattle.float.proofs.Operations.{div-rounds}
use Rattle.float.proofs.Whole.{of_int-whole, mul-whole, whole-positive}
use Rattle.float.proofs.Bounds.{rounds-bounded, bounded-up, whole-bounded, add-bounded, mul-bounded}
use Rattle.float.proofs.Cast.{nint-bounded}
use Rattle.float.specs.Rounding.{nint_of}
use Rattle.common.specs.Matrix.{Axis, X, Y, Z, Vec, side, vector, entry, map_mat, dot}
use Rattle.common.specs.Array.{axis_index, along, vector_of, items, matrix_of, Sized}
use Rattle.common.proofs.Bounds.{matrix-sizes}
use Rattle.common.specs.FloatMatrix.{floats}
use Rattle.common.proofs.Matrix.{side-vector, entry-matrix}
use Rattle.grgrid.specs.Grid.{size, digits, address, double}
use Rattle.grgrid.specs.Sides.{GridFits}
use Rattle.grgrid.proofs.Folding.{digits-within}
use Rattle.grgrid.proofs.Accepted.{side-small, few-points, grid-fits}
use Rattle.common.proofs.Sized.{sized-items}
use Rattle.bzsearch.specs.Search.{Search, grid_coordinate, reduced, split_reduced}
use Rattle.bzsearch.specs.declared.types.BzSearch.{BzSearch}
use Rattle.bzsearch.specs.SearchView.{search_view}
use Rattle.bzsearch.proofs.Sizes.{row_sized}

-- a quotient of at most 1: x is (u - w) of u + w ≤ d, and y is d
quotient-bounded : (x y : Float) (n : ℤ) (d : ℕ) → 0 < d → nat_abs n ≤ d → Whole x n → Whole y (pos d) → Bounded 0 (div binary64 x y)
quotient-bounded x y n d D h v w =
    let p = whole-positive y d D w in
    let g : up n + dn n ≤ d = subst (λ k. k ≤ d) (abs-parts n) h in
    let above = at_most (plus x) (less x) (den x) (plus y) (less y) (den y) (up n) (dn n) v.is w.is p.1 g in
    let below = at_most (less x) (plus x) (den x) (plus y) (less y) (den y) (dn n) (up n) (omega (arith, v.is)) w.is p.1 (omega arith) in
    rounds-bounded 0 (div-rounds binary64 x y v.number p.0) (mul-pos p.0 (den_pos x)) zero-le above below
  where
    at_most : (p l c q m e u w : ℕ) → p * 1 + w * c ≡ u * c + l * 1 → q * 1 + 0 * e ≡ d * e + m * 1 → m ≡ 0 → u + w ≤ d → p * e ≤ l * e + 2 ^ 0 * (q * c)
    at_most p l c q m e u w h k z g =
        let h' = ap (λ (t : ℕ). t * e) h in
        let k' = ap (λ (t : ℕ). t * c) k in
        let z' = ap (λ (t : ℕ). t * c) z in
        let g' = mul-le-mul_right (c * e) g in
        omega arith

module _ (s : Search) (a : Vec ℤ) where
  -- of an address below d, which the shift moves by at most half a step
  pub coordinate-bounded : (k : Axis) → nat_abs (side a k) < side s.d k → side s.d k ≤ 256 → nat_abs (side s.ps k) ≤ 1 → Bounded 0 (grid_coordinate s a k)
  coordinate-bounded k A D S =
      let d = side s.d k in
      let z = side (double a s.ps) k in
      quotient-bounded (of_int binary64 z) (mul binary64 (of_int binary64 (pos 2)) (of_int binary64 (pos d))) z (2 * d) (omega arith) size
      (of_int-whole binary64 z (le_trans size (omega arith)))
      (mul-whole binary64 (of_int binary64 (pos 2)) (of_int binary64 (pos d)) (pos 2) (pos d) (of_int-whole binary64 (pos 2) (lit≤ tt)) (of_int-whole binary64 (pos d) (omega arith)) (omega arith))
    where
      size : nat_abs (side (double a s.ps) k) ≤ 2 * side s.d k
      size = rw (side-vector (λ k. side a k *ℤ pos 2 +ℤ side s.ps k) k) (twice (side a k) (side s.ps k) (side s.d k) A S)
        where
          twice : (u v : ℤ) (d : ℕ) → nat_abs u < d → nat_abs v ≤ 1 → nat_abs (u *ℤ pos 2 +ℤ v) ≤ 2 * d
          twice u v d A S = le_trans (abs-add (u *ℤ pos 2) v) (omega (arith, abs-mul u (pos 2)))

  -- of the sum that reduced coordinate j is
  abbrev term : Axis → Axis → Float
  term j k = mul binary64 (entry (map_mat (of_int binary64) s.q) j k) (side (vector (grid_coordinate s a)) k)

  pub reduced-fits : (j : Axis) → T (fits binary64 (side (reduced s a) j))
  unfolding reduced
  reduced-fits j =
      rw (side-vector (λ j. dot floats (entry (map_mat (of_int binary64) s.q) j) (side (vector (grid_coordinate s a)))) j)
      (add-fits binary64 (add binary64 (term j X) (term j Y)) (term j Z))

  module _ (c : (k : Axis) → Bounded 0 (grid_coordinate s a k)) (q : (j k : Axis) → nat_abs (entry s.q j k) ≤ 1000) where
    entry-bounded : (j k : Axis) → Bounded 10 (entry (map_mat (of_int binary64) s.q) j k)
    entry-bounded j k =
        rw (entry-matrix (λ j k. of_int binary64 (entry s.q j k)) j k)
        (whole-bounded 10 (of_int binary64 (entry s.q j k)) (entry s.q j k) (of_int-whole binary64 (entry s.q j k) (le_trans (q j k) (lit≤ tt))) (le_trans (q j k) (lit≤ tt)))

    term-bounded : (j k : Axis) → Bounded 10 (term j k)
    term-bounded j k =
        rw (side-vector (grid_coordinate s a) k)
        (mul-bounded binary64 10 0 (entry (map_mat (of_int binary64) s.q) j k) (grid_coordinate s a k) (lit≤ tt) (entry-bounded j k) (c k))

    pub reduced-bounded : (j : Axis) → Bounded 12 (side (reduced s a) j)
    unfolding reduced
    reduced-bounded j =
        rw (side-vector (λ j. dot floats (entry (map_mat (of_int binary64) s.q) j) (side (vector (grid_coordinate s a)))) j)
        (add-bounded binary64 11 (add binary64 (term j X) (term j Y)) (term j Z) (lit≤ tt)
        (add-bounded binary64 10 (term j X) (term j Y) (lit≤ tt) (term-bounded j X) (term-bounded j Y))
        (bounded-up 10 11 (term j Z) (lit≤ tt) (term-bounded j Z)))

    pub nint-sized : (j : Axis) → nat_abs (side (split_reduced s a).nint j) ≤ 4096
    unfolding split_reduced
    nint-sized j =
        rw (side-vector (λ j. nint_of (side (reduced s a) j)) j) (nint-bounded (side (reduced s a) j) 12 (reduced-fits j) (lit≤ tt) (reduced-bounded j))

-- ---- an address of the grid
pub address_below : (d : Vec ℕ) → GridFits d → (p : ℕ) → p < size d → (k : Axis) → nat_abs (side (address d p) k) < side d k
unfolding address
address_below d f p h k = rw (side-vector (λ k. pos (side (digits d p) k)) k) ((digits-within d (record { positive = f.positive }) p h).inside k)

module _ (b : BzSearch) (p : ℕ) (h : p < size (search_view b).d) where
  abbrev d : Vec ℕ
  d = (search_view b).d

  below : (k : Axis) → nat_abs (side (address d p) k) < side d k
  below = address_below d (grid-fits b.d_diag b.diagonal) p h

  small : (k : Axis) → side d k ≤ 256
  small = side-small b.d_diag b.diagonal

  pub point-address : Sized 256 (items (address d p))
  point-address = sized-items (address d p) (at X) (at Y) (at Z)
    where
      at : (k : Axis) → nat_abs (side (address d p) k) ≤ 256
      at k = le_trans (le_of_lt (below k)) (small k)

  point-nint : (j : Axis) → nat_abs (side (split_reduced (search_view b) (address d p)).nint j) ≤ 4096
  point-nint =
      nint-sized (search_view b) (address d p)
      (λ k. coordinate-bounded (search_view b) (address d p) k (below k) (small k) (rw (side-vector (along b.ps.v) k) (b.ps.sized.each (axis_index k))))
      (matrix-sizes 1000 (matrix_of b.q.m) b.q.within)

  pub point-nint-sized : (l : List ℤ) → length l ≡ 3 → vector_of l ≡ (split_reduced (search_view b) (address d p)).nint → Sized 4096 l
  point-nint-sized l e g = row_sized l e (λ k. subst (λ (v : Vec ℤ). nat_abs (side v k) ≤ 4096) (sym g) (point-nint k))

  pub point-index : p < 65536
  point-index = lt_of_lt_of_le h (few-points b.d_diag b.diagonal)
