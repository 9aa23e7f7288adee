-- The walk over a list of rotations: `first_lower` of those from matrix n on.
use mathlib.Core.Path.{◌≡◌, sym, ◌∙◌, ap}
use mathlib.Core.Bool.{Bool, true, false}
use mathlib.Core.List.{List, map}
use Prim.Native.Nat.{ℕ, zero, suc, ◌+◌, ◌-◌, ◌<◌, ◌≤◌}
use native.Mathlib.Numerals.{add-one}
use native.Mathlib.Omega.{arith}
use lib.Dec.{ltb}
use lib.IntN.{ℤ}
use borrow.Author.Tests.{lt-ltb, le-ltb}
use Rattle.std.specs.Prelude.{Option, None, Some}
use Rattle.common.specs.Matrix.{Mat}
use Rattle.common.specs.Array.{matrix_at, matrices_from}
use Rattle.grgrid.specs.ClassMap.{first_lower}

module _ (rot : Mat ℤ → ℕ → ℕ) (l : List ℤ) (p : ℕ) where
  -- of the matrices n to m - 1
  abbrev pub lower_from : ℕ → ℕ → Option ℕ
  lower_from n m = first_lower (map (λ r. rot r) (matrices_from l n (m - n))) p

  pub lower-start : (m : ℕ) → lower_from 0 m ≡ first_lower (map (λ r. rot r) (matrices_from l 0 m)) p
  lower-start m = ap (λ k. first_lower (map (λ r. rot r) (matrices_from l 0 k)) p) (all m)
    where
      all : (m : ℕ) → m - 0 ≡ m
      all m = omega arith

  step : (n m : ℕ) → n < m → lower_from n m ≡ elim (ltb (rot (matrix_at l n) p) p) [ true ↦ Some (rot (matrix_at l n) p) | false ↦ lower_from (n + 1) m ]
  step n m h = ap (λ k. first_lower (map (λ r. rot r) (matrices_from l n k)) p) (more n m h) ∙ go (n + 1) (sym (add-one n))
    where
      more : (n m : ℕ) → n < m → m - n ≡ suc (m - (n + 1))
      more n m h = omega arith

      go : (k : ℕ) → suc n ≡ k → first_lower (map (λ r. rot r) (matrices_from l n (suc (m - (n + 1))))) p ≡ elim (ltb (rot (matrix_at l n) p) p) [ true ↦ Some (rot (matrix_at l n) p) | false ↦ first_lower (map (λ r. rot r) (matrices_from l k (m - (n + 1)))) p ]
      go k e = ap (λ (i : ℕ). elim (ltb (rot (matrix_at l n) p) p) [ true ↦ Some (rot (matrix_at l n) p) | false ↦ first_lower (map (λ r. rot r) (matrices_from l i (m - (n + 1)))) p ]) e

  pub lower-here : (n m : ℕ) → n < m → rot (matrix_at l n) p < p → lower_from n m ≡ Some (rot (matrix_at l n) p)
  lower-here n m h k = step n m h ∙ ap (λ (t : Bool). elim t [ true ↦ Some (rot (matrix_at l n) p) | false ↦ lower_from (n + 1) m ]) (lt-ltb (rot (matrix_at l n) p) p k)

  pub lower-on : (n m : ℕ) → n < m → p ≤ rot (matrix_at l n) p → lower_from n m ≡ lower_from (n + 1) m
  lower-on n m h k = step n m h ∙ ap (λ (t : Bool). elim t [ true ↦ Some (rot (matrix_at l n) p) | false ↦ lower_from (n + 1) m ]) (le-ltb (rot (matrix_at l n) p) p k)

  pub lower-end : (n m : ℕ) → m ≤ n → lower_from n m ≡ None
  lower-end n m h = ap (λ k. first_lower (map (λ r. rot r) (matrices_from l n k)) p) (none n m h)
    where
      none : (n m : ℕ) → m ≤ n → m - n ≡ zero
      none n m h = omega arith
