-- Products by a matrix with one number a row, as that of an exchange of rows.
use mathlib.Core.Path.{◌≡◌, sym, subst}
use mathlib.Core.Bool.{Bool, ◌&&◌}
use Prim.Native.Nat.{ℕ, zero, suc, ◌<◌}
use native.Mathlib.Omega.{arith}
use lib.Dec.{T}
use lib.IntN.{ℤ, pos, ◌+ℤ◌, zero-*ℤ, +ℤ_idl, +ℤ_idr}
use Rattle.integer.specs.Checked.{fits64}
use Rattle.integer.proofs.Test.{and_in}
use Rattle.integer.proofs.Ring.{one-*ℤ}
use Rattle.common.specs.Matrix.{Axis, X, Y, Z, all_axes, Mat, entry, identity}
use Rattle.common.specs.Array.{matrix_of}
use Rattle.common.specs.IntegerMatrix.{dot_fits, product_fits}
use Rattle.common.proofs.Matrix.{all-axes}
use Rattle.snf_steps.specs.Elementary.{elementary_swap_rows}
use Rattle.snf_steps.proofs.FittingEntries.{Fits}
use Rattle.snf_steps.proofs.RowOperations.{stack}

-- ---- a row times a column: three products of which two are 0
abbrev sums_fit : (a b c : ℤ) → Bool
sums_fit a b c = (fits64 a && (fits64 b && fits64 c)) && (fits64 (a +ℤ b) && fits64 (a +ℤ b +ℤ c))

abbrev o : ℤ
o = pos 0

same : {y z : ℤ} → y ≡ z → T (fits64 z) → T (fits64 y)
same e t = subst (λ z. T (fits64 z)) (sym e) t

first-fits : (a : ℤ) → T (fits64 a) → T (sums_fit a o o)
first-fits a t =
    let u = same (+ℤ_idr a) t in
    and_in (fits64 a && (fits64 o && fits64 o)) (fits64 (a +ℤ o) && fits64 (a +ℤ o +ℤ o)) (and_in (fits64 a) (fits64 o && fits64 o) t tt)
    (and_in (fits64 (a +ℤ o)) (fits64 (a +ℤ o +ℤ o)) u (same (+ℤ_idr (a +ℤ o)) u))

second-fits : (a : ℤ) → T (fits64 a) → T (sums_fit o a o)
second-fits a t =
    let u = same (+ℤ_idl a) t in
    and_in (fits64 o && (fits64 a && fits64 o)) (fits64 (o +ℤ a) && fits64 (o +ℤ a +ℤ o)) (and_in (fits64 a) (fits64 o) t tt)
    (and_in (fits64 (o +ℤ a)) (fits64 (o +ℤ a +ℤ o)) u (same (+ℤ_idr (o +ℤ a)) u))

third-fits : (a : ℤ) → T (fits64 a) → T (sums_fit o o a)
third-fits a t = and_in (fits64 a) (fits64 (o +ℤ o) && fits64 (o +ℤ o +ℤ a)) t (same (+ℤ_idl a) t)

-- row n of the unit matrix
unit-fits : (n : Axis) (v : Axis → ℤ) → T (fits64 (v n)) → T (dot_fits (entry identity n) v)
unit-fits X v t = subst T (λ i. sums_fit (sym (one-*ℤ (v X)) i) (sym (zero-*ℤ (v Y)) i) (sym (zero-*ℤ (v Z)) i)) (first-fits (v X) t)
unit-fits Y v t = subst T (λ i. sums_fit (sym (zero-*ℤ (v X)) i) (sym (one-*ℤ (v Y)) i) (sym (zero-*ℤ (v Z)) i)) (second-fits (v Y) t)
unit-fits Z v t = subst T (λ i. sums_fit (sym (zero-*ℤ (v X)) i) (sym (zero-*ℤ (v Y)) i) (sym (one-*ℤ (v Z)) i)) (third-fits (v Z) t)

-- ---- rows p, q and r of m
module _ (p q r : Axis) (m : Mat ℤ) (w : Fits m) where
  abbrev l : Mat ℤ
  l = stack (entry identity p) (entry identity q) (entry identity r)

  row : (n : Axis) → T (all_axes (λ k. dot_fits (entry identity n) (λ n. entry m n k)))
  row n = all-axes (λ k. dot_fits (entry identity n) (λ n. entry m n k)) (λ k. unit-fits n (λ n. entry m n k) (w.each n k))

  picked-fits : T (product_fits l m)
  unfolding product_fits
  picked-fits = all-axes (λ j. all_axes (λ k. dot_fits (entry l j) (λ n. entry m n k))) at
    where
      at : (j : Axis) → T (all_axes (λ k. dot_fits (entry l j) (λ n. entry m n k)))
      at X = row p
      at Y = row q
      at Z = row r

pub swap-fits : (i j : ℕ) → i < j → j < 3 → (m : Mat ℤ) → Fits m → T (product_fits (matrix_of (elementary_swap_rows i j)) m)
swap-fits zero (suc zero) h k = picked-fits Y X Z
swap-fits zero (suc (suc zero)) h k = picked-fits Z Y X
swap-fits (suc zero) (suc (suc zero)) h k = picked-fits X Z Y
swap-fits zero zero h k = absurd (omega (arith, h))
swap-fits (suc i) zero h k = absurd (omega (arith, h))
swap-fits (suc i) (suc zero) h k = absurd (omega (arith, h))
swap-fits (suc (suc i)) (suc (suc zero)) h k = absurd (omega (arith, h))
swap-fits i (suc (suc (suc j))) h k = absurd (omega (arith, k))
