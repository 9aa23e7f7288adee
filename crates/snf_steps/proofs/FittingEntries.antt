-- Matrices whose entries fit 64 signed bits: products that were accepted, transposes, and the matrix that is given.
use mathlib.Core.Path.{◌≡◌, refl, sym, subst}
use mathlib.Core.Bool.{◌&&◌}
use Prim.Native.Nat.{◌^◌, ◌≤◌}
use native.Mathlib.Nat.{lt_of_le_of_lt}
use lib.Dec.{T, lit<, lt→ltb}
use lib.IntN.{ℤ, nat_abs}
use lib.Signed.{mag}
use mir.Syntax.{w64}
use mir.Val.{SFits}
use Rattle.std.specs.Prelude.{Some}
use Rattle.integer.specs.Checked.{fits64}
use Rattle.integer.proofs.Test.{and_in, is_true}
use Rattle.integer.proofs.Fits.{held, held_of, fits-size, size_fits}
use Rattle.common.specs.Matrix.{Axis, X, Y, Z, Mat, entry, map_mat, transpose, dot, integers, ◌·◌}
use Rattle.common.specs.IntegerMatrix.{dot_fits, product_fits}
use Rattle.common.specs.Limits.{matrix_within}
use Rattle.common.proofs.Bounds.{matrix-sizes}
use Rattle.common.proofs.Matrix.{axes-of, entry-matrix}
use Rattle.common.proofs.Whole.{dot-fits, row_fits}
use Rattle.snf_steps.specs.Then.{provided}
use Rattle.snf_steps.specs.Columns.{Pair, multiply}

pub record Fits (m : Mat ℤ) : Type 0 where
  pub each : (j k : Axis) → T (fits64 (entry m j k))

-- of a matrix that the code holds, entry by entry
pub held-fits : {m : Mat ℤ} → SFits w64 m.a → SFits w64 m.b → SFits w64 m.c → SFits w64 m.d → SFits w64 m.e → SFits w64 m.f → SFits w64 m.g → SFits w64 m.h → SFits w64 m.i → Fits m
held-fits {m} a b c d e f g h i = record { each = at }
  where
    test : {z : ℤ} → SFits w64 z → T (fits64 z)
    test {z} w = lt→ltb (mag z) 0x8000000000000000 w.sfits

    at : (j k : Axis) → T (fits64 (entry m j k))
    at X X = test a
    at X Y = test b
    at X Z = test c
    at Y X = test d
    at Y Y = test e
    at Y Z = test f
    at Z X = test g
    at Z Y = test h
    at Z Z = test i

-- and so is what the code holds of it
pub held-entries : (m : Mat ℤ) → Fits m → map_mat held m ≡ m
held-entries m w = λ n. record { a = e X X n; b = e X Y n; c = e X Z n; d = e Y X n; e = e Y Y n; f = e Y Z n; g = e Z X n; h = e Z Y n; i = e Z Z n }
  where
    e : (j k : Axis) → held (entry m j k) ≡ entry m j k
    e j k = held_of refl (w.each j k)

pub entry-size : {m : Mat ℤ} → Fits m → (j k : Axis) → nat_abs (entry m j k) ≤ 2 ^ 63
entry-size {m} w j k = fits-size (entry m j k) (w.each j k)

pub transpose-fits : {m : Mat ℤ} → Fits m → Fits (transpose m)
transpose-fits {m} w = record { each = λ j k. subst (λ z. T (fits64 z)) (sym (entry-matrix (λ j k. entry m k j) j k)) (w.each k j) }

pub product-fits : (l m : Mat ℤ) → T (product_fits l m) → Fits (l · m)
product-fits l m t = record {
  each = λ j k. subst (λ z. T (fits64 z)) (sym (entry-matrix (λ j k. dot integers (entry l j) (λ n. entry m n k)) j k))
      (dot-fits (entry l j) (λ n. entry m n k) (axes-of (λ k. dot_fits (entry l j) (λ n. entry m n k)) (row_fits l m t j) k)).whole;
}

pub given-fits : (m : Mat ℤ) → T (matrix_within 1000000 m) → Fits m
given-fits m t = record { each = λ j k. size_fits (entry m j k) (lt_of_le_of_lt (matrix-sizes 1000000 m t j k) (lit< tt)) }

-- a and its companion multiplied, where both products fit
pub multiply-fits : (l : Mat ℤ) (s : Pair) → T (product_fits l s.a) → T (product_fits l s.p) → multiply l s ≡ Some (record { a = l · s.a; p = l · s.p })
unfolding multiply
multiply-fits l s t u = λ n. provided (is_true (product_fits l s.a && product_fits l s.p) (and_in (product_fits l s.a) (product_fits l s.p) t u) n) (record { a = l · s.a; p = l · s.p })
