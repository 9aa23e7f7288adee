-- Whole numbers as floats, with bounds on their sizes: up to 2 ^ 53 sums, differences and products are exact, and so are those of matrices.
use Prim.Native.Nat.{ℕ, ◌+◌, ◌*◌, ◌^◌, ◌≤◌}
use native.Mathlib.Nat.{le_trans}
use native.Mathlib.Omega.{arith}
use lib.IntN.{ℤ, nat_abs, ◌+ℤ◌, ◌-ℤ◌, ◌*ℤ◌}
use lib.Ieee.{Float, binary64, add, sub, mul, of_int}
use Rattle.float.specs.Value.{Whole}
use Rattle.float.proofs.Whole.{of_int-whole, add-whole, sub-whole, mul-whole}
use Rattle.common.specs.Matrix.{Axis, X, Y, Z, next, Mat, entry, matrix, cross, dot, expand, minors, product_over, det_over, adjugate_over, integers, ◌·◌, det, adjugate}
use Rattle.common.specs.FloatMatrix.{floats}
use Rattle.common.proofs.Matrix.{entry-matrix}
use Rattle.common.proofs.Whole.{sum-size, difference-size, product-size}
use Rattle.transform_rotations.specs.Transform.{to_d}

-- x is the whole number z, of size at most k
pub record Exact (k : ℕ) (x : Float) (z : ℤ) : Type 0 where
  pub whole : Whole x z
  pub size : nat_abs z ≤ k

pub int-exact : {k : ℕ} (z : ℤ) → nat_abs z ≤ k → k ≤ 2 ^ 53 → Exact k (of_int binary64 z) z
int-exact z h f = record { whole = of_int-whole binary64 z (le_trans h f); size = h }

module _ {m n : ℕ} {x y : Float} {a b : ℤ} (p : Exact m x a) (q : Exact n y b) where
  pub add-exact : m + n ≤ 2 ^ 53 → Exact (m + n) (add binary64 x y) (a +ℤ b)
  add-exact h = let s = sum-size a b p.size q.size in record { whole = add-whole binary64 x y a b p.whole q.whole (le_trans s h); size = s }

  pub sub-exact : m + n ≤ 2 ^ 53 → Exact (m + n) (sub binary64 x y) (a -ℤ b)
  sub-exact h = let s = difference-size a b p.size q.size in record { whole = sub-whole binary64 x y a b p.whole q.whole (le_trans s h); size = s }

  pub mul-exact : m * n ≤ 2 ^ 53 → Exact (m * n) (mul binary64 x y) (a *ℤ b)
  mul-exact h = let s = product-size a b p.size q.size in record { whole = mul-whole binary64 x y a b p.whole q.whole (le_trans s h); size = s }

-- ---- a row with a column, and with its minors
module _ {m n : ℕ} {u v : Axis → Float} {a b : Axis → ℤ} (p : (k : Axis) → Exact m (u k) (a k)) (q : (k : Axis) → Exact n (v k) (b k)) (h : m * n + m * n + m * n ≤ 2 ^ 53) where
  term-exact : (k : Axis) → Exact (m * n) (mul binary64 (u k) (v k)) (a k *ℤ b k)
  term-exact k = mul-exact (p k) (q k) (omega arith)

  pub dot-exact : Exact (m * n + m * n + m * n) (dot floats u v) (dot integers a b)
  dot-exact = add-exact (add-exact (term-exact X) (term-exact Y) (omega arith)) (term-exact Z) h

  pub expand-exact : Exact (m * n + m * n + m * n) (expand floats u v) (expand integers a b)
  expand-exact = add-exact (sub-exact (term-exact X) (term-exact Y) (omega arith)) (term-exact Z) h

pub cross-exact : {n : ℕ} {w x y z : Float} {a b c d : ℤ} → Exact n w a → Exact n x b → Exact n y c → Exact n z d → n * n + n * n ≤ 2 ^ 53
    → Exact (n * n + n * n) (cross floats w x y z) (cross integers a b c d)
cross-exact p q r s h = sub-exact (mul-exact p s (omega arith)) (mul-exact q r (omega arith)) h

-- ---- matrices: every entry
pub record Exacts (n : ℕ) (x : Mat Float) (a : Mat ℤ) : Type 0 where
  pub at : (j k : Axis) → Exact n (entry x j k) (entry a j k)

pub matrix-exact : {n : ℕ} (f : Axis → Axis → Float) (g : Axis → Axis → ℤ) → ((j k : Axis) → Exact n (f j k) (g j k)) → Exacts n (matrix f) (matrix g)
matrix-exact f g h = record { at = λ j k. rw (entry-matrix f j k, entry-matrix g j k) (h j k) }

pub to_d-exact : {n : ℕ} (a : Mat ℤ) → ((j k : Axis) → nat_abs (entry a j k) ≤ n) → n ≤ 2 ^ 53 → Exacts n (to_d a) a
to_d-exact a h f = matrix-exact (λ j k. of_int binary64 (entry a j k)) (entry a) (λ j k. int-exact (entry a j k) (h j k) f)

pub product-exact : {m n : ℕ} {x y : Mat Float} {a b : Mat ℤ} → Exacts m x a → Exacts n y b → m * n + m * n + m * n ≤ 2 ^ 53 → Exacts (m * n + m * n + m * n) (product_over floats x y) (a · b)
product-exact {x = x} {y = y} {a = a} {b = b} p q h =
    matrix-exact (λ j k. dot floats (entry x j) (λ l. entry y l k)) (λ j k. dot integers (entry a j) (λ l. entry b l k)) (λ j k. dot-exact (p.at j) (λ l. q.at l k) h)

module _ {n : ℕ} {x : Mat Float} {a : Mat ℤ} (p : Exacts n x a) (f : n * n + n * n ≤ 2 ^ 53) where
  pub adjugate-exact : Exacts (n * n + n * n) (adjugate_over floats x) (adjugate a)
  adjugate-exact =
      matrix-exact (λ j k. cross floats (entry x (next k) (next j)) (entry x (next k) (next (next j))) (entry x (next (next k)) (next j)) (entry x (next (next k)) (next (next j))))
      (λ j k. cross integers (entry a (next k) (next j)) (entry a (next k) (next (next j))) (entry a (next (next k)) (next j)) (entry a (next (next k)) (next (next j))))
      (λ j k. cross-exact (p.at (next k) (next j)) (p.at (next k) (next (next j))) (p.at (next (next k)) (next j)) (p.at (next (next k)) (next (next j))) f)

  minors-exact : (k : Axis) → Exact (n * n + n * n) (minors floats (entry x Y) (entry x Z) k) (minors integers (entry a Y) (entry a Z) k)
  minors-exact X = cross-exact (p.at Y Y) (p.at Y Z) (p.at Z Y) (p.at Z Z) f
  minors-exact Y = cross-exact (p.at Y X) (p.at Y Z) (p.at Z X) (p.at Z Z) f
  minors-exact Z = cross-exact (p.at Y X) (p.at Y Y) (p.at Z X) (p.at Z Y) f

  pub det-exact : n * (n * n + n * n) + n * (n * n + n * n) + n * (n * n + n * n) ≤ 2 ^ 53
      → Exact (n * (n * n + n * n) + n * (n * n + n * n) + n * (n * n + n * n)) (det_over floats x) (det a)
  det-exact h = expand-exact (p.at X) minors-exact h
