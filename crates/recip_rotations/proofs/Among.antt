-- The search for a matrix in a list, from matrix k on.
use mathlib.Core.Path.{◌≡◌, refl, sym, ◌∙◌, ap}
use mathlib.Core.Bool.{Bool, true, false, ◌||◌}
use mathlib.Core.List.{List, ◌∷◌}
use Prim.Native.Nat.{ℕ, zero, suc, ◌+◌, ◌-◌, ◌<◌, ◌≤◌}
use native.Mathlib.Numerals.{add-one}
use native.Mathlib.Omega.{arith}
use lib.IntN.{ℤ}
use Rattle.std.specs.List.{list_any, range_with_len}
use Rattle.common.specs.Matrix.{Mat}
use Rattle.common.specs.Array.{matrix_at, matrices_from}
use Rattle.recip_rotations.specs.Unique.{same_matrix, among}

module _ (l : List ℤ) (k n : ℕ) where
  pub from_cons : k < n → matrices_from l k (n - k) ≡ matrix_at l k ∷ matrices_from l (k + 1) (n - (k + 1))
  from_cons h = ap (matrices_from l k) (left h) ∙ ap (λ j. matrix_at l k ∷ matrices_from l j (n - (k + 1))) (sym (add-one k))
    where
      left : k < n → n - k ≡ suc (n - (k + 1))
      left h = omega arith

  module _ (m : Mat ℤ) where
    pub found : k < n → same_matrix m (matrix_at l k) ≡ true → among m (matrices_from l k (n - k)) ≡ true
    found h e = ap (among m) (from_cons h) ∙ ap (λ t. elim t [ true ↦ true | false ↦ among m (matrices_from l (k + 1) (n - (k + 1))) ]) e

    pub further : k < n → same_matrix m (matrix_at l k) ≡ false → among m (matrices_from l k (n - k)) ≡ among m (matrices_from l (k + 1) (n - (k + 1)))
    further h e = ap (among m) (from_cons h) ∙ ap (λ t. elim t [ true ↦ true | false ↦ among m (matrices_from l (k + 1) (n - (k + 1))) ]) e

    pub nowhere : n ≤ k → among m (matrices_from l k (n - k)) ≡ false
    nowhere h = ap (λ j. among m (matrices_from l k j)) (none h)
      where
        none : n ≤ k → n - k ≡ 0
        none h = omega arith

-- ---- by the numbers of the matrices
module _ (m : Mat ℤ) (l : List ℤ) where
  pub any-among : (n k : ℕ) → list_any (λ i. same_matrix m (matrix_at l i)) (range_with_len n k) ≡ among m (matrices_from l n k)
  any-among n zero = refl
  any-among n (suc k) = step (same_matrix m (matrix_at l n)) (any-among (n + 1) k ∙ ap (λ i. among m (matrices_from l i k)) (add-one n))
    where
      step : (b : Bool) {x y : Bool} → x ≡ y → (b || x) ≡ elim b [ true ↦ true | false ↦ y ]
      step true e = refl
      step false e = e
