-- The walks over the n matrices of a list: a test of every one, and of no repeats.
use mathlib.Core.Path.{◌≡◌, refl, ◌∙◌, ap, ap₂}
use mathlib.Core.Bool.{Bool, true, false, not, ◌&&◌, ◌||◌}
use mathlib.Core.List.{List}
use Prim.Native.Nat.{ℕ, zero, suc, ◌+◌, ◌-◌, ◌<◌, ◌≤◌}
use native.Mathlib.Numerals.{add-one}
use native.Mathlib.Omega.{arith}
use lib.IntN.{ℤ}
use Rattle.std.specs.List.{list_all, list_any, range_with_len}
use Rattle.common.specs.Matrix.{Mat}
use Rattle.common.specs.Array.{matrix_at, matrices_from}
use Rattle.common.specs.Every.{every}
use Rattle.recip_rotations.specs.Unique.{among}
use Rattle.recip_rotations.proofs.Among.{from_cons}
use Rattle.rotation_group.specs.Group.{no_repeats}

module _ (l : List ℤ) where
  -- ---- by the numbers of the matrices
  pub all-every : (p : Mat ℤ → Bool) (n k : ℕ) → list_all (λ i. p (matrix_at l i)) (range_with_len n k) ≡ every p (matrices_from l n k)
  all-every p n zero = refl
  all-every p n (suc k) = ap (λ t. p (matrix_at l n) && t) (all-every p (n + 1) k ∙ ap (λ i. every p (matrices_from l i k)) (add-one n))

  -- matrix n comes again after its place, of c
  abbrev pub again : ℕ → ℕ → Bool
  again c n = among (matrix_at l n) (matrices_from l (n + 1) (c - (n + 1)))

  pub any-repeats : (c n k : ℕ) → n + k ≡ c → not (list_any (again c) (range_with_len n k)) ≡ no_repeats (matrices_from l n k)
  any-repeats c n zero e = refl
  any-repeats c n (suc k) e =
      both (again c n) _ (any-repeats c (n + 1) k (omega arith) ∙ ap (λ i. no_repeats (matrices_from l i k)) (add-one n))
      ∙ ap₂ (λ i j. not (among (matrix_at l n) (matrices_from l i j)) && no_repeats (matrices_from l (suc n) k)) (add-one n) left
    where
      left : c - (n + 1) ≡ k
      left = omega arith

      both : (a : Bool) (x : Bool) {y : Bool} → not x ≡ y → not (a || x) ≡ not a && y
      both true x f = refl
      both false x f = f

-- ---- from matrix k on
module _ (l : List ℤ) (k n : ℕ) (p : Mat ℤ → Bool) where
  -- those after matrix k
  abbrev rest : List (Mat ℤ)
  rest = matrices_from l (k + 1) (n - (k + 1))

  pub every-on : k < n → p (matrix_at l k) ≡ true → every p (matrices_from l k (n - k)) ≡ every p rest
  every-on h e = ap (every p) (from_cons l k n h) ∙ ap (λ t. t && every p rest) e

  pub every-stop : k < n → p (matrix_at l k) ≡ false → every p (matrices_from l k (n - k)) ≡ false
  every-stop h e = ap (every p) (from_cons l k n h) ∙ ap (λ t. t && every p rest) e

  pub every-end : n ≤ k → every p (matrices_from l k (n - k)) ≡ true
  every-end h = ap (λ j. every p (matrices_from l k j)) none
    where
      none : n - k ≡ 0
      none = omega arith
