-- Laws of `unique`: one matrix more, and that it never gets shorter.
use mathlib.Core.Path.{◌≡◌, sym, ◌∙◌, ap}
use mathlib.Core.Bool.{Bool, true, false}
use mathlib.Core.List.{List, [], ◌∷◌, ◌++◌, foldl-append}
use Prim.Native.Nat.{ℕ, zero, suc, ◌+◌, ◌-◌, ◌≤◌}
use native.Mathlib.Nat.{add-zero, add-suc, le_refl, le_trans, le_of_eq}
use native.Mathlib.Numerals.{add-one}
use native.Mathlib.Omega.{arith}
use lib.IntN.{ℤ}
use lib.ListN.{length, length-append}
use Rattle.common.specs.Matrix.{Mat}
use Rattle.common.specs.Array.{matrix_at, matrices_from}
use Rattle.recip_rotations.specs.Unique.{among, with_new, unique}
use Rattle.recip_rotations.proofs.Blocks.{from_more}

module _ (l : List (Mat ℤ)) (m : Mat ℤ) where
  pub kept_there : among m l ≡ true → l ≡ with_new l m
  kept_there e = sym (ap (λ t. elim t [ true ↦ l | false ↦ l ++ (m ∷ []) ]) e)

  pub kept_new : among m l ≡ false → l ++ (m ∷ []) ≡ with_new l m
  kept_new e = sym (ap (λ t. elim t [ true ↦ l | false ↦ l ++ (m ∷ []) ]) e)

  kept-longer : length l ≤ length (with_new l m)
  kept-longer = go (among m l)
    where
      go : (t : Bool) → length l ≤ length {A = Mat ℤ} (elim t [ true ↦ l | false ↦ l ++ (m ∷ []) ])
      go true = le_refl (length l)
      go false = omega (arith, length-append l (m ∷ []))

module _ (l : List ℤ) where
  pub unique-more : (n : ℕ) → unique (matrices_from l 0 (n + 1)) ≡ with_new (unique (matrices_from l 0 n)) (matrix_at l n)
  unique-more n = ap unique (from_more l n) ∙ foldl-append with_new [] (matrices_from l 0 n) (matrix_at l n ∷ [])

  pub unique-longer : (n k : ℕ) → n ≤ k → length (unique (matrices_from l 0 n)) ≤ length (unique (matrices_from l 0 k))
  unique-longer n k h = rw (back n k h) (go (k - n))
    where
      back : (n k : ℕ) → n ≤ k → k ≡ n + (k - n)
      back n k h = omega arith

      go : (j : ℕ) → length (unique (matrices_from l 0 n)) ≤ length (unique (matrices_from l 0 (n + j)))
      go zero = le_of_eq (ap (λ i. length (unique (matrices_from l 0 i))) (sym (add-zero n)))
      go (suc j) =
          le_trans (le_trans (go j) (kept-longer (unique (matrices_from l 0 (n + j))) (matrix_at l (n + j))))
          (le_of_eq (ap length (sym (unique-more (n + j))) ∙ ap (λ i. length (unique (matrices_from l 0 i))) (add-one (n + j) ∙ sym (add-suc n j))))
