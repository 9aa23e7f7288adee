-- One step of the walk: what holds of every matrix that it leaves.
use mathlib.Core.Path.{◌≡◌, refl, ◌∙◌, ap}
use mathlib.Core.Bool.{not, ◌&&◌}
use Prim.Native.Nat.{ℕ, ◌^◌, ◌≤◌}
use lib.Dec.{T}
use lib.IntN.{ℤ, pos, neg_ℤ, nat_abs}
use lib.Signed.{lt_z}
use Rattle.std.specs.Prelude.{Some}
use Rattle.integer.specs.Checked.{fits64, is_zero}
use Rattle.integer.specs.Division.{div_euclid}
use Rattle.integer.proofs.Size.{zero_test, nonzero-test}
use Rattle.common.specs.Matrix.{Mat, ◌·◌}
use Rattle.common.specs.Array.{matrix_of}
use Rattle.common.specs.IntegerMatrix.{product_fits}
use Rattle.snf_steps.specs.Elementary.{elementary_flip_sign_row, elementary_add_rows, quotient_fits}
use Rattle.snf_steps.specs.Columns.{combination_matrix}
use Rattle.snf_steps.proofs.Accepted.{Accepted, accepted, accepted-bind, accepted-map, accepted-provided, accepted-pick, accepted-when}
use Rattle.snf_steps.proofs.FittingEntries.{Fits, product-fits}
use Rattle.snf_steps.proofs.Bezout.{Bezout}
use Rattle.snf_steps.proofs.RowOperations.{combining_by}
use Rattle.snf_steps.proofs.Zeroing.{combination-does}
use Rattle.hermite3x3.specs.Hermite3x3.{row_step, clear, sign, reduce}

-- ---- what a step leaves: the matrix as it was, or a product whose entries fit
pub record Product (l m t : Mat ℤ) : Type 0 where
  pub is : t ≡ l · m
  pub fits : Fits t

row-step-does : (l m : Mat ℤ) → Accepted (Product l m) (row_step l m)
unfolding row_step
row-step-does l m = accepted-provided (product_fits l m) (l · m) (λ t. record { is = refl; fits = product-fits l m t })

module _ (Q : Mat ℤ → Type 0) (i j : ℕ) where
  pub clear-does : (x y : ℤ) (m : Mat ℤ) → nat_abs y ≤ 2 ^ 63 → (y ≡ pos 0 → Q m) → ((z : Bezout x y) (t : Mat ℤ) → Product (combining_by i j z) m t → Q t) → Accepted Q (clear i j x y m)
  unfolding clear
  clear-does x y m h stay go =
      accepted-pick (is_zero y) (Some m) _
      (λ t. accepted (stay (zero_test y t)))
      (λ n. accepted-bind _ (combination-does i j x y (nonzero-test y n) h) (λ c z.
      accepted-map (row-step-does (combination_matrix i j c) m) (λ t p. go z.by t (record { is = p.is ∙ ap (λ l. l · m) z.is; fits = p.fits }))))

  pub reduce-does : (x p : ℤ) (m : Mat ℤ) → (x ≡ pos 0 → Q m) → ((t : Mat ℤ) → t ≡ matrix_of (elementary_add_rows i j (neg_ℤ (div_euclid x p))) · m → Q t) → Accepted Q (reduce i j x p m)
  unfolding reduce
  reduce-does x p m stay go =
      accepted-pick (is_zero x) (Some m) _
      (λ t. accepted (stay (zero_test x t)))
      (λ n. accepted-bind {P = λ q. q ≡ neg_ℤ (div_euclid x p)} _ (accepted-provided (quotient_fits x p && fits64 (neg_ℤ (div_euclid x p))) (neg_ℤ (div_euclid x p)) (λ _. refl)) (λ q e.
      accepted-map (row-step-does (matrix_of (elementary_add_rows i j q)) m) (λ t s. go t (s.is ∙ ap (λ q. matrix_of (elementary_add_rows i j q) · m) e))))

pub sign-does : (Q : Mat ℤ → Type 0) (i : ℕ) (x : ℤ) (m : Mat ℤ) → (T (not (lt_z x (pos 0))) → Q m)
    → (T (lt_z x (pos 0)) → (t : Mat ℤ) → t ≡ matrix_of (elementary_flip_sign_row i) · m → Q t) → Accepted Q (sign i x m)
unfolding sign
sign-does Q i x m stay go =
    accepted-when (lt_z x (pos 0)) (row_step (matrix_of (elementary_flip_sign_row i))) m
    (λ n. accepted-map (row-step-does (matrix_of (elementary_flip_sign_row i)) m) (λ t s. go n t s.is))
    stay
