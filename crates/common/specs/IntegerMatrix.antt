-- Where every number that the Rust works out in a product or a determinant, in its order, fits 64 signed bits.
use Rattle.std.specs.Prelude.{Bool, ℕ, max, ℤ, nat_abs, neg_ℤ}
use Rattle.integer.specs.Checked.{fits64}
use Rattle.common.specs.Matrix.{Axis, X, Y, Z, all_axes, Vec, Mat, entry, integers}
use Rattle.common.specs.Fitting.{products_fit_over, dot_fits_over, product_fits_over, apply_fits_over}
use Rattle.common.specs.Fitting.{cross_fits_over, expand_fits_over, minors_fit_over, det_fits_over}

abbrev pub products_fit : (u v : Axis → ℤ) → Bool
products_fit = products_fit_over integers fits64

abbrev pub dot_fits : (u v : Axis → ℤ) → Bool
dot_fits = dot_fits_over integers fits64

unfoldable pub product_fits : Mat ℤ → Mat ℤ → Bool
product_fits = product_fits_over integers fits64

abbrev pub apply_fits : Mat ℤ → Vec ℤ → Bool
apply_fits = apply_fits_over integers fits64

abbrev pub cross_fits : ℤ → ℤ → ℤ → ℤ → Bool
cross_fits = cross_fits_over integers fits64

abbrev pub expand_fits : (u v : Axis → ℤ) → Bool
expand_fits = expand_fits_over integers fits64

abbrev pub minors_fit : (y z : Axis → ℤ) → Bool
minors_fit = minors_fit_over integers fits64

unfoldable pub det_fits : Mat ℤ → Bool
det_fits = det_fits_over integers fits64

abbrev pub negation_fits : Mat ℤ → Bool
negation_fits m = all_axes (λ j. all_axes (λ k. fits64 (neg_ℤ (entry m j k))))

-- ---- the largest size of an entry
abbrev pub largest_of : (Axis → ℤ) → ℕ
largest_of u = max (max (nat_abs (u X)) (nat_abs (u Y))) (nat_abs (u Z))

unfoldable pub largest : Mat ℤ → ℕ
largest m = max (max (largest_of (entry m X)) (largest_of (entry m Y))) (largest_of (entry m Z))
