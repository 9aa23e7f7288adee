-- Where every number that a product or a determinant works out, in the Rust's order, is one that an entry can be.
use Rattle.std.specs.Prelude.{Bool, ◌&&◌}
use Rattle.common.specs.Matrix.{Axis, X, Y, Z, all_axes, Vec, Mat, side, entry, Ops, cross, dot, expand, minors}

module _ {R : Type 0} (o : Ops R) (fits : R → Bool) where
  abbrev pub products_fit_over : (u v : Axis → R) → Bool
  products_fit_over u v = all_axes (λ k. fits (o.times (u k) (v k)))

  abbrev pub dot_fits_over : (u v : Axis → R) → Bool
  dot_fits_over u v = products_fit_over u v && (fits (o.plus (o.times (u X) (v X)) (o.times (u Y) (v Y))) && fits (dot o u v))

  abbrev pub product_fits_over : Mat R → Mat R → Bool
  product_fits_over l m = all_axes (λ j. all_axes (λ k. dot_fits_over (entry l j) (λ n. entry m n k)))

  -- a matrix times a column
  abbrev pub apply_fits_over : Mat R → Vec R → Bool
  apply_fits_over m v = all_axes (λ j. dot_fits_over (entry m j) (side v))

  abbrev pub cross_fits_over : R → R → R → R → Bool
  cross_fits_over j k m n = fits (o.times j n) && (fits (o.times k m) && fits (cross o j k m n))

  abbrev pub expand_fits_over : (u v : Axis → R) → Bool
  expand_fits_over u v = products_fit_over u v && (fits (o.minus (o.times (u X) (v X)) (o.times (u Y) (v Y))) && fits (expand o u v))

  abbrev pub minors_fit_over : (y z : Axis → R) → Bool
  minors_fit_over y z = cross_fits_over (y Y) (y Z) (z Y) (z Z) && (cross_fits_over (y X) (y Z) (z X) (z Z) && cross_fits_over (y X) (y Y) (z X) (z Y))

  abbrev pub det_fits_over : Mat R → Bool
  det_fits_over m = minors_fit_over (entry m Y) (entry m Z) && expand_fits_over (entry m X) (minors o (entry m Y) (entry m Z))
