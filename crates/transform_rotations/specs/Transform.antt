-- D·Q⁻¹·R·Q·D⁻¹ in f64, operation by operation as the Rust works it out.
use Rattle.std.specs.Prelude.{Bool, not, ℤ, Float}
use Rattle.std.specs.Float.{binary64}
use Rattle.std.specs.Float.Ieee.{mul, div, of_int, lt}
use Rattle.float.specs.Rounding.{nint_of, offset, tolerance}
use Rattle.common.specs.Matrix.{Vec, Mat, side, entry, matrix, map_mat, all_axes, product_over, det_over, adjugate_over}
use Rattle.common.specs.FloatMatrix.{floats}

-- each entry of the adjugate over the determinant
abbrev pub inverse_d : Mat Float → Mat Float
inverse_d m = map_mat (λ x. div binary64 x (det_over floats m)) (adjugate_over floats m)

abbrev pub conjugate_d : Mat Float → Mat Float → Mat Float
conjugate_d q r = product_over floats (product_over floats (inverse_d q) r) q

-- times dj, then divided by dk
abbrev pub scaled_d : Vec ℤ → Mat Float → Mat Float
scaled_d d m = matrix (λ j k. div binary64 (mul binary64 (entry m j k) (of_int binary64 (side d j))) (of_int binary64 (side d k)))

abbrev pub to_d : Mat ℤ → Mat Float
to_d m = map_mat (of_int binary64) m

unfoldable pub transform_d : Vec ℤ → Mat ℤ → Mat ℤ → Mat Float
transform_d d q r = scaled_d d (conjugate_d (to_d q) (to_d r))

-- no entry is over 1e-5 from its rounded value
unfoldable pub is_whole : Mat Float → Bool
is_whole m = all_axes (λ j. all_axes (λ k. not (lt tolerance (offset (entry m j k)))))

unfoldable pub rounded : Mat Float → Mat ℤ
rounded m = map_mat nint_of m
