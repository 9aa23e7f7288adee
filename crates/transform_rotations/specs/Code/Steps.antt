-- What the steps of the code compute, from Q, its inverse and D as f64.
use Rattle.std.specs.Prelude.{Bool, not, List, ℤ, get_or, Float}
use Rattle.std.specs.Float.{nan, binary64}
use Rattle.std.specs.Float.Ieee.{sub, mul, div, of_int, lt}
use Rattle.float.specs.Rounding.{abs_of, offset, tolerance}
use Rattle.common.specs.Matrix.{next, Vec, Mat, side, vector, entry, matrix, map_mat, all_axes, cross, product_over, adjugate_over}
use Rattle.common.specs.Array.{axis_index, items}
use Rattle.common.specs.FloatMatrix.{floats}
use Rattle.transform_rotations.specs.Transform.{to_d}

-- a row of the inverse, from the two columns after its number, in a circle
abbrev pub inverse_row : List Float → List Float → Float → List Float
inverse_row p q det =
    items (vector (λ k. div binary64
    (cross floats (get_or p (axis_index (next k)) nan) (get_or q (axis_index (next k)) nan)
    (get_or p (axis_index (next (next k))) nan) (get_or q (axis_index (next (next k))) nan)) det))

abbrev pub inverse_over : Mat Float → Float → Mat Float
inverse_over m det = map_mat (λ x. div binary64 x det) (adjugate_over floats m)

-- a row times its own number of D, then divided by each
abbrev pub scaled_row : List Float → Float → List Float → List Float
scaled_row p dj d = items (vector (λ k. div binary64 (mul binary64 (get_or p (axis_index k) nan) dj) (get_or d (axis_index k) nan)))

unfoldable pub transform_over : Mat Float → Mat Float → Vec Float → Mat Float → Mat Float
transform_over inverse q d r =
    matrix (λ j k. div binary64
    (mul binary64 (entry (product_over floats (product_over floats inverse r) q) j k) (side d j)) (side d k))

-- of a rotation of whole numbers
abbrev pub transform_by : Mat Float → Mat Float → Vec Float → Mat ℤ → Mat Float
transform_by inverse q d r = transform_over inverse q d (to_d r)

-- x is not over 1e-5 from its rounded value
abbrev pub is_near : Float → Bool
is_near x = not (lt tolerance (offset x))

-- n is not over 1e-5 from x
abbrev pub near : ℤ → Float → Bool
near n x = not (lt tolerance (abs_of (sub binary64 (of_int binary64 n) x)))

unfoldable pub all_near : Mat ℤ → Mat Float → Bool
all_near n m = all_axes (λ j. all_axes (λ k. near (entry n j k) (entry m j k)))
