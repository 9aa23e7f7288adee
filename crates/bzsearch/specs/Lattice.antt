-- Lengths in the reciprocal lattice, whose basis vectors are the columns of a matrix, operation by operation as the Rust works them out.
use Rattle.std.specs.Prelude.{Bool, not, ◌||◌, ℕ, ◌*◌, pos, Float, cond}
use Rattle.std.specs.Float.{binary64}
use Rattle.std.specs.Float.Ieee.{add, mul, div, of_int, of_bits, le, lt, eq}
use Rattle.std.specs.Float.Ieee.Scale.{finite}
use Rattle.float.specs.Rounding.{abs_of}
use Rattle.float.specs.Sqrt.{sqrt_of}
use Rattle.common.specs.Matrix.{Axis, X, Y, Z, next, Vec, Mat, side, vector, entry, all_axes, cross, dot, det_over}
use Rattle.common.specs.FloatMatrix.{floats}

abbrev pub zero_d : Float
zero_d = of_int binary64 (pos 0)

abbrev pub squared : Float → Float
squared x = mul binary64 x x

-- 0.01
abbrev pub tolerance_factor : Float
tolerance_factor = of_bits binary64 0x3f847ae147ae147b

-- ---- the tolerance: 0.01 times the largest of column length squared over d squared
abbrev pub squares_from0 : (x y z : Float) → Float
squares_from0 x y z = add binary64 (add binary64 (add binary64 zero_d (squared x)) (squared y)) (squared z)

abbrev pub step_squared : Mat Float → Vec ℕ → Axis → Float
step_squared m d k = div binary64 (squares_from0 (entry m X k) (entry m Y k) (entry m Z k)) (of_int binary64 (pos (side d k * side d k)))

abbrev pub larger : Float → Float → Float
larger most x = cond (lt most x) x most

unfoldable pub bz_tolerance : Mat Float → Vec ℕ → Float
bz_tolerance m d = mul binary64 (larger (larger (larger zero_d (step_squared m d X)) (step_squared m d Y)) (step_squared m d Z)) tolerance_factor

-- ---- the lengths of the dual vectors, which are the rows of the inverse
abbrev pub cross_d : (a b : Axis → Float) → Vec Float
cross_d a b = vector (λ k. cross floats (a (next k)) (a (next (next k))) (b (next k)) (b (next (next k))))

abbrev pub norm : Vec Float → Float
norm v = sqrt_of (dot floats (side v) (side v))

unfoldable pub lattice_det : Mat Float → Float
lattice_det m = det_over floats m

abbrev pub dual_length : Mat Float → Axis → Float
dual_length m k = div binary64 (norm (cross_d (λ j. entry m j (next k)) (λ j. entry m j (next (next k))))) (abs_of (lattice_det m))

unfoldable pub dual_lengths_of : Mat Float → Vec Float
unfolding lattice_det
dual_lengths_of m = vector (dual_length m)

-- no length is defined
unfoldable pub singular : Mat Float → Bool
unfolding lattice_det
singular m = eq (lattice_det m) zero_d || not (finite (lattice_det m))

-- finite, and of a size up to 1,000,000
abbrev pub lattice_fits : Mat Float → Bool
lattice_fits m = all_axes (λ j. all_axes (λ k. le (abs_of (entry m j k)) (of_int binary64 (pos 1000000))))
