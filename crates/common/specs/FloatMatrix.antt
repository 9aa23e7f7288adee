-- Vectors and matrices of f64, as the code holds them. Sums, differences and products are IEEE 754's, each rounded, in the Rust's order.
use Rattle.std.specs.Prelude.{List, ℤ, pos, Float}
use Rattle.std.specs.Float.{nan, binary64}
use Rattle.std.specs.Float.Ieee.{add, sub, mul, of_int}
use Rattle.common.specs.Matrix.{Vec, Mat, map_vec, map_mat, Ops, product_over, apply_over, det_over}
use Rattle.common.specs.Array.{vector_or, matrix_or, vector_of, items, matrix_of, rows}

abbrev pub floats : Ops Float
floats = record { plus = add binary64; minus = sub binary64; times = mul binary64; zero = of_int binary64 (pos 0) }

abbrev pub float_vector : List Float → Vec Float
float_vector = vector_or nan

abbrev pub float_matrix : List (List Float) → Mat Float
float_matrix = matrix_or nan

-- whole numbers, each to its nearest f64
abbrev pub row_d : List ℤ → List Float
row_d l = items (map_vec (of_int binary64) (vector_of l))

abbrev pub to_floats : List (List ℤ) → Mat Float
to_floats m = map_mat (of_int binary64) (matrix_of m)

abbrev pub matmul_d : List (List Float) → List (List Float) → List (List Float)
matmul_d a b = rows (product_over floats (float_matrix a) (float_matrix b))

abbrev pub matvec_id : List (List ℤ) → List Float → List Float
matvec_id a b = items (apply_over floats (to_floats a) (float_vector b))

abbrev pub det_d : List (List Float) → Float
det_d m = det_over floats (float_matrix m)
