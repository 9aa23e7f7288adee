-- What the code's records stand for, and the sizes that it relies on.
use Rattle.std.specs.Prelude.{List, [], ◌++◌, ℕ, ◌+◌, ◌*◌, ℤ, ◌*ℤ◌, get_or, Float, Option, Some, None, true, false}
use Rattle.std.specs.Float.{nan}
use Rattle.common.specs.Matrix.{next, Vec, Mat, vector, matrix, cross, dot, integers}
use Rattle.common.specs.Array.{axis_index, along, vector_of, sides_of, items, matrix_of}
use Rattle.common.specs.FloatMatrix.{floats, float_vector}
use Rattle.bzsearch.specs.declared.types.BzSearch.{BzSearch}
use Rattle.bzsearch.specs.declared.types.Split as code-split
use Rattle.bzsearch.specs.declared.types.Span as code-span
use Rattle.bzsearch.specs.declared.types.Range.{Range}
use Rattle.bzsearch.specs.declared.types.Numbers as code-numbers
use Rattle.bzsearch.specs.declared.types.Axes.{Axes}
use Rattle.bzsearch.specs.declared.types.Boxes.{Boxes}
use Rattle.bzsearch.specs.declared.types.Point.{Point}
use Rattle.bzsearch.specs.Search.{Search, Split, Span, Numbers, box}

-- nine numbers by rows
abbrev pub float_nine : List Float → Mat Float
float_nine l = matrix (λ j k. get_or l (axis_index j * 3 + axis_index k) nan)

abbrev pub search_view : BzSearch → Search
search_view b = record {
  d = sides_of b.d_diag;
  ps = vector_of b.ps.v;
  q = matrix_of b.q.m;
  q_inv = matrix_of b.q_inv.m;
  lattice = float_nine b.rec_lattice;
  tolerance = b.tolerance;
  dual = float_vector b.dual_lengths;
}

abbrev pub split_view : code-split.Split → Split
split_view p = record { s0 = float_vector p.s0; nint = vector_of p.nint }

abbrev pub span_view : code-span.Span → Span
span_view r = record { lo = r.lo; hi = r.hi }

abbrev pub range_view : Range → Vec Span
range_view r = record { x = span_view r.x; y = span_view r.y; z = span_view r.z }

-- ---- candidates
abbrev pub numbers_view : code-numbers.Numbers → Numbers
numbers_view x = record { a = x.a; low = x.low; b = x.b; n = x.n }

abbrev pub axes_view : Axes → Vec Numbers
axes_view b = record { x = numbers_view b.x; y = numbers_view b.y; z = numbers_view b.z }

abbrev pub rest_of : Option Axes → List (Vec ℤ)
rest_of None = []
rest_of (Some b) = box true (axes_view b)

abbrev pub candidates_of : Boxes → List (Vec ℤ)
candidates_of b = box false (axes_view b.first) ++ rest_of b.rest

-- ---- a point
abbrev pub point_split : Point → Split
point_split p = record { s0 = float_vector p.s0; nint = vector_of p.nint.v }

-- ---- parts of the code's formulas
-- a row of the inverse, from the two columns after its number
abbrev pub inverse_row : List ℤ → List ℤ → ℤ → List ℤ
inverse_row a b det = items (vector (λ k. det *ℤ cross integers (along a (next k)) (along b (next k)) (along a (next (next k))) (along b (next (next k)))))

abbrev pub row_times : List Float → ℕ → List Float → Float
row_times l i v = dot floats (λ k. get_or l (i + axis_index k) nan) (λ k. get_or v (axis_index k) nan)
