use mathlib.Core.Path.{◌∙◌, ap}
use Rattle.common.specs.Matrix.{◌▹◌}
use Rattle.common.specs.Array.{vector_of, items, matrix_of}
use Rattle.grgrid.specs.Grid.{index, cell, halve, rotate}
use Rattle.grgrid.specs.Sides.{sides}
use Rattle.grgrid.proofs.rotate_point.Goals as goal

pub returns-clause-value : goal.returns-clause-value
unfolding rotate
returns-clause-value c =
    let s = c.args in
    c.rotated_index.ensures.value ∙ ap (λ l. index (sides s.point.g) (halve (matrix_of s.rotation.m ▹ vector_of l) (vector_of s.ps.v))) c.doubled_point.ensures

pub returns-clause-cell_value : goal.returns-clause-cell_value
returns-clause-cell_value c =
    let s = c.args in
    c.rotated_index.ensures.cell_value
    ∙ ap (λ l. items (cell (sides s.point.g) (halve (matrix_of s.rotation.m ▹ vector_of l) (vector_of s.ps.v)))) c.doubled_point.ensures
