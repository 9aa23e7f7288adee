-- Whether the record of a table is of the grid that a call is given, and the layout by which the table is then read.
use Rattle.std.specs.Prelude.{Bool, ◌&&◌, List, ℤ, Result, Ok}
use Rattle.integer.specs.Same.{same}
use Rattle.common.specs.Matrix.{same_vector}
use Rattle.common.specs.Array.{vector_of}
use Rattle.common.specs.Tested.{require, ◌then◌}
use Rattle.common.specs.declared.Refusal.{Refusal}
use Rattle.common.specs.declared.Refusal.TheVariants.{OtherGrid}
use Rattle.bzgrid.specs.declared.GridType.{GridType}
use Rattle.bzgrid.specs.declared.TableRecord.{TableRecord}
use Rattle.bzgrid.specs.BzGridAddresses.{grid_type_of}

-- the diagonal and the type
abbrev pub agrees_grid : TableRecord → List ℤ → ℤ → Bool
agrees_grid r d t = same_vector (vector_of r.d) (vector_of d) && same r.bz_grid_type t

-- the shift too
abbrev pub agrees : TableRecord → (d ps : List ℤ) → ℤ → Bool
agrees r d ps t = agrees_grid r d t && same_vector (vector_of r.ps) (vector_of ps)

-- the layout that type t names, where the record agrees
abbrev pub layout_where : Bool → ℤ → Result GridType Refusal
layout_where agreed t = grid_type_of t then λ k. require agreed OtherGrid (Ok k)
