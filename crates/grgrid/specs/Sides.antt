-- The diagonal numbers and the remainders of a point as the code holds them, and the limits of the former.
use Rattle.std.specs.Prelude.{ℕ, ◌≤◌, ◌<◌}
use Rattle.common.specs.Matrix.{Vec, side, Axis}
use Rattle.grgrid.specs.Grid.{size}
use Rattle.grgrid.specs.declared.grid.Grid.{Grid}
use Rattle.grgrid.specs.declared.Remainders.{Remainders}

abbrev pub sides : Grid → Vec ℕ
sides g = record { x = g.x; y = g.y; z = g.z }

abbrev pub remainders : Remainders → Vec ℕ
remainders r = record { x = r.x; y = r.y; z = r.z }

-- also those of the doubled mesh
pub record GridFits (d : Vec ℕ) : Type 0 where
  pub positive : (k : Axis) → 0 < side d k
  pub small : (k : Axis) → side d k ≤ 512
  pub few : size d ≤ 524288
