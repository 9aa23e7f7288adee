-- The theorems: `round`, `floor` and `ceil` make the whole numbers that they should, and `sqrt` is correctly rounded.
use Rattle.std.proofs.Common.{◌*◌, true, false}
use lib.Ieee.{up, down}
use lib.Ieee.Fits.{down_pos}
use Rattle.float.specs.Rounding.{whole_below, whole_above, whole_nearest, floor_of, ceil_of}
use Rattle.float.specs.CorrectRounding.{MakesWhole, Floor, Ceil, WholeNumbers, SquareRoot}
use Rattle.float.proofs.Rounding.{below_right, above-right, nearest-right, round_exact, floor-exact, ceil-exact}
use Rattle.float.proofs.SqrtValue.{sqrt-fits}
use Rattle.float.proofs.SqrtNearest.{sqrt-nearest, sqrt-positive}

floors : MakesWhole floor_of Floor
floors true m e fx = (whole_above (m * up e) (down e), floor-exact true m e fx, above-right (m * up e) (down e) (down_pos e))
floors false m e fx = (whole_below (m * up e) (down e), floor-exact false m e fx, below_right (m * up e) (down e) (down_pos e))

ceils : MakesWhole ceil_of Ceil
ceils true m e fx = (whole_below (m * up e) (down e), ceil-exact true m e fx, below_right (m * up e) (down e) (down_pos e))
ceils false m e fx = (whole_above (m * up e) (down e), ceil-exact false m e fx, above-right (m * up e) (down e) (down_pos e))

pub whole-numbers : WholeNumbers
whole-numbers = record {
  round = λ s m e fx. (whole_nearest (m * up e) (down e), round_exact s m e fx, nearest-right (m * up e) (down e) (down_pos e));
  floor = floors;
  ceil = ceils;
}

pub square-root : SquareRoot
square-root x fx px = record { value = sqrt-fits x fx; above-zero = sqrt-positive x fx px; nearest = λ y fy py. sqrt-nearest x y fx px fy py }
