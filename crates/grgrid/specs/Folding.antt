-- What an address folds to, and the calls that tell it: `grid_index_from_address` of any address, `rotate_grid_index` of a point that is carried.
use Rattle.std.specs.Prelude.{◌≡◌, List, ℕ, ℤ, pos, nat_abs, ◌+ℤ◌, ◌*ℤ◌, Result, Ok}
use Rattle.common.specs.declared.Refusal.{Refusal}
use Rattle.common.specs.declared.Refusal.TheVariants.{OutsideLimits}
use Rattle.common.specs.Matrix.{Axis, Vec, side}
use Rattle.common.specs.Array.{along, vector_of, sides_of, matrix_of, items}
use Rattle.common.specs.Limits.{diagonal_fits, shift_fits, matrix_within, point_fits}
use Rattle.common.specs.Tested.{require}
use Rattle.grgrid.specs.declared.Folded.{Folded}
use Rattle.grgrid.specs.Grid.{size, index, cell, address, rotated}

abbrev pub fold_address : Vec ℕ → Vec ℤ → Folded
fold_address d a = record { index = index d a; cell = items (cell d a) }

-- cell times diagonal plus the index's address is the address
abbrev pub Exact : Vec ℕ → Vec ℤ → Folded → Type 0
Exact d a f = (k : Axis) → side a k ≡ along f.cell k *ℤ pos (side d k) +ℤ side (address d f.index) k

-- ---- the calls
unfoldable pub grid_index_from_address : (address d : List ℤ) → Result Folded Refusal
unfolding index cell
grid_index_from_address address d = require (diagonal_fits d) OutsideLimits (Ok (fold_address (sides_of d) (vector_of address)))

unfoldable pub rotate_grid_index : ℤ → List (List ℤ) → (d ps : List ℤ) → Result Folded Refusal
unfolding index cell address
rotate_grid_index point rotation d ps =
    require (diagonal_fits d) OutsideLimits
    (require (shift_fits ps) OutsideLimits
    (require (matrix_within 100000 (matrix_of rotation)) OutsideLimits
    (require (point_fits point (pos (size (sides_of d)))) OutsideLimits
    (Ok (fold_address (sides_of d) (rotated (sides_of d) (vector_of ps) (matrix_of rotation) (nat_abs point)))))))
