-- `rotate_bz_grid_index`: the tests, the walk and the answer.
use Rattle.std.specs.Prelude.{◌&&◌, List, ℕ, ◌-◌, ℤ, pos, Option, Some, None, Result, cond}
use Rattle.common.specs.Matrix.{Vec, Mat, ◌▹◌, same_vector}
use Rattle.common.specs.Array.{vector_of, sides_of, matrix_of}
use Rattle.common.specs.Limits.{matrix_within, diagonal_fits, shift_fits}
use Rattle.common.specs.Tested.{require, ◌then◌}
use Rattle.common.specs.declared.Refusal.{Refusal}
use Rattle.common.specs.declared.Refusal.TheVariants.{OutsideLimits, WrongLength}
use Rattle.grgrid.specs.Grid.{size, index, double, halve}
use Rattle.bzgrid.specs.declared.GridType.{GridType}
use Rattle.bzgrid.specs.declared.TableRecord.{TableRecord}
use Rattle.bzgrid.specs.declared.GridType.TheVariants.{Sparse, Dense}
use Rattle.bztable.specs.declared.rotate.Rotated.{Rotated}
use Rattle.bztable.specs.declared.rotate.Rotated.TheVariants.{Image, Fallback}
use Rattle.bztable.specs.Reading.{Read, got, whole_addresses, address_at, address_of, place_at, find}
use Rattle.bztable.specs.Access.{run_of}
use Rattle.bztable.specs.Agreement.{agrees, layout_where}

-- double, rotate, halve toward zero
abbrev pub turned : Mat ℤ → Vec ℤ → Vec ℤ → Vec ℤ
turned m ps a = halve (m ▹ double a ps) ps

-- ---- where address a stands among the images of point p, one of n
module _ (addresses map : List ℤ) (a : Vec ℤ) where
  -- among those that the map bounds
  abbrev pub among_run : GridType → (p n : ℕ) → Read (Option ℕ)
  among_run t p n = run_of t map n p then λ r. find addresses a r.from (r.to - r.from)

  -- a sparse table has the first image at place p; where that is the one, the map is not read
  abbrev pub among_images : GridType → (p n : ℕ) → Read (Option ℕ)
  among_images Sparse p n = address_at addresses p then λ b. cond (same_vector b a) (got (Some p)) (among_run Sparse p n)
  among_images Dense p n = among_run Dense p n

-- the image, or else what the map holds at the point: its first image (type 2), or whatever the doubled mesh has there (type 1)
abbrev pub image_or : Read ℕ → Option ℕ → Read Rotated
image_or fallback (Some i) = got (Image (pos i))
image_or fallback None = fallback then λ i. got (Fallback (pos i))

abbrev pub image_of : GridType → Vec ℕ → List ℤ → List ℤ → Vec ℤ → Read Rotated
image_of t d addresses map a = among_images addresses map a t (index d a) (size d) then image_or (place_at map (index d a))

-- ---- the call, of a table of layout k
unfoldable pub rotate_tests : List (List ℤ) → (addresses d ps : List ℤ) → Result GridType Refusal → Result GridType Refusal
rotate_tests rotation addresses d ps k =
    require (whole_addresses addresses) WrongLength
    (require (diagonal_fits d && (shift_fits ps && matrix_within 100000 (matrix_of rotation))) OutsideLimits k)

-- where image i is carried
unfoldable pub rotated_at : GridType → Vec ℕ → (addresses map : List ℤ) → Mat ℤ → Vec ℤ → ℤ → Read Rotated
unfolding index
rotated_at t d addresses map m ps i = address_of addresses i then λ b. image_of t d addresses map (turned m ps b)

abbrev pub rotate_read : ℤ → List (List ℤ) → (addresses map d ps : List ℤ) → GridType → Read Rotated
rotate_read i rotation addresses map d ps t = rotated_at t (sides_of d) addresses map (matrix_of rotation) (vector_of ps) i

unfoldable pub rotate_in : Result GridType Refusal → ℤ → List (List ℤ) → (addresses map d ps : List ℤ) → Read Rotated
unfolding rotate_tests rotated_at
rotate_in k i rotation addresses map d ps = rotate_tests rotation addresses d ps k then rotate_read i rotation addresses map d ps

-- the record of the table agrees with the call, or refusal 17
unfoldable pub rotate_bz_grid_index : ℤ → List (List ℤ) → (addresses map : List ℤ) → TableRecord → (d ps : List ℤ) → ℤ → Read Rotated
unfolding rotate_in
rotate_bz_grid_index i rotation addresses map r d ps t = rotate_in (layout_where (agrees r d ps t) t) i rotation addresses map d ps
