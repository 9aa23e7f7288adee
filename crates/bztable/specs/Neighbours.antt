-- `neighboring_grid_points_many`: its tests, the walk over points and offsets, and its answer with the output, which has n places, as one outcome.
use Rattle.std.specs.Prelude.{List, [], ◌∷◌, ◌++◌, ℕ, zero, suc, ◌*◌, ◌-◌, ◌/◌, ltb, eqb, ℤ, pos, ◌+ℤ◌, length, get_or, unwrap_or, Result, cond}
use Rattle.common.specs.Matrix.{Vec, side, vector}
use Rattle.common.specs.Array.{sides_of}
use Rattle.common.specs.Limits.{all_within, diagonal_fits}
use Rattle.common.specs.Tested.{require, output_of, Tested, Accepted, ◌then◌}
use Rattle.common.specs.declared.Refusal.{Refusal}
use Rattle.common.specs.declared.Refusal.TheVariants.{OutsideLimits, WrongLength}
use Rattle.grgrid.specs.Grid.{size, index}
use Rattle.bzgrid.specs.declared.GridType.{GridType}
use Rattle.bzgrid.specs.declared.GridType.TheVariants.{Sparse, Dense}
use Rattle.bzgrid.specs.Table.{listed, doubled, empty}
use Rattle.bzgrid.specs.declared.TableRecord.{TableRecord}
use Rattle.bztable.specs.Access.{run_of}
use Rattle.bztable.specs.Agreement.{agrees_grid, layout_where}
use Rattle.bztable.specs.Reading.{Read, got, whole_addresses, triple_at, address_of, place_at, find, tests_after, list_of, read_each}

abbrev pub moved : Vec ℤ → Vec ℤ → Vec ℤ
moved a o = vector (λ k. side a k +ℤ side o k)

-- ---- the image at address b
-- type 1: the point itself where the doubled mesh holds 8 N: an empty place, or image 8 N, which is taken for one
abbrev pub sparse_neighbour : Vec ℕ → List ℤ → Vec ℤ → Read ℕ
sparse_neighbour d map b = place_at map (index (doubled d) b) then λ i. got (cond (eqb i (empty d)) (index d b) i)

-- of several images the one at b, or else the first
abbrev pub image_among : List ℤ → Vec ℤ → (lo hi : ℕ) → Read ℕ
image_among addresses b lo hi = cond (ltb 1 (hi - lo)) (find addresses b lo (hi - lo) then λ f. got (unwrap_or f lo)) (got lo)

-- type 2
abbrev pub dense_neighbour : Vec ℕ → (addresses map : List ℤ) → Vec ℤ → Read ℕ
dense_neighbour d addresses map b = run_of Dense map (size d) (index d b) then λ r. image_among addresses b r.from r.to

abbrev pub neighbour : Vec ℕ → (addresses map : List ℤ) → Vec ℤ → GridType → Read ℕ
neighbour d addresses map b Sparse = sparse_neighbour d map b
neighbour d addresses map b Dense = dense_neighbour d addresses map b

-- ---- g 0, then g 1, .. , then g (n - 1)
abbrev pub joined : List (List ℤ) → List ℤ
joined [] = []
joined (l ∷ r) = l ++ joined r

abbrev pub read_rows : (ℕ → Read (List ℤ)) → ℕ → Read (List ℤ)
read_rows g n = read_each g (listed (λ i. i) n) then λ l. got (joined l)

module _ (t : GridType) (d : Vec ℕ) (offsets addresses map : List ℤ) where
  abbrev pub neighbour_at : Vec ℤ → ℕ → Read (List ℤ)
  neighbour_at base j = neighbour d addresses map (moved base (triple_at offsets j)) t then λ i. got (pos i ∷ [])

  -- along each offset
  abbrev pub neighbours_from : Vec ℤ → Read (List ℤ)
  neighbours_from base = read_rows (neighbour_at base) (length offsets / 3)

  -- of each point
  unfoldable pub all_neighbours : List ℤ → Read (List ℤ)
  unfolding index
  all_neighbours points = read_rows (λ i. address_of addresses (get_or points i (pos 0)) then neighbours_from) (length points)

-- ---- the call
-- without points or without offsets nothing is read, and the table may be of any type and any record
abbrev pub read_for : ℕ → Read (List ℤ) → Read (List ℤ)
read_for zero r = got []
read_for (suc n) r = r

unfoldable pub input_tests : ℕ → (offsets addresses d : List ℤ) → ℕ → Tested
input_tests points offsets addresses d n =
    require (whole_addresses offsets) WrongLength
    (require (whole_addresses addresses) WrongLength
    (require (eqb n (points * (length offsets / 3))) WrongLength
    (require (diagonal_fits d) OutsideLimits
    (require (all_within 1000 offsets) OutsideLimits Accepted))))

pub record Neighbours : Type 0 where
  pub answer : Tested
  pub out : List ℤ

-- of a table of layout k
module _ (k : Result GridType Refusal) (points offsets addresses map d : List ℤ) (n : ℕ) where
  unfoldable pub neighbours_read : Read (List ℤ)
  unfolding all_neighbours
  neighbours_read = read_for n (k then λ t. all_neighbours t (sides_of d) offsets addresses map points)

  unfoldable pub neighbour_tests : Tested
  unfolding input_tests neighbours_read
  neighbour_tests = tests_after (input_tests (length points) offsets addresses d n) neighbours_read

  unfoldable pub neighbours_in : Neighbours
  unfolding neighbour_tests neighbours_read
  neighbours_in = record { answer = neighbour_tests; out = output_of neighbour_tests n (list_of neighbours_read) }

-- the record of the table agrees with the call, or refusal 17
unfoldable pub neighboring_grid_points_many : (points offsets addresses map : List ℤ) → TableRecord → List ℤ → ℤ → ℕ → Neighbours
unfolding neighbours_in
neighboring_grid_points_many points offsets addresses map r d t n = neighbours_in (layout_where (agrees_grid r d t) t) points offsets addresses map d n
