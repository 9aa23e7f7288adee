-- How an image table of either type is read: the places of the images of a point.
use Rattle.std.specs.Prelude.{◌≡◌, List, ℕ, zero, suc, ◌+◌, ◌*◌, ◌-◌, ℤ}
use Rattle.common.specs.Tested.{◌then◌}
use Rattle.grgrid.specs.Lists.{◌∈◌}
use Rattle.bzgrid.specs.declared.GridType.{GridType}
use Rattle.bzgrid.specs.declared.GridType.TheVariants.{Sparse, Dense}
use Rattle.bzgrid.specs.Table.{listed}
use Rattle.bztable.specs.declared.reading.Run.{Run}
use Rattle.bztable.specs.Reading.{Read, got, place_at}

-- the places that the map bounds at k and k + 1, counted from `first` on
abbrev pub bounded : List ℤ → (k first : ℕ) → Read Run
bounded map k first = place_at map k then λ s. place_at map (k + 1) then λ e. got (record { from = s + first; to = e + first })

-- those of the images of point p, one of n: of all, or in a sparse table of all but the first, after the doubled mesh
abbrev pub run_of : GridType → List ℤ → (n p : ℕ) → Read Run
run_of Sparse map n p = bounded map (8 * n + p) n
run_of Dense map n p = bounded map p 0

-- the first, and the others from a place on
abbrev pub place_in : (first others : ℕ) → ℕ → ℕ
place_in first others zero = first
place_in first others (suc k) = others + k

-- in a sparse table the first image of point p stands at place p; where the map falls there is none
abbrev pub in_order : GridType → ℕ → Run → List ℕ
in_order Sparse p r = listed (place_in p r.from) (r.to + 1 - r.from)
in_order Dense p r = listed (place_in r.from (r.from + 1)) (r.to - r.from)

-- the places of the images of point p, one of n, in their order
abbrev pub image_places : GridType → List ℤ → (n p : ℕ) → Read (List ℕ)
image_places t map n p = run_of t map n p then λ r. got (in_order t p r)

-- the place of the first
abbrev pub first_place : GridType → List ℤ → ℕ → Read ℕ
first_place Sparse map p = got p
first_place Dense map p = place_at map p

-- an image of point p stands at place i
pub record ImageAt (t : GridType) (map : List ℤ) (n p i : ℕ) : Type 0 where
  pub places : List ℕ
  pub read : image_places t map n p ≡ got places
  pub stands : i ∈ places
