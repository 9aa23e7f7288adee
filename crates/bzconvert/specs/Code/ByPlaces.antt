-- Whether a table that can be read could stand, place by place, as the code walks it: nothing is laid out, and the doubled mesh is walked twice.
use Rattle.std.specs.Prelude.{Bool, true, false, not, ◌&&◌, ◌||◌, List, [], ◌∷◌, ℕ, ◌*◌, ltb, leb, eqb, ℤ, length, Ok, Err}
use Rattle.common.specs.Every.{every}
use Rattle.common.specs.Matrix.{Vec, same_vector}
use Rattle.grgrid.specs.Grid.{size, index}
use Rattle.bzgrid.specs.declared.GridType.{GridType}
use Rattle.bzgrid.specs.declared.GridType.TheVariants.{Sparse, Dense}
use Rattle.bzgrid.specs.Table.{doubled, empty}
use Rattle.bztable.specs.declared.reading.Table.{Table as Lent}
use Rattle.bztable.specs.Access.{image_places}
use Rattle.bztable.specs.Reading.{Read, address_at, place_at}
use Rattle.bzconvert.specs.Layout.{Table, all_below}

-- the three slices that the code walks
abbrev pub table_view : Lent → List ℤ → Table
table_view t grg = record { addresses = t.addresses.now; map = t.map.now; grg = grg }

-- what is read passes a test
abbrev pub if_read : {A : Type 0} → (A → Bool) → Read A → Bool
if_read f (Ok a) = f a
if_read f (Err r) = false

-- place i of a map or of the third table holds the number n
abbrev pub holds : List ℤ → ℕ → ℕ → Bool
holds l n i = if_read (λ v. eqb v n) (place_at l i)

-- the i-th address folds to p, on the grid d or on its doubled mesh
abbrev pub falls : Vec ℕ → List ℤ → ℕ → ℕ → Bool
falls d addresses p i = if_read (λ a. eqb (index d a) p) (address_at addresses i)

-- ---- the images of a point, which stand at the places l
abbrev pub image_stands : Vec ℕ → Table → ℕ → ℕ → Bool
image_stands d x p i = falls d x.addresses p i && holds x.grg p i

-- the i-th address and the j-th are not the same
abbrev pub apart : List ℤ → ℕ → ℕ → Bool
apart addresses i j = if_read (λ a. if_read (λ b. not (same_vector a b)) (address_at addresses j)) (address_at addresses i)

-- each of a list with each after it
abbrev pub pairwise : {A : Type 0} → (A → A → Bool) → List A → Bool
pairwise f [] = true
pairwise f (a ∷ l) = every (f a) l && pairwise f l

abbrev pub images_stand : Vec ℕ → Table → ℕ → List ℕ → Bool
images_stand d x p l = not (eqb (length l) 0) && (every (image_stands d x p) l && pairwise (apart x.addresses) l)

abbrev pub point_stands : GridType → Vec ℕ → Table → ℕ → Bool
point_stands t d x p = if_read (images_stand d x p) (image_places t x.map (size d) p)

-- ---- the map
-- where the count before the first point stands; no count falls where each point has images
abbrev pub first_count : GridType → ℕ → ℕ
first_count Sparse n = 8 * n
first_count Dense n = 0

-- the doubled mesh of m images
module _ (d : Vec ℕ) (x : Table) (m : ℕ) where
  -- an image that falls on place k
  abbrev pub image_falls : ℕ → ℕ → Bool
  image_falls k v = ltb v m && falls (doubled d) x.addresses k v

  -- place k holds 8 N, or an image that falls there
  abbrev pub mesh_holds : ℕ → Bool
  mesh_holds k = if_read (λ v. eqb v (empty d) || image_falls k v) (place_at x.map k)

  -- place k holds an image that falls there, and none before image i
  abbrev pub mesh_keeps : ℕ → ℕ → Bool
  mesh_keeps i k = if_read (λ v. leb i v && image_falls k v) (place_at x.map k)

  -- where image i falls
  abbrev pub mesh_finds : ℕ → Bool
  mesh_finds i = if_read (λ a. mesh_keeps i (index (doubled d) a)) (address_at x.addresses i)

  abbrev pub mesh_stands : GridType → Bool
  mesh_stands Sparse = all_below mesh_holds (empty d) && all_below mesh_finds m
  mesh_stands Dense = true

-- ---- all of it
abbrev pub by_places : GridType → Vec ℕ → Table → ℕ → Bool
by_places t d x m = all_below (point_stands t d x) (size d) && (holds x.map 0 (first_count t (size d)) && mesh_stands d x m t)
