-- How a walk over the points writes the images, one after the other, each where there is room.
use Rattle.std.specs.Prelude.{Bool, ℕ, zero, suc, ◌+◌, ◌*◌, leb, ℤ, pos, length, set, replicate, drop, Float, cond}
use mathlib.Core.List.{List, [], ◌∷◌, ◌++◌, foldl}
use Rattle.std.specs.Float.Ieee.{lt}
use Rattle.common.specs.Matrix.{Vec}
use Rattle.common.specs.Array.{items, vector_of, row_at}
use Rattle.grgrid.specs.Grid.{size, index}
use Rattle.bzsearch.specs.Search.{Search, Split, distance, set_bz_address}
use Rattle.bzgrid.specs.Table.{Image, image_of}

-- the numbers xs, one after the other from place i on
abbrev pub put : List ℤ → ℕ → List ℤ → List ℤ
put l i [] = l
put l i (x ∷ xs) = put (set l i x) (suc i) xs

-- the k-th run of w places
unfoldable pub put_at : ℕ → List ℤ → ℕ → List ℤ → List ℤ
put_at w l k xs = cond (leb (w * k + w) (length l)) (put l (w * k) xs) l

-- two outputs, the place of the next image, and that of the one after it
pub record Tables : Type 0 where
  pub addresses : List ℤ
  pub grg : List ℤ
  pub at : ℕ
  pub next : ℕ

abbrev pub tables : List ℤ → List ℤ → ℕ → ℕ → Tables
tables a g k n = record { addresses = a; grg = g; at = k; next = n }

abbrev pub store : Tables → Image → Tables
store t x = tables (put_at 3 t.addresses t.at (items x.address)) (put_at 1 t.grg t.at (pos x.point ∷ [])) t.next (t.next + 1)

abbrev pub stored : Tables → List Image → Tables
stored t xs = foldl store t xs

-- a candidate of point i, at address a, is stored if it lies under the bound
abbrev pub keep : Search → ℕ → Vec ℤ → Split → Float → Tables → Vec ℤ → Tables
keep s i a p bound t m = cond (lt (distance s p.s0 m) bound) (store t (image_of i (set_bz_address s a p.nint m))) t

abbrev pub kept : Search → ℕ → Vec ℤ → Split → Float → Tables → List (Vec ℤ) → Tables
kept s i a p bound t ms = foldl (keep s i a p bound) t ms

-- ---- point by point: a dense table goes on where it stopped; a sparse one has the first image of point i at place i
abbrev pub restart : Bool → ℕ → Tables → Tables
restart sparse i t = cond sparse (tables t.addresses t.grg i t.at) (tables t.addresses t.grg t.at (t.at + 1))

abbrev pub written : Bool → (ℕ → List Image) → Tables → ℕ → Tables
written sparse g t zero = t
written sparse g t (suc i) = stored (restart sparse i (written sparse g t i)) (g i)

-- n in a sparse table: as the places below n, which are for the first images
abbrev pub if_sparse : Bool → ℕ → ℕ
if_sparse sparse n = cond sparse n 0

-- the counts of images before each of the first i points, from place `base` on
abbrev pub counted : (ℕ → ℕ) → ℕ → List ℤ → ℕ → List ℤ
counted f base l zero = l
counted f base l (suc i) = put_at 1 (counted f base l i) (base + i) (pos (f i) ∷ [])

-- ---- the doubled mesh, from the addresses as an output holds them: the k-th is placed after those below it
abbrev pub placed_flat : Vec ℕ → List ℤ → ℕ → List ℤ → List ℤ
placed_flat d l zero map = map
placed_flat d l (suc k) map = set (placed_flat d l k map) (index d (vector_of (row_at l (3 * k)))) (pos k)

-- in a sparse table the map begins with the mesh of d, which is doubled
abbrev pub with_mesh : Bool → Vec ℕ → List ℤ → ℕ → List ℤ → List ℤ
with_mesh sparse d l m map = cond sparse (placed_flat d l m (replicate (size d) (pos (size d))) ++ drop (size d) map) map
