-- What a walk over all points leaves.
use Rattle.std.specs.Prelude.{◌≡◌, Bool, List, ℕ, suc, ◌+◌, ◌*◌, ◌≤◌, ℤ, negsuc, length, replicate, Result, Ok, Option, Some, None, cond}
use Rattle.common.specs.Tested.{require}
use Rattle.common.specs.declared.Refusal.{Refusal}
use Rattle.common.specs.declared.Refusal.TheVariants.{OtherSizes, WrongLength}
use Rattle.common.specs.Matrix.{Vec}
use Rattle.grgrid.specs.Grid.{size}
use Rattle.grgrid.specs.Sides.{GridFits}
use Rattle.bzgrid.specs.declared.Lengths.{Lengths}
use Rattle.grgrid.specs.Build.{concat}
use Rattle.bzgrid.specs.Table.{Image, others, doubled}
use Rattle.bzgrid.specs.BzGridAddresses.{all_found, as_told, has_room}
use Rattle.bzgrid.specs.Code.Writing.{Tables, tables, if_sparse, written, counted}

-- the images of a point that do not stand at its own place
abbrev pub later : Bool → (ℕ → List Image) → ℕ → List Image
later sparse g i = cond sparse (others g i) (g i)

-- how many there are of the points below i
abbrev pub before : Bool → (ℕ → List Image) → ℕ → ℕ
before sparse g i = length (concat (later sparse g) i)

-- how many images there are, or that a point has none
abbrev pub walk_of : Bool → (ℕ → List Image) → ℕ → Option ℕ
walk_of sparse g n = cond (all_found g n) (Some (if_sparse sparse n + before sparse g n)) None

abbrev pub images_in : Option ℕ → ℕ
images_in (Some m) = m
images_in None = 0

-- outputs a and b after the first i points
abbrev pub after : Bool → (ℕ → List Image) → ℕ → List ℤ → List ℤ → ℕ → Tables
after sparse g n a b i = written sparse g (tables a b (if_sparse sparse n) 0) i

-- an output of n places before the walk
abbrev pub blank : ℕ → List ℤ
blank n = replicate n (negsuc 0)

pub record WrittenTo (sparse : Bool) (g : ℕ → List Image) (n base : ℕ) (a m b a' m' b' : List ℤ) : Type 0 where
  pub addresses : a' ≡ (after sparse g n a b n).addresses
  pub grg : b' ≡ (after sparse g n a b n).grg
  pub map : m' ≡ counted (before sparse g) base m (suc n)

-- ---- m images of n points, and what a call that has found them answers
abbrev pub lengths_for : Bool → ℕ → ℕ → Lengths
lengths_for sparse n m = record { addresses = 3 * m; map = if_sparse sparse (8 * n) + (n + 1); grg = m }

abbrev pub judged : Option (List ℤ) → Lengths → ℕ → ℕ → ℕ → Result Lengths Refusal
judged n l x y z = require (as_told n l) OtherSizes (require (has_room l x y z) WrongLength (Ok l))

-- a grid within the limits, and its doubled mesh
pub record MeshFits (d : Vec ℕ) : Type 0 where
  pub grid : GridFits d
  pub mesh : GridFits (doubled d)
  pub small : (d.x ≤ 256) × (d.y ≤ 256) × (d.z ≤ 256)
  pub few : size d ≤ 65536
