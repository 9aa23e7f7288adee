-- Which tables could stand: the layouts of lists of images.
use Rattle.std.specs.Prelude.{◌≡◌, List, ℕ, ◌<◌, ℤ, T, length}
use Rattle.common.specs.Matrix.{Vec}
use Rattle.grgrid.specs.Grid.{size, index}
use Rattle.grgrid.specs.Lists.{◌∈◌, Distinct}
use Rattle.bzgrid.specs.declared.GridType.{GridType}
use Rattle.bztable.specs.Reading.{got}
use Rattle.bzconvert.specs.Layout.{Table, layout, list_at, table_read, told, could_stand}

-- to each point at least one image, each folding to it, none twice
pub record Good (d : Vec ℕ) (g : ℕ → List (Vec ℤ)) : Type 0 where
  pub some : (p : ℕ) → p < size d → 0 < length (g p)
  pub folds : (p : ℕ) → p < size d → {a : Vec ℤ} → a ∈ g p → index d a ≡ p
  pub once : (p : ℕ) → p < size d → Distinct (g p)

-- the counted places of a table are the layout of such lists
pub record Laid (t : GridType) (d : Vec ℕ) (x : Table) (m : ℕ) (g : ℕ → List (Vec ℤ)) : Type 0 where
  pub good : Good d g
  pub laid : told t d x m ≡ layout t d g

-- a table that can be read could stand exactly if there are such lists, and then they are those that are read
abbrev pub StandsExactly : Type 0
StandsExactly = (t : GridType) (d : Vec ℕ) (x : Table) (m : ℕ) → table_read t d x ≡ got m
    → (T (could_stand t d x m) → Laid t d x m (list_at t d x))
    × ((g : ℕ → List (Vec ℤ)) → Laid t d x m g → T (could_stand t d x m) × ((p : ℕ) → p < size d → list_at t d x p ≡ g p))
