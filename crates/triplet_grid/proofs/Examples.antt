-- The points of document 01 that are proved, as rows: the classes of triplets at q0 = 1 with swapping or without, and what they come to.
use mathlib.Core.Path.{◌≡◌, refl}
use mathlib.Core.Bool.{Bool, true, false}
use mathlib.Core.List.{List, [], ◌∷◌}
use Prim.Native.Nat.{ℕ}
use Rattle.common.specs.Matrix.{Vec, identity, inversion}
use Rattle.triplet_grid.specs.IrTriplets.{map_triplets_of, classes_at}

pub record Row : Type 0 where
  pub swappable : Bool
  pub stated : List ℕ

abbrev d113 : Vec ℕ
d113 = record { x = 1; y = 1; z = 3 }

abbrev Right : List Row → Type 0
Right [] = Unit {0}
Right (r ∷ rows) = (map_triplets_of r.swappable d113 1 (classes_at 1 d113 (identity ∷ inversion ∷ []) false) ≡ r.stated) × Right rows

abbrev table : List Row
table = record { swappable = true; stated = 0 ∷ 1 ∷ 0 ∷ [] } ∷ record { swappable = false; stated = 0 ∷ 1 ∷ 2 ∷ [] } ∷ []

points : Right table
unfolding map_triplets_of classes_at
points = (refl, (refl, tt))
