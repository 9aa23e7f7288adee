-- The points of document 01 that are proved, as rows: what is computed, and what it comes to.
use mathlib.Core.Path.{◌≡◌, refl}
use mathlib.Core.List.{List, [], ◌∷◌}
use Prim.Native.Nat.{ℕ}
use lib.IntN.{ℤ, pos, negsuc}
use Rattle.common.specs.Matrix.{Vec, Mat, identity, inversion, origin}
use Rattle.grgrid.specs.Grid.{index, rotate}
use Rattle.grgrid.specs.ClassMap.{class_map_of, classes}

pub record Row : Type 0 where
  pub computed : List ℕ
  pub stated : List ℕ

abbrev Right : List Row → Type 0
Right [] = Unit {0}
Right (r ∷ rows) = (r.computed ≡ r.stated) × Right rows

abbrev d113 : Vec ℕ
d113 = record { x = 1; y = 1; z = 3 }

-- axes 0 and 1 exchanged
abbrev exchange : Mat ℤ
exchange = record { a = pos 0; b = pos 1; c = pos 0; d = pos 1; e = pos 0; f = pos 0; g = pos 0; h = pos 0; i = pos 1 }

abbrev table : List Row
table =
    record { computed = index d113 (record { x = pos 0; y = pos 0; z = negsuc 0 }) ∷ []; stated = 2 ∷ [] }
    -- halving downwards would give 1
    ∷ record { computed = rotate (record { x = 2; y = 2; z = 1 }) (record { x = pos 1; y = pos 0; z = pos 0 }) exchange 0 ∷ []; stated = 0 ∷ [] }
    ∷ record { computed = class_map_of d113 origin (identity ∷ inversion ∷ []); stated = 0 ∷ 1 ∷ 1 ∷ [] }
    ∷ record { computed = classes d113 origin (identity ∷ inversion ∷ []) ∷ []; stated = 2 ∷ [] }
    ∷ record { computed = class_map_of d113 origin []; stated = 0 ∷ 1 ∷ 2 ∷ [] }
    ∷ record { computed = classes d113 origin [] ∷ []; stated = 3 ∷ [] }
    ∷ []

points : Right table
unfolding index rotate class_map_of classes
points = (refl, (refl, (refl, (refl, (refl, (refl, tt))))))
