-- The class map: point by point upwards, the first map that lands lower gives that point's number; else the point keeps its own.
use Rattle.std.specs.Prelude.{◌≡◌, true, false, List, [], ◌∷◌, map, ℕ, ◌≤◌, ◌<◌, ltb, ℤ, pos, nat_abs, get_or, Option, None, Some}
use Rattle.common.specs.Matrix.{Vec, Mat}
use Rattle.grgrid.specs.Grid.{size, rotate}
use Rattle.grgrid.specs.Build.{build}
use Rattle.grgrid.specs.Own.{own_places}

-- where the first map that carries p lower carries it
abbrev pub first_lower : List (ℕ → ℕ) → ℕ → Option ℕ
first_lower [] p = None
first_lower (g ∷ gs) p = elim (ltb (g p) p) [ true ↦ Some (g p) | false ↦ first_lower gs p ]

-- the number of p, where `done` holds those of the points below it
abbrev pub number : List (ℕ → ℕ) → ℕ → List ℕ → ℕ
number gs p done = elim (first_lower gs p) [ Some q ↦ get_or done q 0 | None ↦ p ]

-- the numbers of the points below n
abbrev pub pass : List (ℕ → ℕ) → ℕ → List ℕ
pass gs n = build (number gs) n

unfoldable pub class_map_of : Vec ℕ → Vec ℤ → List (Mat ℤ) → List ℕ
unfolding rotate
class_map_of d ps rotations = pass (map (rotate d ps) rotations) (size d)

-- how many points keep their own number
unfoldable pub classes : Vec ℕ → Vec ℤ → List (Mat ℤ) → ℕ
unfolding class_map_of
classes d ps rotations = own_places (map pos (class_map_of d ps rotations)) (size d)

-- a class map as a slice holds it: no number lies above its point, and each is that of a point with its own
pub record Numbered (n : ℕ) (l : List ℤ) : Type 0 where
  pub natural : l ≡ map pos (map nat_abs l)
  pub low : (p : ℕ) → p < n → get_or (map nat_abs l) p 0 ≤ p
  pub own : (p : ℕ) → p < n → get_or (map nat_abs l) (get_or (map nat_abs l) p 0) 0 ≡ get_or (map nat_abs l) p 0
