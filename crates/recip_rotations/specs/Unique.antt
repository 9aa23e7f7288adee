-- The distinct matrices of a list, in the order in which each comes first.
use Rattle.std.specs.Prelude.{Bool, true, false, ℤ}
use mathlib.Core.List.{List, [], ◌∷◌, ◌++◌, foldl}
use Rattle.integer.specs.Same.{same}
use Rattle.common.specs.Matrix.{Mat, entry, all_axes}

abbrev pub same_matrix : Mat ℤ → Mat ℤ → Bool
same_matrix m n = all_axes (λ j. all_axes (λ k. same (entry m j k) (entry n j k)))

abbrev pub among : Mat ℤ → List (Mat ℤ) → Bool
among m [] = false
among m (n ∷ l) = elim (same_matrix m n) [ true ↦ true | false ↦ among m l ]

-- m at the end, unless it is there already
abbrev pub with_new : List (Mat ℤ) → Mat ℤ → List (Mat ℤ)
with_new l m = elim (among m l) [ true ↦ l | false ↦ l ++ (m ∷ []) ]

abbrev pub unique : List (Mat ℤ) → List (Mat ℤ)
unique l = foldl with_new [] l
