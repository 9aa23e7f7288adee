-- The entries of a class map that equal their own place.
use Rattle.std.specs.Prelude.{Bool, true, false, List, ℕ, zero, suc, eqb, ℤ, pos, negsuc, get_or}
use Rattle.grgrid.specs.Picked.{picked}

abbrev pub is_place : ℤ → ℕ → Bool
is_place (pos m) n = eqb m n
is_place (negsuc m) n = false

-- how many there are among the first n
abbrev pub own_places : List ℤ → ℕ → ℕ
own_places l zero = 0
own_places l (suc n) = let r = own_places l n in elim (is_place (get_or l n (pos 0)) n) [ true ↦ suc r | false ↦ r ]

-- which they are, from the lowest up
abbrev pub own_points : List ℤ → ℕ → List ℕ
own_points l n = picked (λ p. is_place (get_or l p (pos 0)) p) n
