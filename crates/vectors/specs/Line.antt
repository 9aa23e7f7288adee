-- A line is a list of numbers. A slice stands there as its length and its items; an output of over 432 places as its length and one number.
use Rattle.std.specs.Prelude.{◌≡◌, List, [], ◌∷◌, ℕ, ◌≤◌, cond, leb, ℤ, nat_abs, length, take, drop}

-- the length that a line starts with
abbrev pub size : List ℤ → ℕ
size [] = 0
size (x ∷ l) = nat_abs x

-- the items of the slice that a line starts with
abbrev pub items : List ℤ → List ℤ
items [] = []
items (x ∷ l) = take (nat_abs x) l

-- what stands after it
abbrev pub beyond : List ℤ → List ℤ
beyond [] = []
beyond (x ∷ l) = drop (nat_abs x) l

-- what stands after the output that a line starts with
abbrev pub beyond_output : List ℤ → List ℤ
beyond_output [] = []
beyond_output (x ∷ l) = drop (cond (leb (nat_abs x) 432) (nat_abs x) 1) l

-- the first n places of l, said so that lending them needs no proof
abbrev pub Front : {A : Type 0} → ℕ → List A → Type 0
Front n l = (n ≤ length l) × (n ≡ length (take n l))
