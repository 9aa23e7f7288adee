-- What passes a test, of the numbers below n and of the members of a list; and rising lists.
use Rattle.std.specs.Prelude.{Bool, List, [], ◌∷◌, ◌++◌, ℕ, zero, suc, ◌<◌, cond}
use Rattle.grgrid.specs.Lists.{◌∈◌}

-- numbers, from the lowest up
abbrev pub picked : (ℕ → Bool) → ℕ → List ℕ
picked t zero = []
picked t (suc n) = picked t n ++ cond (t n) (n ∷ []) []

-- members, in the order of the list
abbrev pub passing : {A : Type 0} → (A → Bool) → List A → List A
passing t [] = []
passing t (x ∷ l) = cond (t x) (x ∷ passing t l) (passing t l)

abbrev pub Rising : List ℕ → Type 0
Rising [] = Unit {0}
Rising (x ∷ l) = ((y : ℕ) → y ∈ l → x < y) × Rising l
