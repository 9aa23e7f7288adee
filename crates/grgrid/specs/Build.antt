-- Lists written from the left: each place from its number and what stands before it, which is what a counted loop leaves in a slice; and list after list.
use Rattle.std.specs.Prelude.{List, [], ◌∷◌, ◌++◌, ℕ, zero, suc}

abbrev pub build : {A : Type 0} → (ℕ → List A → A) → ℕ → List A
build f zero = []
build f (suc n) = let done = build f n in done ++ (f n done ∷ [])

-- g 0, then g 1, .. , then g (n - 1)
abbrev pub concat : {A : Type 0} → (ℕ → List A) → ℕ → List A
concat g zero = []
concat g (suc n) = concat g n ++ g n
