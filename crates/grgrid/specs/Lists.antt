-- Membership, and lists with no repeats.
use mathlib.Core.List.{List, [], ◌∷◌, Memᴰ as Mem}

infix 4 ◌∈◌
abbrev pub ◌∈◌ : {A : Type 0} → A → List A → Type 0
x ∈ l = Mem x l

abbrev pub Distinct : {A : Type 0} → List A → Type 0
Distinct [] = Unit {0}
Distinct (x ∷ l) = (¬ (x ∈ l)) × Distinct l
