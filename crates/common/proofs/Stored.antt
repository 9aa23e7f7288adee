-- What numbers stored one after the other leave in an output of as many places.
use mathlib.Core.Path.{◌≡◌, refl, ◌∙◌, ap}
use mathlib.Core.List.{List, [], ◌∷◌}
use Prim.Native.Nat.{ℕ, zero, suc}
use native.Mathlib.Omega.{arith}
use lib.IntN.{ℤ}
use lib.ListN.{length, set}

-- from place i on
abbrev stores : ℕ → (numbers b : List ℤ) → List ℤ
stores i [] b = b
stores i (z ∷ l) b = stores (suc i) l (set b i z)

stores-behind : (i : ℕ) (l : List ℤ) (x : ℤ) (b : List ℤ) → stores (suc i) l (x ∷ b) ≡ x ∷ stores i l b
stores-behind i [] x b = refl
stores-behind i (z ∷ l) x b = stores-behind (suc i) l x (set b i z)

all-stored : (l b : List ℤ) → length b ≡ length l → stores 0 l b ≡ l
all-stored [] [] e = refl
all-stored [] (x ∷ b) e = absurd (never (length b) e)
  where
    never : (n : ℕ) → suc n ≡ zero → ⊥
    never n e = omega arith
all-stored (z ∷ l) [] e = absurd (never (length l) e)
  where
    never : (n : ℕ) → zero ≡ suc n → ⊥
    never n e = omega arith
all-stored (z ∷ l) (x ∷ b) e = stores-behind 0 l z b ∙ ap (λ l. z ∷ l) (all-stored l b (less (length b) (length l) e))
  where
    less : (m n : ℕ) → suc m ≡ suc n → m ≡ n
    less m n e = omega arith

module _ (b : List ℤ) where
  pub stored : length b ≡ 1 → (z : ℤ) → set b 0 z ≡ z ∷ []
  stored e z = all-stored (z ∷ []) b e

  pub stored-two : length b ≡ 2 → (x y : ℤ) → set (set b 0 x) 1 y ≡ x ∷ y ∷ []
  stored-two e x y = all-stored (x ∷ y ∷ []) b e

  pub stored-three : length b ≡ 3 → (x y z : ℤ) → set (set (set b 0 x) 1 y) 2 z ≡ x ∷ y ∷ z ∷ []
  stored-three e x y z = all-stored (x ∷ y ∷ z ∷ []) b e

  pub stored-four : length b ≡ 4 → (w x y z : ℤ) → set (set (set (set b 0 w) 1 x) 2 y) 3 z ≡ w ∷ x ∷ y ∷ z ∷ []
  stored-four e w x y z = all-stored (w ∷ x ∷ y ∷ z ∷ []) b e
