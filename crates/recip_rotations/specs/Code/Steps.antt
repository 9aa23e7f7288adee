-- What the steps of the code answer, and leave in the output.
use Rattle.std.specs.Prelude.{◌≡◌, Bool, ◌&&◌, List, ℕ, ◌+◌, leb, ℤ, pos, length, get_or, set, Result}
use Rattle.common.specs.declared.Refusal.{Refusal}
use Rattle.common.specs.Tested.{require, Tested, Accepted, giving}
use Rattle.common.specs.declared.Refusal.TheVariants.{TooManyRotations}
use Rattle.common.specs.Matrix.{Mat}
use Rattle.integer.specs.Same.{same}
use Rattle.recip_rotations.specs.Flat.{laid}

-- three numbers from place i of a list are those from place j of another
abbrev pub same_row : List ℤ → ℕ → List ℤ → ℕ → Bool
same_row a i b j =
    same (get_or a i (pos 0)) (get_or b j (pos 0))
    && (same (get_or a (i + 1) (pos 0)) (get_or b (j + 1) (pos 0)) && same (get_or a (i + 2) (pos 0)) (get_or b (j + 2) (pos 0)))

-- places i and j exchanged
abbrev pub swapped : List ℤ → ℕ → ℕ → List ℤ
swapped l i j = set (set l i (get_or l j (pos 0))) j (get_or l i (pos 0))

-- nine places from i on, transposed
abbrev pub transposed_at : List ℤ → ℕ → List ℤ
transposed_at l i = swapped (swapped (swapped l (i + 1) (i + 3)) (i + 2) (i + 6)) (i + 5) (i + 7)

-- room for 48
abbrev pub few : List (Mat ℤ) → Tested
few l = require (leb (length l) 48) TooManyRotations Accepted

-- l at the front of the output, so far as the tests t accept it
pub record Grouped (t : Tested) (l : List (Mat ℤ)) (before after : List ℤ) (r : Result ℕ Refusal) : Type 0 where
  pub answer : r ≡ giving t (length l)
  pub held : t ≡ Accepted → after ≡ laid l before
