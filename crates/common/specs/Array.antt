-- Vectors and matrices as the code holds them: arrays by value, and the matrices of a lent list, nine numbers each by rows.
use Rattle.std.specs.Prelude.{List, [], ◌∷◌, ℕ, zero, suc, ◌+◌, ◌*◌, ◌/◌, ◌≤◌, ℤ, pos, nat_abs, get_or, length}
use Rattle.common.specs.Matrix.{Axis, X, Y, Z, Vec, Mat, vector, matrix, entries, map_vec, dot, integers}

abbrev pub axis_index : Axis → ℕ
axis_index X = 0
axis_index Y = 1
axis_index Z = 2

-- what an array or a nested array holds, and `none` where there is no such place
module _ {A : Type 0} (none : A) where
  -- the number along an axis
  abbrev pub along_or : List A → Axis → A
  along_or l k = get_or l (axis_index k) none

  abbrev pub vector_or : List A → Vec A
  vector_or l = vector (along_or l)

  abbrev pub matrix_or : List (List A) → Mat A
  matrix_or m = matrix (λ j k. get_or (get_or m (axis_index j) []) (axis_index k) none)

  -- three numbers of a list
  abbrev pub row_at_or : List A → ℕ → List A
  row_at_or l n = get_or l n none ∷ get_or l (n + 1) none ∷ get_or l (n + 2) none ∷ []

  -- matrix n of a list
  abbrev pub matrix_at_or : List A → ℕ → Mat A
  matrix_at_or l n = matrix (λ j k. get_or l (n * 9 + axis_index j * 3 + axis_index k) none)

abbrev pub along : List ℤ → Axis → ℤ
along = along_or (pos 0)

abbrev pub vector_of : List ℤ → Vec ℤ
vector_of = vector_or (pos 0)

-- the diagonal numbers, which are positive
abbrev pub sides_of : List ℤ → Vec ℕ
sides_of d = map_vec nat_abs (vector_of d)

abbrev pub items : {A : Type 0} → Vec A → List A
items v = v.x ∷ v.y ∷ v.z ∷ []

abbrev pub matrix_of : List (List ℤ) → Mat ℤ
matrix_of = matrix_or (pos 0)

abbrev pub rows : {A : Type 0} → Mat A → List (List A)
rows m = (m.a ∷ m.b ∷ m.c ∷ []) ∷ (m.d ∷ m.e ∷ m.f ∷ []) ∷ (m.g ∷ m.h ∷ m.i ∷ []) ∷ []

abbrev pub row_at : List ℤ → ℕ → List ℤ
row_at = row_at_or (pos 0)

abbrev pub matrix_at : List ℤ → ℕ → Mat ℤ
matrix_at = matrix_at_or (pos 0)

-- the next m, from matrix n on
abbrev pub matrices_from : List ℤ → ℕ → ℕ → List (Mat ℤ)
matrices_from l n zero = []
matrices_from l n (suc m) = matrix_at l n ∷ matrices_from l (suc n) m

abbrev pub matrices : List ℤ → List (Mat ℤ)
matrices l = matrices_from l 0 (length l / 9)

-- the list of such matrices
abbrev pub flat : List (Mat ℤ) → List ℤ
flat [] = []
flat (m ∷ l) = entries m (flat l)

abbrev pub dot_of : List ℤ → List ℤ → ℤ
dot_of a b = dot integers (along a) (along b)

-- ---- sizes: each entry at most k
pub record Sized (k : ℕ) (l : List ℤ) : Type 0 where
  pub each : (n : ℕ) → nat_abs (get_or l n (pos 0)) ≤ k

pub record SizedRows (k : ℕ) (m : List (List ℤ)) : Type 0 where
  pub each : (n : ℕ) → Sized k (get_or m n [])
