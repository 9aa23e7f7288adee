-- The exact case of `transform_rotations`: where det Q is 1 or -1 the call, which works in f64, accepts and returns what exact arithmetic would.
use Rattle.std.specs.Prelude.{◌≡◌, ◌↔◌, List, map, ℕ, ℤ}
use Rattle.common.specs.Tested.{Accepted}
use Rattle.common.specs.Matrix.{Vec, Mat, ◌·◌, diagonal, inverse, Unimodular}
use Rattle.common.specs.Array.{vector_of, matrix_of, matrices, flat}
use Rattle.grgrid.specs.Lists.{◌∈◌}
use Rattle.transform_rotations.specs.Transform.{transform_d, rounded}
use Rattle.transform_rotations.specs.TransformRotations.{input_tests, transform_rotations}

-- The nine fractions of R are the whole numbers of M. The fraction at (j, k) is the entry of Q⁻¹·R·Q times dj over dk, so that M is D·Q⁻¹·R·Q·D⁻¹.
abbrev pub Fractions : Vec ℤ → Mat ℤ → Mat ℤ → Mat ℤ → Type 0
Fractions d q r m = m · diagonal d ≡ diagonal d · (inverse q · r · q)

-- what the call makes of R
abbrev pub transform_of : Vec ℤ → Mat ℤ → Mat ℤ → Mat ℤ
transform_of d q r = rounded (transform_d d q r)

module _ (rotations d : List ℤ) (q : List (List ℤ)) (n : ℕ) where
  -- R and M, of the call's d and Q
  abbrev pub Exact : Mat ℤ → Mat ℤ → Type 0
  Exact r m = Fractions (vector_of d) (matrix_of q) r m

  pub record ExactTransform : Type 0 where
    -- past the tests of the input, it accepts exactly if the fractions of each rotation are whole
    pub accepts : input_tests rotations d q n ≡ Accepted
        → ((transform_rotations rotations d q n).answer ≡ Accepted) ↔ ((r : Mat ℤ) → r ∈ matrices rotations → (m : Mat ℤ) × Exact r m)
    -- and then returns for each rotation, in order, the matrix that has these fractions
    pub returns : (transform_rotations rotations d q n).answer ≡ Accepted
        → (transform_rotations rotations d q n).out ≡ flat (map (transform_of (vector_of d) (matrix_of q)) (matrices rotations))
    pub exact : (transform_rotations rotations d q n).answer ≡ Accepted
        → (r : Mat ℤ) → r ∈ matrices rotations → Exact r (transform_of (vector_of d) (matrix_of q) r)

abbrev pub EveryTransform : Type 0
EveryTransform = (rotations d : List ℤ) (q : List (List ℤ)) (n : ℕ) → Unimodular (matrix_of q) → ExactTransform rotations d q n
