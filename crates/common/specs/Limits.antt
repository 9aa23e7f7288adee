-- The limits in force and the lengths, as tests.
use Rattle.std.specs.Prelude.{Bool, true, ◌&&◌, List, [], ◌∷◌, ℕ, ◌*◌, ◌%◌, leb, eqb, ℤ, pos, nat_abs, length}
use Rattle.std.specs.Int.Signed.{le_z, lt_z}
use Rattle.common.specs.Matrix.{Mat, entry, all_axes}
use Rattle.common.specs.Array.{vector_of, sides_of}

-- of size at most k
abbrev pub within : ℕ → ℤ → Bool
within k z = leb (nat_abs z) k

abbrev pub all_within : ℕ → List ℤ → Bool
all_within k [] = true
all_within k (z ∷ l) = within k z && all_within k l

abbrev pub matrix_within : ℕ → Mat ℤ → Bool
matrix_within n m = all_axes (λ j. all_axes (λ k. within n (entry m j k)))

-- nine numbers a matrix
abbrev pub whole_matrices : List ℤ → Bool
whole_matrices l = eqb (length l % 9) 0

-- at most 192 rotations, with entries of size at most k
abbrev pub rotations_fit : ℕ → List ℤ → Bool
rotations_fit k l = leb (length l) 1728 && all_within k l

abbrev pub side_fits : ℤ → Bool
side_fits z = le_z (pos 1) z && le_z z (pos 256)

abbrev pub diagonal_fits : List ℤ → Bool
diagonal_fits d =
    let v = vector_of d in
    let s = sides_of d in
    (side_fits v.x && (side_fits v.y && side_fits v.z)) && leb (s.x * s.y * s.z) 65536

abbrev pub half_fits : ℤ → Bool
half_fits z = le_z (pos 0) z && le_z z (pos 1)

abbrev pub shift_fits : List ℤ → Bool
shift_fits ps = let v = vector_of ps in half_fits v.x && (half_fits v.y && half_fits v.z)

-- one of n points
abbrev pub point_fits : ℤ → ℤ → Bool
point_fits q n = le_z (pos 0) q && lt_z q n
