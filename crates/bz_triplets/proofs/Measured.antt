-- How the sums of a triplet call are measured, from the numbers that it is given.
use mathlib.Core.Path.{◌≡◌, refl}
use mathlib.Core.List.{List, [], ◌∷◌}
use lib.Dec.{T}
use lib.IntN.{ℤ, negsuc}
use lib.ListN.{get_or}
use lib.Ieee.{Float, binary64, neg, div, of_bits, of_int, round}
use Rattle.common.specs.Matrix.{Mat, entry, entries, matrix, product_over}
use Rattle.common.specs.Array.{sides_of, matrix_of, rows}
use Rattle.common.specs.FloatMatrix.{floats, float_matrix, row_d, to_floats, matmul_d}
use Rattle.common.specs.Limits.{diagonal_fits}
use Rattle.bzsearch.specs.Lattice.{bz_tolerance}
use Rattle.bzsearch.specs.SearchView.{float_nine}
use Rattle.bzsearch.proofs.Sizes.{side-whole}
use Rattle.bz_triplets.specs.declared.choices.Measure.{Measure}
use Rattle.bz_triplets.specs.BzTriplets.{lqd_inv, walk_of}
use Rattle.bz_triplets.specs.Code.TripletsView.{row_over, walk_by}

-- the rows of lattice · Q, each over the diagonal numbers
abbrev rows_over : List (List Float) → List Float → List (List Float)
rows_over m s = row_over (get_or m 0 []) s ∷ row_over (get_or m 1 []) s ∷ row_over (get_or m 2 []) s ∷ []

pub lqd-rows : (lattice : List (List Float)) (q : List (List ℤ)) (d : List ℤ) → T (diagonal_fits d)
    → entries (float_matrix (rows_over (matmul_d lattice (rows (to_floats q))) (row_d d))) [] ≡ entries (lqd_inv (float_matrix lattice) (matrix_of q) (sides_of d)) []
unfolding lqd_inv
lqd-rows lattice q d t =
    λ i. entries (matrix (λ j k. div binary64 (entry (product_over floats (float_matrix lattice) (to_floats q)) j k) (of_int binary64 (side-whole d t k i)))) []

pub nine-entries : (m : Mat Float) → float_nine (entries m []) ≡ m
nine-entries m = refl

pub measured : (addresses d : List ℤ) (q : List (List ℤ)) (lattice : List (List Float)) (m : Measure)
    → float_nine m.lqd ≡ lqd_inv (float_matrix lattice) (matrix_of q) (sides_of d) → m.tolerance ≡ bz_tolerance (float_matrix lattice) (sides_of d)
    → walk_by m addresses ≡ walk_of addresses d q lattice
measured addresses d q lattice m e f = λ i. record { lqd = e i; tolerance = f i; addresses = addresses }

-- what a refusal leaves in an output of lengths
pub minus-one-literal : neg (of_bits binary64 0x3ff0000000000000) ≡ of_int binary64 (negsuc 0)
unfolding neg of_bits of_int round
minus-one-literal = refl
