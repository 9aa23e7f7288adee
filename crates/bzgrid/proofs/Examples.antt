-- Worked examples of the definitions, by computation.
use mathlib.Core.Path.{◌≡◌, refl}
use mathlib.Core.List.{[], ◌∷◌, ◌++◌, map}
use lib.IntN.{ℤ, pos, negsuc}
use lib.ListN.{replicate}
use lib.Ieee.{binary64, round, add, sub, mul, div, neg, lt, of_int, of_bits, to_signed, size}
use Rattle.float.specs.Rounding.{round_of, nint_of, floor_of, ceil_of, abs_of}
use Rattle.float.specs.Sqrt.{root, sqrt_of}
use Rattle.common.specs.Matrix.{Vec, vector, identity, map_mat}
use Rattle.grgrid.specs.Grid.{address, index}
use Rattle.bzsearch.specs.Lattice.{bz_tolerance, lattice_det, dual_lengths_of}
use Rattle.bzsearch.specs.Search.{Span, Search, new_search, candidates, outside, images, split_reduced, reduced, distance, search_range, bound}
use Rattle.bzgrid.specs.Table.{images_at, dense_map, sparse_map}

abbrev at : ℤ → Span
at z = record { lo = z; hi = z }

abbrev along : ℤ → Vec ℤ
along z = record { x = z; y = pos 0; z = pos 0 }

-- ---- candidates, in the order of the Rust's `for_each_candidate`
few : candidates (record { x = record { lo = negsuc 0; hi = pos 1 }; y = at (pos 0); z = at (pos 0) }) ≡ map along (pos 0 ∷ pos 1 ∷ negsuc 0 ∷ [])
unfolding candidates outside
few = refl

-- those outside -2..2 come at the end, upwards
wide : candidates (record { x = record { lo = negsuc 2; hi = pos 3 }; y = at (pos 0); z = at (pos 0) })
    ≡ map along (pos 0 ∷ pos 1 ∷ pos 2 ∷ negsuc 1 ∷ negsuc 0 ∷ negsuc 2 ∷ pos 3 ∷ [])
unfolding candidates outside
wide = refl

-- the last axis runs fastest
nested : candidates (record { x = record { lo = pos 0; hi = pos 1 }; y = at (pos 0); z = record { lo = negsuc 0; hi = pos 0 } })
    ≡ record { x = pos 0; y = pos 0; z = pos 0 } ∷ record { x = pos 0; y = pos 0; z = negsuc 0 } ∷ record { x = pos 1; y = pos 0; z = pos 0 }
    ∷ record { x = pos 1; y = pos 0; z = negsuc 0 } ∷ []
unfolding candidates outside
nested = refl

-- a range without 0, and an empty one
above : candidates (record { x = record { lo = pos 1; hi = pos 3 }; y = at (pos 0); z = at (negsuc 0) })
    ≡ record { x = pos 1; y = pos 0; z = negsuc 0 } ∷ record { x = pos 2; y = pos 0; z = negsuc 0 } ∷ record { x = pos 3; y = pos 0; z = negsuc 0 } ∷ []
unfolding candidates outside
above = refl

none : candidates (record { x = at (pos 0); y = record { lo = pos 1; hi = pos 0 }; z = at (pos 0) }) ≡ []
unfolding candidates outside
none = refl

-- ---- document 01: d (2,1,1), identity Q and lattice
abbrev s : Search
s = new_search (record { x = 2; y = 1; z = 1 }) (vector (λ k. pos 0)) identity (map_mat (of_int binary64) identity)

-- one image of point 0, two of point 1; the starts of the dense table; the doubled mesh of 4, 2 and 2 with the places of the three images, and the counts of the others
point : (images s 0 ≡ along (pos 0) ∷ []) × (images s 1 ≡ along (negsuc 0) ∷ along (pos 1) ∷ []) × (dense_map (images_at s) 2 ≡ pos 0 ∷ pos 1 ∷ pos 3 ∷ [])
    × (sparse_map s.d (images_at s) ≡ (pos 0 ∷ pos 2 ∷ pos 16 ∷ pos 1 ∷ []) ++ replicate 12 (pos 16) ++ (pos 0 ∷ pos 0 ∷ pos 1 ∷ []))
unfolding images_at images split_reduced reduced address index candidates outside search_range distance bound bz_tolerance dual_lengths_of lattice_det nint_of round_of floor_of ceil_of abs_of sqrt_of root size round add sub mul div neg lt of_int of_bits to_signed
point = (refl, refl, refl, refl)
