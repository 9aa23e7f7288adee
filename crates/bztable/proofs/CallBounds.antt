-- Sizes in an accepted call: the numbers of its images, and the squared lengths that its search compares.
use mathlib.Core.Path.{refl}
use mathlib.Core.List.Memᴰ.{head as here}
use mathlib.Core.List.{List, [], ◌∷◌}
use Prim.Native.Nat.{ℕ, ◌≤◌, ◌<◌}
use native.Mathlib.Nat.{not-suc-le-zero}
use lib.Dec.{T}
use lib.IntN.{ℤ, nat_abs}
use lib.Ieee.{Float, le}
use lib.ListN.{length}
use Rattle.float.specs.Value.{Bounded, zero_f}
use Rattle.common.specs.Matrix.{Axis, Vec, Mat, side, entry, inverse}
use Rattle.common.specs.Array.{vector_of, sides_of, matrix_of}
use Rattle.common.specs.Limits.{matrix_within, half_fits}
use Rattle.common.proofs.Matrix.{axes-of}
use Rattle.common.proofs.Bounds.{matrix-sizes}
use Rattle.common.proofs.Sized.{half-size}
use Rattle.grgrid.specs.Grid.{size, address}
use Rattle.grgrid.proofs.Accepted.{side-small, grid-fits}
use Rattle.grgrid.proofs.Lists.{◌∈◌}
use Rattle.bzgrid.specs.declared.Built.{Built}
use Rattle.bzsearch.specs.Search.{Search, grid_coordinate, images, distance, range_fits, unimodular}
use Rattle.bzgrid.specs.BzGridAddresses.{search_of}
use Rattle.bzsearch.proofs.Sizes.{inverse_within}
use Rattle.bzsearch.proofs.Coordinates.{coordinate-bounded, reduced-bounded, nint-sized, address_below}
use Rattle.bzsearch.proofs.CandidateSet.{candidate-size}
use Rattle.bzsearch.proofs.Images.{split_at, range_at, tried, image-made}
use Rattle.bzsearch.proofs.LatticeBounds.{s0-bounded, distance-length}
use Rattle.bzgrid.proofs.ImageBounds.{image-size}
use Rattle.bztable.proofs.AcceptedCall.{CallAccepted, call-sound, call-found}

inverse-size : (m : Mat ℤ) → T (matrix_within 1000 m) → T (unimodular m) → (j k : Axis) → nat_abs (entry (inverse m) j k) ≤ 2000000
inverse-size m t u = matrix-sizes 2000000 (inverse m) (inverse_within m t u)

module _ {d : List ℤ} {q : List (List ℤ)} {ps : List ℤ} {lattice : List (List Float)} {t : ℤ} {a b c : ℕ} {l : Built} (h : CallAccepted d q ps lattice t a b c l) (p : ℕ) (k : p < size (sides_of d)) where
  abbrev s : Search
  s = search_of d q ps lattice

  coordinates : (j : Axis) → Bounded 0 (grid_coordinate s (address (sides_of d) p) j)
  coordinates j =
      coordinate-bounded s (address (sides_of d) p) j (address_below (sides_of d) (grid-fits d h.input.grid) p k j) (side-small d h.input.grid j)
      (half-size (side (vector_of ps) j) (axes-of (λ j. half_fits (side (vector_of ps) j)) h.input.shift j))

  sizes : (i j : Axis) → nat_abs (entry (matrix_of q) i j) ≤ 1000
  sizes = matrix-sizes 1000 (matrix_of q) h.input.entries

  -- each number of an image
  pub call-image-size : {v : Vec ℤ} → v ∈ images s p → (j : Axis) → nat_abs (side v j) ≤ 10000000000000
  call-image-size =
      image-size s (inverse-size (matrix_of q) h.input.entries h.input.unit) (side-small d h.input.grid) (call-sound h).sides p k
      (nint-sized s (address (sides_of d) p) coordinates sizes)

  -- the range was searched
  pub call-range : T (range_fits (range_at s p))
  call-range = go (images s p) (λ v m. (image-made s p m).fits) (call-found h p k)
    where
      go : (l : List (Vec ℤ)) → ((v : Vec ℤ) → v ∈ l → T (range_fits (range_at s p))) → 0 < length l → T (range_fits (range_at s p))
      go [] f g = absurd (not-suc-le-zero g)
      go (v ∷ l) f g = f v (here refl)

  -- each squared length is a number and not below zero
  pub call-distance : {m : Vec ℤ} → m ∈ tried s p → Bounded 74 (distance s (split_at s p).s0 m) × T (le zero_f (distance s (split_at s p).s0 m))
  call-distance {m} i =
      distance-length s h.input.bounded (split_at s p).s0 (s0-bounded s (address (sides_of d) p) (reduced-bounded s (address (sides_of d) p) coordinates sizes)) m
      (candidate-size (range_at s p) call-range m i)
