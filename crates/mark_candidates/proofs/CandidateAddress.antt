-- A candidate stands at 2N times the reduced coordinates of the address that the image call makes of it, where the whole parts are the exact ones.
use mathlib.Core.Path.{◌≡◌, sym, ◌∙◌, ap, ap₂}
use mathlib.Core.List.{[], ◌∷◌}
use Prim.Native.Nat.{ℕ, ◌*◌}
use lib.Dec.{T, eqb→eq}
use lib.IntN.{ℤ, pos, nat_abs, ◌+ℤ◌, ◌*ℤ◌, ◌-ℤ◌}
use lib.Ieee.{Float}
use Rattle.integer.proofs.Reify.{ring, reify}
use Rattle.common.specs.Matrix.{Axis, X, Y, Z, Vec, Mat, side, entry, vector, dot, integers, det, inverse, ◌▹◌}
use Rattle.common.proofs.Matrix.{side-vector, apply-product, apply-identity}
use Rattle.common.proofs.Unimodular.{inverse-right}
use Rattle.grgrid.specs.Grid.{size, address}
use Rattle.bzsearch.specs.Search.{new_search, unimodular, set_bz_address}
use Rattle.mark_candidates.specs.ScaledCoordinates.{shares, scaled_grid, scaled, rounded, rest, rests, position}
use Rattle.mark_candidates.proofs.Rounding.{share-side}

module _ (d : Vec ℕ) (ps : Vec ℤ) (q : Mat ℤ) (t : T (unimodular q)) (p : ℕ) where
  abbrev n : ℤ
  n = pos (2 * size d)

  -- the exact whole parts
  abbrev pub whole : Vec ℤ
  whole = vector (λ k. rounded (size d) (side (scaled d ps q p) k))

  undo : (v : Vec ℤ) → q ▹ inverse q ▹ v ≡ v
  undo v = sym (apply-product q (inverse q) v) ∙ ap (λ m. m ▹ v) (inverse-right {A = q} (record { unit = eqb→eq (nat_abs (det q)) 1 t })) ∙ apply-identity v

  -- whole steps of the grid move the scaled coordinates by multiples of 2N
  grid-moved : (a e : Vec ℤ) → scaled_grid d ps (vector (λ k. side a k +ℤ side e k *ℤ pos (side d k))) ≡ vector (λ k. side (scaled_grid d ps a) k +ℤ n *ℤ side e k)
  grid-moved a e = λ i. record { x = at X i; y = at Y i; z = at Z i }
    where
      law : (a e d s h : ℤ) → ((a +ℤ e *ℤ d) *ℤ pos 2 +ℤ h) *ℤ s ≡ (a *ℤ pos 2 +ℤ h) *ℤ s +ℤ pos 2 *ℤ (s *ℤ d) *ℤ e
      law a e d s h = ring (a ∷ e ∷ d ∷ s ∷ h ∷ []) (search reify depth 40) tt

      one : (a e h : ℤ) (k : Axis) → ((a +ℤ e *ℤ pos (side d k)) *ℤ pos 2 +ℤ h) *ℤ pos (side (shares d) k) ≡ (a *ℤ pos 2 +ℤ h) *ℤ pos (side (shares d) k) +ℤ n *ℤ e
      one a e h k =
          law a e (pos (side d k)) (pos (side (shares d) k)) h
          ∙ ap (λ (m : ℕ). (a *ℤ pos 2 +ℤ h) *ℤ pos (side (shares d) k) +ℤ pos 2 *ℤ pos m *ℤ e) (share-side d k)

      at : (k : Axis) → ((side a k +ℤ side e k *ℤ pos (side d k)) *ℤ pos 2 +ℤ side ps k) *ℤ pos (side (shares d) k) ≡ (side a k *ℤ pos 2 +ℤ side ps k) *ℤ pos (side (shares d) k) +ℤ n *ℤ side e k
      at k = one (side a k) (side e k) (side ps k) k

  -- and so does Q
  matrix-moved : (v e : Vec ℤ) (j : Axis) → side (q ▹ vector (λ k. side v k +ℤ n *ℤ side e k)) j ≡ side (q ▹ v) j +ℤ n *ℤ side (q ▹ e) j
  matrix-moved v e j =
      side-vector (λ j. dot integers (entry q j) (side (vector (λ k. side v k +ℤ n *ℤ side e k)))) j
      ∙ law (entry q j X) (entry q j Y) (entry q j Z) v.x v.y v.z e.x e.y e.z n
      ∙ sym (ap₂ (λ a b. a +ℤ n *ℤ b) (side-vector (λ j. dot integers (entry q j) (side v)) j) (side-vector (λ j. dot integers (entry q j) (side e)) j))
    where
      law : (a b c x y z u v w n : ℤ) → a *ℤ (x +ℤ n *ℤ u) +ℤ b *ℤ (y +ℤ n *ℤ v) +ℤ c *ℤ (z +ℤ n *ℤ w) ≡ a *ℤ x +ℤ b *ℤ y +ℤ c *ℤ z +ℤ n *ℤ (a *ℤ u +ℤ b *ℤ v +ℤ c *ℤ w)
      law a b c x y z u v w n = ring (a ∷ b ∷ c ∷ x ∷ y ∷ z ∷ u ∷ v ∷ w ∷ n ∷ []) (search reify depth 40) tt

  module _ (lattice : Mat Float) (m : Vec ℤ) where
    abbrev away : Vec ℤ
    away = vector (λ k. side m k -ℤ side whole k)

    abbrev grid : Vec ℤ
    grid = scaled_grid d ps (address d p)

    back : (x n r m : ℤ) → x +ℤ n *ℤ (m -ℤ r) ≡ (x -ℤ n *ℤ r) +ℤ n *ℤ m
    back x n r m = ring (x ∷ n ∷ r ∷ m ∷ []) (search reify depth 40) tt

    left : (j : Axis) → side (q ▹ grid) j +ℤ n *ℤ side away j ≡ side (position (size d) (rests d ps q p) m) j
    unfolding rests scaled rest
    left X = back (side (scaled d ps q p) X) n (rounded (size d) (side (scaled d ps q p) X)) m.x
    left Y = back (side (scaled d ps q p) Y) n (rounded (size d) (side (scaled d ps q p) Y)) m.y
    left Z = back (side (scaled d ps q p) Z) n (rounded (size d) (side (scaled d ps q p) Z)) m.z

    at : (j : Axis) → side (q ▹ vector (λ k. side grid k +ℤ n *ℤ side (inverse q ▹ away) k)) j ≡ side (position (size d) (rests d ps q p) m) j
    at j = matrix-moved grid (inverse q ▹ away) j ∙ ap (λ v. side (q ▹ grid) j +ℤ n *ℤ side v j) (undo away) ∙ left j

    pub candidate-address : q ▹ scaled_grid d ps (set_bz_address (new_search d ps q lattice) (address d p) whole m) ≡ position (size d) (rests d ps q p) m
    candidate-address = ap (λ v. q ▹ v) (grid-moved (address d p) (inverse q ▹ away)) ∙ (λ i. record { x = at X i; y = at Y i; z = at Z i })
