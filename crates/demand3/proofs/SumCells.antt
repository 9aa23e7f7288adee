-- Three addresses, of two points and of their partner, have a sum that leaves no remainder.
use mathlib.Core.Path.{◌≡◌, subst}
use mathlib.Core.List.{[], ◌∷◌}
use Prim.Native.Nat.{ℕ}
use lib.IntN.{ℤ, pos, neg_ℤ, ◌+ℤ◌, ◌-ℤ◌, ◌*ℤ◌}
use Rattle.integer.specs.Divides.{Congruent}
use Rattle.integer.proofs.Reify.{ring, reify}
use Rattle.integer.proofs.Congruence.{congruent-add}
use Rattle.common.specs.Matrix.{Axis, Vec, side, origin}
use Rattle.common.proofs.Matrix.{side-vector}
use Rattle.grgrid.specs.Grid.{index, cell}
use Rattle.grgrid.proofs.Folding.{Sides, Agree, agree-by, index_same, whole}
use Rattle.triplet_grid.specs.Partner.{third}
use Rattle.bz_triplets.specs.BzTriplets.{sum_of}

closing : (u v : ℤ) → u +ℤ v +ℤ (neg_ℤ u -ℤ v) ≡ pos 0
closing u v = ring (u ∷ v ∷ []) (search reify depth 40) tt

module _ (d : Vec ℕ) (s : Sides d) (a b c u v : Vec ℤ) (e : index d a ≡ index d u) (f : index d b ≡ index d v) (g : index d c ≡ index d (third u v)) where
  sum-agrees : Agree d (sum_of a b c) origin
  sum-agrees =
      let x = index_same d s a u e in
      let y = index_same d s b v f in
      let z = index_same d s c (third u v) g in
      agree-by (λ k. side a k +ℤ side b k +ℤ side c k) (λ k. pos 0) (λ k.
      subst (λ w. Congruent (pos (side d k)) (side a k +ℤ side b k +ℤ side c k) w) (closing (side u k) (side v k))
      (congruent-add (congruent-add (x.at k) (y.at k))
      (subst (λ w. Congruent (pos (side d k)) (side c k) w) (side-vector (λ k. neg_ℤ (side u k) -ℤ side v k) k) (z.at k))))

  pub whole-sum : (k : Axis) → side (sum_of a b c) k ≡ side (cell d (sum_of a b c)) k *ℤ pos (side d k)
  whole-sum = whole d s (sum_of a b c) sum-agrees
