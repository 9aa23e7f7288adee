-- The corner test by what the code keeps of each vector: the squared lengths for the lowest and for the highest inner products, and its weights times the widths.
use mathlib.Core.Bool.{cond}
use mathlib.Core.Path.{◌≡◌, refl, sym, ◌∙◌, ap}
use mathlib.Core.List.{[], ◌∷◌}
use native.Mathlib.Omega.{arith}
use lib.Dec.{T}
use lib.IntN.{ℤ, pos, ◌+ℤ◌, ◌*ℤ◌, ◌-ℤ◌}
use lib.Signed.{lt_z, ◌≤ℤ◌, ◌<ℤ◌, lt_z_yes, lt_z_no}
use Rattle.integer.proofs.Reify.{ring, reify}
use Rattle.integer.proofs.Parts.{ints}
use Rattle.integer.proofs.Order.{◌⊞◌, ◌⊠◌, slack, slack<, nonneg_pos, le-by}
use Rattle.integer.proofs.Test.{pick-cases}
use Rattle.common.specs.Matrix.{Vec}
use Rattle.bzsearch.specs.Search.{max_z}
use Rattle.mark_candidates.specs.InnerProducts.{Pair, sum_over, weight, length_squared, Ranges, ordered, gain, corner, most}
use Rattle.mark_candidates.proofs.CornerTest.{same_sum, sum-sum, sum-difference, in_order}

-- ---- 0 or more
above-0 : (x : ℤ) → pos 0 ≤ℤ x → max_z (pos 0) x ≡ x
above-0 x h = pick-cases (lt_z (pos 0) x) x (pos 0) (λ m. m ≡ x) (λ _. refl) (λ t. let k : x ≤ℤ pos 0 = lt_z_no t in omega (arith, ints))

below-0 : (x : ℤ) → x ≤ℤ pos 0 → max_z (pos 0) x ≡ pos 0
below-0 x h = pick-cases (lt_z (pos 0) x) x (pos 0) (λ m. m ≡ pos 0) (λ t. let k : pos 0 <ℤ x = lt_z_yes t in omega (arith, ints)) (λ _. refl)

-- ---- a term, of weights a and b and a range
module _ (a b low high : ℤ) (h : low ≤ℤ high) where
  abbrev lifted : ℤ
  lifted = max_z (pos 0) (a *ℤ (high -ℤ low) -ℤ b *ℤ (high -ℤ low))

  more : b ≤ℤ a → lifted ≡ a *ℤ (high -ℤ low) -ℤ b *ℤ (high -ℤ low)
  more k = above-0 (a *ℤ (high -ℤ low) -ℤ b *ℤ (high -ℤ low)) (le-by (slack k ⊠ slack h) (ring (a ∷ b ∷ low ∷ high ∷ []) (search reify depth 40) tt))

  less : a ≤ℤ b → lifted ≡ pos 0
  less k = below-0 (a *ℤ (high -ℤ low) -ℤ b *ℤ (high -ℤ low)) (le-by (slack k ⊠ slack h) (ring (a ∷ b ∷ low ∷ high ∷ []) (search reify depth 40) tt))

  most-term : (a -ℤ b) *ℤ cond (lt_z (pos 0) (a -ℤ b)) high low ≡ (a *ℤ low -ℤ b *ℤ low) +ℤ lifted
  most-term =
      pick-cases (lt_z (pos 0) (a -ℤ b)) high low (λ e. (a -ℤ b) *ℤ e ≡ (a *ℤ low -ℤ b *ℤ low) +ℤ lifted)
      (λ t. let k : pos 0 <ℤ (a -ℤ b) = lt_z_yes t in at_high ∙ ap (λ m. (a *ℤ low -ℤ b *ℤ low) +ℤ m) (sym (more (grows k))))
      (λ t. let k : (a -ℤ b) ≤ℤ pos 0 = lt_z_no t in at_low ∙ ap (λ m. (a *ℤ low -ℤ b *ℤ low) +ℤ m) (sym (less (falls k))))
    where
      grows : pos 0 <ℤ (a -ℤ b) → b ≤ℤ a
      grows k = le-by (slack< k ⊞ nonneg_pos 1) (ring (a ∷ b ∷ []) (search reify depth 40) tt)

      falls : (a -ℤ b) ≤ℤ pos 0 → a ≤ℤ b
      falls k = le-by (slack k) (ring (a ∷ b ∷ []) (search reify depth 40) tt)

      at_high : (a -ℤ b) *ℤ high ≡ (a *ℤ low -ℤ b *ℤ low) +ℤ (a *ℤ (high -ℤ low) -ℤ b *ℤ (high -ℤ low))
      at_high = ring (a ∷ b ∷ low ∷ high ∷ []) (search reify depth 40) tt

      at_low : (a -ℤ b) *ℤ low ≡ (a *ℤ low -ℤ b *ℤ low) +ℤ pos 0
      at_low = ring (a ∷ b ∷ low ∷ []) (search reify depth 40) tt

  -- the same with a and b exchanged
  least-term : (b -ℤ a) *ℤ cond (lt_z (pos 0) (b -ℤ a)) high low ≡ lifted -ℤ (a *ℤ high -ℤ b *ℤ high)
  least-term =
      pick-cases (lt_z (pos 0) (b -ℤ a)) high low (λ e. (b -ℤ a) *ℤ e ≡ lifted -ℤ (a *ℤ high -ℤ b *ℤ high))
      (λ t. let k : pos 0 <ℤ (b -ℤ a) = lt_z_yes t in at_high ∙ ap (λ m. m -ℤ (a *ℤ high -ℤ b *ℤ high)) (sym (less (falls k))))
      (λ t. let k : (b -ℤ a) ≤ℤ pos 0 = lt_z_no t in at_low ∙ ap (λ m. m -ℤ (a *ℤ high -ℤ b *ℤ high)) (sym (more (grows k))))
    where
      falls : pos 0 <ℤ (b -ℤ a) → a ≤ℤ b
      falls k = le-by (slack< k ⊞ nonneg_pos 1) (ring (a ∷ b ∷ []) (search reify depth 40) tt)

      grows : (b -ℤ a) ≤ℤ pos 0 → b ≤ℤ a
      grows k = le-by (slack k) (ring (a ∷ b ∷ []) (search reify depth 40) tt)

      at_high : (b -ℤ a) *ℤ high ≡ pos 0 -ℤ (a *ℤ high -ℤ b *ℤ high)
      at_high = ring (a ∷ b ∷ high ∷ []) (search reify depth 40) tt

      at_low : (b -ℤ a) *ℤ low ≡ (a *ℤ (high -ℤ low) -ℤ b *ℤ (high -ℤ low)) -ℤ (a *ℤ high -ℤ b *ℤ high)
      at_low = ring (a ∷ b ∷ low ∷ high ∷ []) (search reify depth 40) tt

-- ---- the six together
module _ (r : Ranges) (o : T (ordered r)) (v w : Vec ℤ) where
  abbrev pub lift : Pair → ℤ
  lift k = max_z (pos 0) (weight v k *ℤ (r.highest k -ℤ r.lowest k) -ℤ weight w k *ℤ (r.highest k -ℤ r.lowest k))

  abbrev apart : (Pair → ℤ) → Pair → ℤ
  apart g k = weight v k *ℤ g k -ℤ weight w k *ℤ g k

  lengths-apart : (g : Pair → ℤ) → sum_over (apart g) ≡ length_squared g v -ℤ length_squared g w
  lengths-apart g = sum-difference (λ k. weight v k *ℤ g k) (λ k. weight w k *ℤ g k)

  pub most-by : most r v w ≡ (length_squared r.lowest v -ℤ length_squared r.lowest w) +ℤ sum_over lift
  unfolding most
  most-by =
      same_sum (λ k. gain v w k *ℤ corner r v w k) (λ k. apart r.lowest k +ℤ lift k) (λ k. most-term (weight v k) (weight w k) (r.lowest k) (r.highest k) (in_order r o k))
      ∙ sum-sum (apart r.lowest) lift ∙ ap (λ d. d +ℤ sum_over lift) (lengths-apart r.lowest)

  pub least_by : most r w v ≡ sum_over lift -ℤ (length_squared r.highest v -ℤ length_squared r.highest w)
  unfolding most
  least_by =
      same_sum (λ k. gain w v k *ℤ corner r w v k) (λ k. lift k -ℤ apart r.highest k) (λ k. least-term (weight v k) (weight w k) (r.lowest k) (r.highest k) (in_order r o k))
      ∙ sum-difference lift (apart r.highest) ∙ ap (λ d. sum_over lift -ℤ d) (lengths-apart r.highest)
