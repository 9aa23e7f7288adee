-- The corner test is what it says: over all six numbers in the ranges the difference of two squared lengths is largest in one corner.
use mathlib.Core.Path.{◌≡◌, sym, ◌∙◌, ap, ap₂, subst}
use mathlib.Core.Bool.{Bool, ◌&&◌}
use mathlib.Core.List.{[], ◌∷◌}
use Prim.Native.Nat.{ℕ, zero, suc, ◌<◌}
use native.Mathlib.Nat.{not-suc-le-zero}
use native.Mathlib.Omega.{arith}
use lib.Dec.{T}
use lib.IntN.{ℤ, pos, neg_ℤ, ◌+ℤ◌, ◌*ℤ◌, ◌-ℤ◌}
use lib.Signed.{le_z, lt_z, ◌≤ℤ◌, ◌<ℤ◌, le_z_yes, lt_z_yes, lt_z_no}
use Rattle.integer.proofs.Ring.{one-*ℤ}
use Rattle.integer.proofs.Reify.{ring, reify}
use Rattle.integer.proofs.Parts.{ints, sum, difference}
use Rattle.integer.proofs.Order.{NonNeg, ◌⊞◌, ◌⊠◌, slack, slack<, nonneg_pos, le-by, lt_by}
use Rattle.integer.proofs.Test.{and_l, and_r, pick-cases}
use Rattle.common.specs.Matrix.{Vec}
use Rattle.mark_candidates.specs.InnerProducts.{Pair, XX, XY, XZ, YY, YZ, ZZ, all_pairs, sum_over, weight, length_squared, Ranges, ordered, InRanges, NeverLonger, Shorter, Narrower, gain, corner, most, never_longer, shorter}

-- ---- sums over the six
pub pairs_of : (f : Pair → Bool) → T (all_pairs f) → (k : Pair) → T (f k)
pairs_of f t XX = and_l (f XX) (f XY && f XZ) (and_l (f XX && (f XY && f XZ)) (f YY && (f YZ && f ZZ)) t)
pairs_of f t XY = and_l (f XY) (f XZ) (and_r (f XX) (f XY && f XZ) (and_l (f XX && (f XY && f XZ)) (f YY && (f YZ && f ZZ)) t))
pairs_of f t XZ = and_r (f XY) (f XZ) (and_r (f XX) (f XY && f XZ) (and_l (f XX && (f XY && f XZ)) (f YY && (f YZ && f ZZ)) t))
pairs_of f t YY = and_l (f YY) (f YZ && f ZZ) (and_r (f XX && (f XY && f XZ)) (f YY && (f YZ && f ZZ)) t)
pairs_of f t YZ = and_l (f YZ) (f ZZ) (and_r (f YY) (f YZ && f ZZ) (and_r (f XX && (f XY && f XZ)) (f YY && (f YZ && f ZZ)) t))
pairs_of f t ZZ = and_r (f YZ) (f ZZ) (and_r (f YY) (f YZ && f ZZ) (and_r (f XX && (f XY && f XZ)) (f YY && (f YZ && f ZZ)) t))

-- no lowest lies above its highest
pub in_order : (r : Ranges) → T (ordered r) → (k : Pair) → r.lowest k ≤ℤ r.highest k
in_order r t k = le_z_yes (pairs_of (λ k. le_z (r.lowest k) (r.highest k)) t k)

pub same_sum : (f h : Pair → ℤ) → ((k : Pair) → f k ≡ h k) → sum_over f ≡ sum_over h
same_sum f h e = ap₂ ◌+ℤ◌ (ap₂ ◌+ℤ◌ (ap₂ ◌+ℤ◌ (ap₂ ◌+ℤ◌ (ap₂ ◌+ℤ◌ (e XX) (e XY)) (e XZ)) (e YY)) (e YZ)) (e ZZ)

sum-le : (f h : Pair → ℤ) → ((k : Pair) → f k ≤ℤ h k) → sum_over f ≤ℤ sum_over h
sum-le f h e = add (add (add (add (add (e XX) (e XY)) (e XZ)) (e YY)) (e YZ)) (e ZZ)
  where
    add : {a b c d : ℤ} → a ≤ℤ b → c ≤ℤ d → (a +ℤ c) ≤ℤ (b +ℤ d)
    add {a} {b} {c} {d} p q = omega (arith, ints, sum a c, sum b d)

-- sums added up place by place
pub sum-sum : (f h : Pair → ℤ) → sum_over (λ k. f k +ℤ h k) ≡ sum_over f +ℤ sum_over h
sum-sum f h =
    let two = swap (f XX) (h XX) (f XY) (h XY) in
    let three = more (f XX +ℤ f XY) (h XX +ℤ h XY) XZ two in
    let four = more (f XX +ℤ f XY +ℤ f XZ) (h XX +ℤ h XY +ℤ h XZ) YY three in
    let five = more (f XX +ℤ f XY +ℤ f XZ +ℤ f YY) (h XX +ℤ h XY +ℤ h XZ +ℤ h YY) YZ four in
    more (f XX +ℤ f XY +ℤ f XZ +ℤ f YY +ℤ f YZ) (h XX +ℤ h XY +ℤ h XZ +ℤ h YY +ℤ h YZ) ZZ five
  where
    swap : (a b c d : ℤ) → (a +ℤ b) +ℤ (c +ℤ d) ≡ (a +ℤ c) +ℤ (b +ℤ d)
    swap a b c d = ring (a ∷ b ∷ c ∷ d ∷ []) (search reify depth 40) tt

    more : (a b : ℤ) (k : Pair) {s : ℤ} → s ≡ a +ℤ b → s +ℤ (f k +ℤ h k) ≡ (a +ℤ f k) +ℤ (b +ℤ h k)
    more a b k e = ap (λ t. t +ℤ (f k +ℤ h k)) e ∙ swap a b (f k) (h k)

pub sum-difference : (f h : Pair → ℤ) → sum_over (λ k. f k -ℤ h k) ≡ sum_over f -ℤ sum_over h
sum-difference f h = sum-sum f (λ k. neg_ℤ (h k)) ∙ ap (λ s. sum_over f +ℤ s) (law (h XX) (h XY) (h XZ) (h YY) (h YZ) (h ZZ))
  where
    law : (a b c d e z : ℤ) → neg_ℤ a +ℤ neg_ℤ b +ℤ neg_ℤ c +ℤ neg_ℤ d +ℤ neg_ℤ e +ℤ neg_ℤ z ≡ neg_ℤ (a +ℤ b +ℤ c +ℤ d +ℤ e +ℤ z)
    law a b c d e z = ring (a ∷ b ∷ c ∷ d ∷ e ∷ z ∷ []) (search reify depth 40) tt

sum-times : (n : ℤ) (f : Pair → ℤ) → n *ℤ sum_over f ≡ sum_over (λ k. n *ℤ f k)
sum-times n f = law n (f XX) (f XY) (f XZ) (f YY) (f YZ) (f ZZ)
  where
    law : (n a b c d e z : ℤ) → n *ℤ (a +ℤ b +ℤ c +ℤ d +ℤ e +ℤ z) ≡ n *ℤ a +ℤ n *ℤ b +ℤ n *ℤ c +ℤ n *ℤ d +ℤ n *ℤ e +ℤ n *ℤ z
    law n a b c d e z = ring (n ∷ a ∷ b ∷ c ∷ d ∷ e ∷ z ∷ []) (search reify depth 40) tt

-- ---- the difference of two squared lengths
abbrev excess : (Pair → ℤ) → Vec ℤ → Vec ℤ → ℤ
excess g v w = sum_over (λ k. gain v w k *ℤ g k)

excess-is : (g : Pair → ℤ) (v w : Vec ℤ) → excess g v w ≡ length_squared g v -ℤ length_squared g w
excess-is g v w =
    same_sum (λ k. gain v w k *ℤ g k) (λ k. weight v k *ℤ g k -ℤ weight w k *ℤ g k) (λ k. law (weight v k) (weight w k) (g k))
    ∙ sum-difference (λ k. weight v k *ℤ g k) (λ k. weight w k *ℤ g k)
  where
    law : (a b g : ℤ) → (a -ℤ b) *ℤ g ≡ a *ℤ g -ℤ b *ℤ g
    law a b g = ring (a ∷ b ∷ g ∷ []) (search reify depth 40) tt

module _ (r : Ranges) (v w : Vec ℤ) where
  -- at most that of the corner, term by term
  term : (n : ℕ) (g : Pair → ℤ) → InRanges r n g → (k : Pair) → (gain v w k *ℤ g k) ≤ℤ (pos n *ℤ (gain v w k *ℤ corner r v w k))
  term n g h k =
      pick-cases (lt_z (pos 0) (gain v w k)) (r.highest k) (r.lowest k) (λ e. (gain v w k *ℤ g k) ≤ℤ (pos n *ℤ (gain v w k *ℤ e)))
      (λ t. let p : pos 0 <ℤ gain v w k = lt_z_yes t in up (gain v w k) (g k) (pos n) (r.highest k) p (h.below k))
      (λ t. let p : gain v w k ≤ℤ pos 0 = lt_z_no t in down (gain v w k) (g k) (pos n) (r.lowest k) p (h.above k))
    where
      up : (c g n e : ℤ) → pos 0 <ℤ c → g ≤ℤ (n *ℤ e) → (c *ℤ g) ≤ℤ (n *ℤ (c *ℤ e))
      up c g n e p h = le-by ((slack< p ⊞ nonneg_pos 1) ⊠ slack h) (ring (c ∷ g ∷ n ∷ e ∷ []) (search reify depth 40) tt)

      down : (c g n e : ℤ) → c ≤ℤ pos 0 → (n *ℤ e) ≤ℤ g → (c *ℤ g) ≤ℤ (n *ℤ (c *ℤ e))
      down c g n e p h = le-by (slack p ⊠ slack h) (ring (c ∷ g ∷ n ∷ e ∷ []) (search reify depth 40) tt)

  bounded : (n : ℕ) (g : Pair → ℤ) → InRanges r n g → (length_squared g v -ℤ length_squared g w) ≤ℤ (pos n *ℤ most r v w)
  unfolding most
  bounded n g h =
      subst (λ e. e ≤ℤ (pos n *ℤ most r v w)) (excess-is g v w)
      (subst (λ e. excess g v w ≤ℤ e) (sym (sum-times (pos n) (λ k. gain v w k *ℤ corner r v w k)))
      (sum-le (λ k. gain v w k *ℤ g k) (λ k. pos n *ℤ (gain v w k *ℤ corner r v w k)) (term n g h)))

  -- ---- the tests hold: so do the words
  pub never-longer : T (never_longer r v w) → NeverLonger r v w
  never-longer t = record { always = always }
    where
      low : most r v w ≤ℤ pos 0
      low = le_z_yes t

      law : (a b n m : ℤ) → (a -ℤ b) ≤ℤ (n *ℤ m) → m ≤ℤ pos 0 → NonNeg n → a ≤ℤ b
      law a b n m h l p = le-by (slack h ⊞ p ⊠ slack l) (ring (a ∷ b ∷ n ∷ m ∷ []) (search reify depth 40) tt)

      always : (n : ℕ) (g : Pair → ℤ) → InRanges r n g → length_squared g v ≤ℤ length_squared g w
      always n g h = law (length_squared g v) (length_squared g w) (pos n) (most r v w) (bounded n g h) low (nonneg_pos n)

  pub is-shorter : T (shorter r v w) → Shorter r v w
  is-shorter t = record { always = always }
    where
      low : most r v w <ℤ pos 0
      low = lt_z_yes t

      -- n is 1 and p more
      law : (a b m : ℤ) (p : ℕ) → (a -ℤ b) ≤ℤ ((pos 1 +ℤ pos p) *ℤ m) → m <ℤ pos 0 → a <ℤ b
      law a b m p h l = lt_by (slack h ⊞ nonneg_pos p ⊠ (slack< l ⊞ nonneg_pos 1) ⊞ slack< l) (ring (a ∷ b ∷ m ∷ pos p ∷ []) (search reify depth 40) tt)

      always : (n : ℕ) (g : Pair → ℤ) → InRanges r n g → length_squared g v <ℤ length_squared g w
      always n g h = go n g h h.positive
        where
          go : (n : ℕ) (g : Pair → ℤ) → InRanges r n g → zero < n → length_squared g v <ℤ length_squared g w
          go zero g h p = absurd (not-suc-le-zero p)
          go (suc n) g h p = law (length_squared g v) (length_squared g w) (most r v w) n (subst (λ (m : ℕ). (length_squared g v -ℤ length_squared g w) ≤ℤ (pos m *ℤ most r v w)) (omega arith) (bounded (suc n) g h)) low

  -- ---- and conversely: the corner lies in the ranges
  module _ (t : T (ordered r)) where
    pub corner-in : InRanges r 1 (corner r v w)
    corner-in = record { positive = omega arith; above = λ k. (at k).0; below = λ k. (at k).1 }
      where
        at : (k : Pair) → ((pos 1 *ℤ r.lowest k) ≤ℤ corner r v w k) × (corner r v w k ≤ℤ (pos 1 *ℤ r.highest k))
        at k =
            rw (one-*ℤ (r.lowest k), one-*ℤ (r.highest k))
            (pick-cases (lt_z (pos 0) (gain v w k)) (r.highest k) (r.lowest k) (λ e. (r.lowest k ≤ℤ e) × (e ≤ℤ r.highest k))
            (λ _. let h = in_order r t k in (h, omega (arith, ints))) (λ _. let h = in_order r t k in (omega (arith, ints), h)))

    most-is : most r v w ≡ length_squared (corner r v w) v -ℤ length_squared (corner r v w) w
    unfolding most
    most-is = excess-is (corner r v w) v w

    pub longer-test : NeverLonger r v w → T (never_longer r v w)
    longer-test h = (below (length_squared (corner r v w) v) (length_squared (corner r v w) w) most-is (h.always 1 (corner r v w) corner-in)).le
      where
        below : (a b : ℤ) {m : ℤ} → m ≡ a -ℤ b → a ≤ℤ b → m ≤ℤ pos 0
        below a b e h = omega (arith, ints, difference a b)

    pub shorter-test : Shorter r v w → T (shorter r v w)
    shorter-test h = (below (length_squared (corner r v w) v) (length_squared (corner r v w) w) most-is (h.always 1 (corner r v w) corner-in)).lt
      where
        below : (a b : ℤ) {m : ℤ} → m ≡ a -ℤ b → a <ℤ b → m <ℤ pos 0
        below a b e h = omega (arith, ints, difference a b)

-- ---- narrower ranges hold fewer numbers
module _ {r s : Ranges} (h : Narrower r s) where
  narrower-in : (n : ℕ) (g : Pair → ℤ) → InRanges r n g → InRanges s n g
  narrower-in n g i = record {
    positive = i.positive;
    above = λ k. low (pos n) (s.lowest k) (r.lowest k) (g k) (nonneg_pos n) (h.above k) (i.above k);
    below = λ k. high (pos n) (s.highest k) (r.highest k) (g k) (nonneg_pos n) (h.below k) (i.below k);
  }
    where
      low : (n a b g : ℤ) → NonNeg n → a ≤ℤ b → (n *ℤ b) ≤ℤ g → (n *ℤ a) ≤ℤ g
      low n a b g p h k = le-by (slack k ⊞ p ⊠ slack h) (ring (n ∷ a ∷ b ∷ g ∷ []) (search reify depth 40) tt)

      high : (n a b g : ℤ) → NonNeg n → b ≤ℤ a → g ≤ℤ (n *ℤ b) → g ≤ℤ (n *ℤ a)
      high n a b g p h k = le-by (slack k ⊞ p ⊠ slack h) (ring (n ∷ a ∷ b ∷ g ∷ []) (search reify depth 40) tt)

  pub narrower-never-longer : {v w : Vec ℤ} → NeverLonger s v w → NeverLonger r v w
  narrower-never-longer l = record { always = λ n g i. l.always n g (narrower-in n g i) }

  pub narrower-shorter : {v w : Vec ℤ} → Shorter s v w → Shorter r v w
  narrower-shorter l = record { always = λ n g i. l.always n g (narrower-in n g i) }
