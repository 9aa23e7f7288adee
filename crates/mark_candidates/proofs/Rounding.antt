-- The scaled coordinates mean what they say: 2N times the grid coordinates, rounded to the nearest whole number, halves away from zero.
use mathlib.Core.Path.{◌≡◌, refl, sym, ◌∙◌, ap, subst}
use mathlib.Core.Logic.{◌⊎◌, inl, inr, ⊎_elim}
use mathlib.Core.List.{[], ◌∷◌}
use Prim.Native.Nat.{ℕ, zero, suc, ◌*◌, ◌<◌, ◌≤◌, zero-le}
use native.Mathlib.Nat.{le_of_suc-le-suc, mul-le-mul_left}
use native.Mathlib.Omega.{arith}
use lib.Dec.{le→leb}
use lib.IntN.{ℤ, pos, negsuc, neg_ℤ, nat_abs, ◌+ℤ◌, ◌*ℤ◌, ◌-ℤ◌, *ℤ_comm}
use lib.Signed.{lt_z, ◌≤ℤ◌, ◌<ℤ◌, le_z_yes, lt_z_yes, lt_z_no, clash_ℤ, quot_z, rem_z}
use Rattle.integer.specs.Parts.{up, dn}
use Rattle.integer.proofs.Ring.{sub-eq-zero}
use Rattle.integer.proofs.Reify.{ring, reify}
use Rattle.integer.proofs.Parts.{ints, eq-parts, sum, difference, negative}
use Rattle.integer.proofs.Order.{nonneg-dn, nonneg_of, neg-up}
use Rattle.integer.proofs.Size.{abs_neg, abs-mul, abs-between, abs-parts}
use Rattle.integer.proofs.Division.{quot-rem, rem_lt, rem-sign, SameSign}
use Rattle.integer.proofs.Test.{pick-cases}
use Rattle.common.specs.Matrix.{Axis, X, Y, Z, Vec, side}
use Rattle.common.proofs.Matrix.{side-vector}
use Rattle.grgrid.specs.Grid.{size, double}
use Rattle.mark_candidates.specs.ScaledCoordinates.{shares, scaled_grid, rounded, Rounded, rest}

-- ---- 2N times the grid coordinates
pub share-side : (d : Vec ℕ) (k : Axis) → side (shares d) k * side d k ≡ size d
share-side d X = omega arith
share-side d Y = omega arith
share-side d Z = omega arith

-- scaled / 2N = (2a + ps) / 2d, both sides times 2N times 2d
pub grid-coordinate : (d : Vec ℕ) (ps a : Vec ℤ) (k : Axis) → side (scaled_grid d ps a) k *ℤ pos (2 * side d k) ≡ side (double a ps) k *ℤ pos (2 * size d)
grid-coordinate d ps a k =
    ap (λ t. t *ℤ pos (2 * side d k)) (side-vector (λ k. side (double a ps) k *ℤ pos (side (shares d) k)) k)
    ∙ times (side (double a ps) k) (pos (side (shares d) k)) (pos (side d k))
    ∙ ap (λ (n : ℕ). side (double a ps) k *ℤ (pos 2 *ℤ pos n)) (share-side d k)
  where
    times : (u s d : ℤ) → u *ℤ s *ℤ (pos 2 *ℤ d) ≡ u *ℤ (pos 2 *ℤ (s *ℤ d))
    times u s d = ring (u ∷ s ∷ d ∷ []) (search reify depth 40) tt

-- ---- the nearest whole number
one-part : (z : ℤ) → (up z ≡ 0) ⊎ (dn z ≡ 0)
one-part (pos n) = inr refl
one-part (negsuc n) = inl refl

sign_below : (y r : ℤ) → y <ℤ pos 0 → SameSign y r → up r ≡ 0
sign_below (pos y) r h s = clash_ℤ h (le_z_yes {a = pos 0} {b = pos y} (le→leb 0 y zero-le))
sign_below (negsuc y) r h s = omega (arith, (negative r).1, nonneg-dn s)

sign_above : (y r : ℤ) → pos 0 ≤ℤ y → SameSign y r → dn r ≡ 0
sign_above (pos y) r h s = nonneg-dn s
sign_above (negsuc y) r h s = absurd h.le

module _ (n : ℕ) (h : 0 < n) (z : ℤ) where
  abbrev w : ℤ
  w = pos (2 * n)

  -- z ± n is 2n·q and r, so z - 2n·q is r ∓ n
  abbrev Nearest : ℤ → Type 0
  Nearest p = (nat_abs (z -ℤ p) ≤ n) × (nat_abs (z -ℤ p) ≡ n → nat_abs z ≤ nat_abs p)

  below-0 : (p r : ℤ) → z <ℤ pos 0 → p +ℤ r ≡ z -ℤ pos n → up r ≡ 0 → nat_abs r < 2 * n → Nearest p
  below-0 p r l e s f = (
    le_of_suc-le-suc
        (abs-between (z -ℤ p) (suc n) (omega (arith, ints, neg-up l, eq-parts e, difference z (pos n), sum p r, difference z p, abs-parts r, abs-parts (z -ℤ p), abs-parts z, abs-parts p))),
    λ t. ⊎_elim
        (λ u. omega (arith, ints, neg-up l, eq-parts e, difference z (pos n), sum p r, difference z p, abs-parts r, abs-parts (z -ℤ p), abs-parts z, abs-parts p))
        (λ u. omega (arith, ints, neg-up l, eq-parts e, difference z (pos n), sum p r, difference z p, abs-parts r, abs-parts (z -ℤ p), abs-parts z, abs-parts p))
        (one-part (z -ℤ p)),
  )

  above-0 : (p r : ℤ) → pos 0 ≤ℤ z → p +ℤ r ≡ z +ℤ pos n → dn r ≡ 0 → nat_abs r < 2 * n → Nearest p
  above-0 p r l e s f = (
    le_of_suc-le-suc
        (abs-between (z -ℤ p) (suc n) (omega (arith, ints, nonneg-dn (nonneg_of l), eq-parts e, sum z (pos n), sum p r, difference z p, abs-parts r, abs-parts (z -ℤ p), abs-parts z, abs-parts p))),
    λ t. ⊎_elim
        (λ u. omega (arith, ints, nonneg-dn (nonneg_of l), eq-parts e, sum z (pos n), sum p r, difference z p, abs-parts r, abs-parts (z -ℤ p), abs-parts z, abs-parts p))
        (λ u. omega (arith, ints, nonneg-dn (nonneg_of l), eq-parts e, sum z (pos n), sum p r, difference z p, abs-parts r, abs-parts (z -ℤ p), abs-parts z, abs-parts p))
        (one-part (z -ℤ p)),
  )

  divided : (y : ℤ) → w *ℤ quot_z y w +ℤ rem_z y w ≡ y
  divided y = ap (λ t. t +ℤ rem_z y w) (*ℤ_comm w (quot_z y w)) ∙ quot-rem y w

  pub rounded-nearest : Rounded n z (rounded n z)
  rounded-nearest =
      pick-cases (lt_z z (pos 0)) (z -ℤ pos n) (z +ℤ pos n) (λ y. Rounded n z (quot_z y w))
      (λ t. let l : z <ℤ pos 0 = lt_z_yes t in
      let y = z -ℤ pos n in
      let m : y <ℤ pos 0 = omega (arith, ints, difference z (pos n)) in
      let g = below-0 (w *ℤ quot_z y w) (rem_z y w) l (divided y) (sign_below y (rem_z y w) m (rem-sign y w)) (rem_lt y w (omega arith)) in
      record { near = g.0; away = g.1 })
      (λ t. let l : pos 0 ≤ℤ z = lt_z_no t in
      let y = z +ℤ pos n in
      let m : pos 0 ≤ℤ y = omega (arith, ints, sum z (pos n)) in
      let g = above-0 (w *ℤ quot_z y w) (rem_z y w) l (divided y) (sign_above y (rem_z y w) m (rem-sign y w)) (rem_lt y w (omega arith)) in
      record { near = g.0; away = g.1 })

  pub rest-size : nat_abs (rest n z) ≤ n
  unfolding rest
  rest-size = rounded-nearest.near

-- ---- and it is the only one
-- a multiple of 2n that is not 0 is at least 2n
far-or-zero : (n : ℕ) (r : ℤ) → (r ≡ pos 0) ⊎ (2 * n ≤ nat_abs (pos (2 * n) *ℤ r))
far-or-zero n (pos zero) = inl refl
far-or-zero n (pos (suc r)) = inr (omega (arith, abs-mul (pos (2 * n)) (pos (suc r)), mul-le-mul_left {m = 1} {n = suc r} (2 * n) (omega arith)))
far-or-zero n (negsuc r) = inr (omega (arith, abs-mul (pos (2 * n)) (negsuc r), mul-le-mul_left {m = 1} {n = suc r} (2 * n) (omega arith)))

-- the difference turned round
flipped : (p o : ℤ) → (dn (o -ℤ p) ≡ up (p -ℤ o)) × (nat_abs (p -ℤ o) ≡ nat_abs (o -ℤ p))
flipped p o = (ap dn turn ∙ (negative (p -ℤ o)).1, sym (ap nat_abs turn ∙ abs_neg (p -ℤ o)))
  where
    turn : o -ℤ p ≡ neg_ℤ (p -ℤ o)
    turn = ring (o ∷ p ∷ []) (search reify depth 40) tt

module _ (n : ℕ) (h : 0 < n) where
  -- of z + n and z - n one lies nearer to zero than z, or within 2n of it
  low-tie : (z p o : ℤ) → dn z ≡ 0 → z -ℤ o ≡ pos n → nat_abs z ≤ nat_abs o → (nat_abs o ≡ 0) ⊎ (2 * n ≤ nat_abs o) → ⊥
  low-tie z p o d f b l =
      ⊎_elim (λ i. ⊎_elim (λ j. omega (arith, ints, eq-parts f, difference z o, abs-parts z, abs-parts o)) (λ j. omega (arith, ints, eq-parts f, difference z o, abs-parts z, abs-parts o)) l) (λ i. ⊎_elim (λ j. omega (arith, ints, eq-parts f, difference z o, abs-parts z, abs-parts o)) (λ j. omega (arith, ints, eq-parts f, difference z o, abs-parts z, abs-parts o)) l) (one-part o)

  high-tie : (z p o : ℤ) → up z ≡ 0 → z -ℤ p ≡ pos 0 -ℤ pos n → nat_abs z ≤ nat_abs p → (nat_abs p ≡ 0) ⊎ (2 * n ≤ nat_abs p) → ⊥
  high-tie z p o d e a k =
      ⊎_elim (λ i. ⊎_elim (λ j. omega (arith, ints, eq-parts e, difference z p, difference (pos 0) (pos n), abs-parts z, abs-parts p)) (λ j. omega (arith, ints, eq-parts e, difference z p, difference (pos 0) (pos n), abs-parts z, abs-parts p)) k) (λ i. ⊎_elim (λ j. omega (arith, ints, eq-parts e, difference z p, difference (pos 0) (pos n), abs-parts z, abs-parts p)) (λ j. omega (arith, ints, eq-parts e, difference z p, difference (pos 0) (pos n), abs-parts z, abs-parts p)) k) (one-part p)

  no_tie : (z p o : ℤ) → z -ℤ p ≡ pos 0 -ℤ pos n → z -ℤ o ≡ pos n → nat_abs z ≤ nat_abs p → nat_abs z ≤ nat_abs o
      → (nat_abs p ≡ 0) ⊎ (2 * n ≤ nat_abs p) → (nat_abs o ≡ 0) ⊎ (2 * n ≤ nat_abs o) → ⊥
  no_tie z p o e f a b k l = ⊎_elim (λ d. high-tie z p o d e a k) (λ d. low-tie z p o d f b l) (one-part z)

  multiple-cases : (r : ℤ) → (nat_abs (pos (2 * n) *ℤ r) ≡ 0) ⊎ (2 * n ≤ nat_abs (pos (2 * n) *ℤ r))
  multiple-cases r = ⊎_elim (λ e. inl (ap (λ r. nat_abs (pos (2 * n) *ℤ r)) e ∙ abs-mul (pos (2 * n)) (pos 0) ∙ nothing (2 * n))) inr (far-or-zero n r)
    where
      nothing : (m : ℕ) → m * 0 ≡ 0
      nothing m = omega arith

  -- two roundings of z whose multiples lie 2n apart
  apart : (z : ℤ) {r s : ℤ} → Rounded n z r → Rounded n z s → 2 * n ≤ nat_abs (pos (2 * n) *ℤ (r -ℤ s)) → ⊥
  apart z {r} {s} a b l = go (pos (2 * n) *ℤ r) (pos (2 * n) *ℤ s) a.near b.near a.away b.away (multiple-cases r) (multiple-cases s) (subst (λ t. 2 * n ≤ nat_abs t) (spread (pos (2 * n)) r s) l)
    where
      spread : (w r s : ℤ) → w *ℤ (r -ℤ s) ≡ w *ℤ r -ℤ w *ℤ s
      spread w r s = ring (w ∷ r ∷ s ∷ []) (search reify depth 40) tt

      -- p lies n above z, o lies n below
      ends : (p o : ℤ) → nat_abs (z -ℤ p) ≤ n → nat_abs (z -ℤ o) ≤ n → dn (p -ℤ o) ≡ 0 → 2 * n ≤ nat_abs (p -ℤ o) → (nat_abs (z -ℤ p) ≡ n) × (nat_abs (z -ℤ o) ≡ n) × (z -ℤ p ≡ pos 0 -ℤ pos n) × (z -ℤ o ≡ pos n)
      ends p o f g d l = (omega (arith, ints, difference p o, difference z p, difference z o, difference (pos 0) (pos n), abs-parts (p -ℤ o), abs-parts (z -ℤ p), abs-parts (z -ℤ o)), omega (arith, ints, difference p o, difference z p, difference z o, difference (pos 0) (pos n), abs-parts (p -ℤ o), abs-parts (z -ℤ p), abs-parts (z -ℤ o)), omega (arith, ints, difference p o, difference z p, difference z o, difference (pos 0) (pos n), abs-parts (p -ℤ o), abs-parts (z -ℤ p), abs-parts (z -ℤ o)), omega (arith, ints, difference p o, difference z p, difference z o, difference (pos 0) (pos n), abs-parts (p -ℤ o), abs-parts (z -ℤ p), abs-parts (z -ℤ o)))

      go : (p o : ℤ) → nat_abs (z -ℤ p) ≤ n → nat_abs (z -ℤ o) ≤ n → (nat_abs (z -ℤ p) ≡ n → nat_abs z ≤ nat_abs p) → (nat_abs (z -ℤ o) ≡ n → nat_abs z ≤ nat_abs o)
          → (nat_abs p ≡ 0) ⊎ (2 * n ≤ nat_abs p) → (nat_abs o ≡ 0) ⊎ (2 * n ≤ nat_abs o) → 2 * n ≤ nat_abs (p -ℤ o) → ⊥
      go p o f g x y i j l =
          ⊎_elim
          (λ d. let e = ends o p g f ((flipped p o).0 ∙ d) (rw (flipped p o).1 at l) in no_tie z o p e.2 e.3 (y e.0) (x e.1) j i)
          (λ d. let e = ends p o f g d l in no_tie z p o e.2 e.3 (x e.0) (y e.1) i j) (one-part (p -ℤ o))

  pub rounded-only : (z r : ℤ) → Rounded n z r → r ≡ rounded n z
  rounded-only z r a = ⊎_elim (sub-eq-zero r (rounded n z)) (λ l. absurd (apart z a (rounded-nearest n h z) l)) (far-or-zero n (r -ℤ rounded n z))
