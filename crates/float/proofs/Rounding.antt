-- Rounding to whole numbers: `round_of`, `floor_of` and `ceil_of` are exact, and leave a whole number as it is.
use Rattle.std.proofs.Common.{◌≡◌, ℕ, zero, suc, ◌+◌, ◌-◌, ◌*◌, ◌^◌, ◌<◌, ◌≤◌, Bool, true, false, cond, not, T, ℤ, pos, negsuc, sym, refl, ap, ◌∙◌, subst, le_trans, le_refl, lt_irrefl, mod-lt, mul-le-mul, div-add-mod', arith, lit<, lit≤, pow_pos}
use native.Mathlib.Nat.{pow-succ', div-eq_of_lt-le}
use lib.Ieee.{Float, nan, inf, fin, binary64, up, down, neg, fits}
use lib.Ieee.Fits.{down_pos, round-fits}
use lib.Ieee.Exact.{HasValue}
use lib.Ieee.Back.{round_whole}
use lib.Ieee.Scale.{finite}
use lib.Ieee.Positive.{num, den}
use Rattle.float.specs.Rounding.{whole_below, whole_above, whole_nearest, signed, round_of, floor_of, ceil_of}
use Rattle.float.specs.CorrectRounding.{Below, Above, Nearest}
use Rattle.float.proofs.Sign.{neg-neg}
use Rattle.float.proofs.Rounds.{round-neg, round-self, unique, fits-says}

-- ---- a / c to a whole number, by its quotient q and remainder r
module _ (a c q r : ℕ) (e : a ≡ q * c + r) (R : r < c) where
  below-is : whole_below a c ≡ q
  below-is = div-eq_of_lt-le c (omega arith) (omega arith)

  pub above_same : r ≡ 0 → whole_above a c ≡ q
  above_same h = div-eq_of_lt-le c (omega arith) (omega arith)

  pub nearest-down : r * 2 < c → whole_nearest a c ≡ q
  nearest-down h = div-eq_of_lt-le (2 * c) (omega arith) (omega arith)

-- ---- which whole number it is: the largest one below, the least one above, the nearest
pub below_right : (a c : ℕ) → 0 < c → Below a c (whole_below a c)
below_right a c C = let e = div-add-mod' a c in let r = mod-lt a C in record { from = omega arith; to = omega arith }

pub above-right : (a c : ℕ) → 0 < c → Above a c (whole_above a c)
above-right a c C =
    let e = div-add-mod' (a + (c - 1)) c in
    let r = mod-lt (a + (c - 1)) C in
    record { from = omega arith; to = omega arith }

pub nearest-right : (a c : ℕ) → 0 < c → Nearest a c (whole_nearest a c)
nearest-right a c C =
    let e = div-add-mod' (2 * a + c) (2 * c) in
    let r = mod-lt (2 * a + c) (twice C) in
    record { from = omega arith; to = omega arith }
  where
    twice : {c : ℕ} → 0 < c → 0 < 2 * c
    twice h = omega arith

-- ---- such a whole number is a value of the format: less than one away from a value x, it is at most 2 ^ 53 in size, or it is x
at_most : (a c k : ℕ) → 0 < c → k * c < a + c → k ≤ a
at_most a c zero C h = omega arith
at_most a c (suc k) C h = let g : k * 1 ≤ k * c = mul-le-mul (le_refl k) C in omega arith

whole-value : (s : Bool) (m : ℕ) (e : ℤ) (k : ℕ) → T (fits binary64 (fin s m e)) → k * down e < m * up e + down e → m * up e < k * down e + down e → HasValue (signed s k) s k 1
whole-value s zero e k fx h g = round_whole binary64 s k (le_trans (at_most 0 (down e) k (down_pos e) (omega arith)) (lit≤ tt))
whole-value s (suc m) (pos j) k fx h g =
    let e : suc m * 2 ^ j ≡ k = omega arith in
    subst (λ (k : ℕ). HasValue (signed s k) s k 1) e (subst (λ (x : Float). HasValue x s (suc m * 2 ^ j) 1) (sym (round-self binary64 s (suc m) (pos j) fx)) (refl, refl))
whole-value s (suc m) (negsuc j) k fx h g =
    let d = (fits-says binary64 s m (negsuc j) fx).digits in
    let l = at_most (suc m * 1) (2 ^ suc j) k (pow_pos (suc j)) h in
    round_whole binary64 s k (omega arith)

-- so the results are exact
pub round_exact : (s : Bool) (m : ℕ) (e : ℤ) → T (fits binary64 (fin s m e)) → HasValue (round_of (fin s m e)) s (whole_nearest (m * up e) (down e)) 1
unfolding round_of
round_exact s m e fx = let n = nearest-right (m * up e) (down e) (down_pos e) in let C = down_pos e in whole-value s m e (whole_nearest (m * up e) (down e)) fx (omega arith) (omega arith)

module _ (s : Bool) (m : ℕ) (e : ℤ) (fx : T (fits binary64 (fin s m e))) where
  below-exact : HasValue (signed s (whole_below (m * up e) (down e))) s (whole_below (m * up e) (down e)) 1
  below-exact = let n = below_right (m * up e) (down e) (down_pos e) in let C = down_pos e in whole-value s m e (whole_below (m * up e) (down e)) fx (omega arith) (omega arith)

  above-exact : HasValue (signed s (whole_above (m * up e) (down e))) s (whole_above (m * up e) (down e)) 1
  above-exact = let n = above-right (m * up e) (down e) (down_pos e) in let C = down_pos e in whole-value s m e (whole_above (m * up e) (down e)) fx (omega arith) (omega arith)

pub floor-exact : (s : Bool) (m : ℕ) (e : ℤ) → T (fits binary64 (fin s m e)) → HasValue (floor_of (fin s m e)) s (cond s (whole_above (m * up e) (down e)) (whole_below (m * up e) (down e))) 1
unfolding floor_of
floor-exact true m e fx = above-exact true m e fx
floor-exact false m e fx = below-exact false m e fx

pub ceil-exact : (s : Bool) (m : ℕ) (e : ℤ) → T (fits binary64 (fin s m e)) → HasValue (ceil_of (fin s m e)) s (cond s (whole_below (m * up e) (down e)) (whole_above (m * up e) (down e))) 1
unfolding ceil_of
ceil-exact true m e fx = below-exact true m e fx
ceil-exact false m e fx = above-exact false m e fx

-- ---- negation
whole_neg : (s : Bool) (k : ℕ) → neg (signed (not s) k) ≡ signed s k
whole_neg true k = sym (round-neg binary64 k 1)
whole_neg false k = ap neg (round-neg binary64 k 1) ∙ neg-neg (signed false k)

pub neg-round : (x : Float) → neg (round_of (neg x)) ≡ round_of x
unfolding round_of neg
neg-round nan = refl
neg-round (inf true) = refl
neg-round (inf false) = refl
neg-round (fin s m e) = whole_neg s (whole_nearest (m * up e) (down e))

pub neg-ceil : (x : Float) → neg (ceil_of (neg x)) ≡ floor_of x
unfolding floor_of ceil_of neg
neg-ceil nan = refl
neg-ceil (inf true) = refl
neg-ceil (inf false) = refl
neg-ceil (fin true m e) = whole_neg true (whole_above (m * up e) (down e))
neg-ceil (fin false m e) = whole_neg false (whole_below (m * up e) (down e))

pub neg-floor : (x : Float) → neg (floor_of (neg x)) ≡ ceil_of x
unfolding floor_of ceil_of neg
neg-floor nan = refl
neg-floor (inf true) = refl
neg-floor (inf false) = refl
neg-floor (fin true m e) = whole_neg true (whole_below (m * up e) (down e))
neg-floor (fin false m e) = whole_neg false (whole_above (m * up e) (down e))

-- ---- what all three leave as it is: whole numbers, infinities and NaN
pub record Integral (x : Float) : Type 0 where
  pub round : x ≡ round_of x
  pub floor : x ≡ floor_of x
  pub ceil : x ≡ ceil_of x

module _ (s : Bool) (m : ℕ) (e : ℤ) (k : ℕ) (fx : T (fits binary64 (fin s m e))) (v : m * up e ≡ k * down e) where
  self : fin s m e ≡ signed s k
  self =
      let C = down_pos e in
      unique binary64 (fin s m e) (signed s k) s k 1 (lit< tt) fx (round-fits binary64 s k 1) (refl, omega arith) (whole-value s m e k fx (omega arith) (omega arith))

  nearest-self : fin s m e ≡ signed s (whole_nearest (m * up e) (down e))
  nearest-self = let C = down_pos e in self ∙ ap (λ k. signed s k) (sym (nearest-down (m * up e) (down e) k 0 (omega arith) C (omega arith)))

  below_self : fin s m e ≡ signed s (whole_below (m * up e) (down e))
  below_self = self ∙ ap (λ k. signed s k) (sym (below-is (m * up e) (down e) k 0 (omega arith) (down_pos e)))

  above-self : fin s m e ≡ signed s (whole_above (m * up e) (down e))
  above-self = self ∙ ap (λ k. signed s k) (sym (above_same (m * up e) (down e) k 0 (omega arith) (down_pos e) refl))

pub integral : (x : Float) (k : ℕ) → T (fits binary64 x) → T (finite x) → num x ≡ k * den x → Integral x
unfolding round_of floor_of ceil_of
integral nan k fx t v = absurd t
integral (inf s) k fx t v = absurd t
integral (fin true m e) k fx t v = record { round = nearest-self true m e k fx v; floor = above-self true m e k fx v; ceil = below_self true m e k fx v }
integral (fin false m e) k fx t v = record { round = nearest-self false m e k fx v; floor = below_self false m e k fx v; ceil = above-self false m e k fx v }

-- from 2 ^ 52 on there is no fraction
no_fraction : (s : Bool) (m : ℕ) (e : ℤ) → T (fits binary64 (fin s m e)) → 2 ^ 52 * down e ≤ m * up e → m * up e ≡ m * up e * down e
no_fraction s m (pos j) fx h = omega arith
no_fraction s zero (negsuc j) fx h = let d = pow_pos (suc j) in absurd (lt_irrefl 0 (omega arith))
no_fraction s (suc m) (negsuc j) fx h =
    let d : suc m < 2 ^ 53 = (fits-says binary64 s m (negsuc j) fx).digits in
    let p = pow_pos j in
    let w = pow-succ' 2 j in
    absurd (lt_irrefl 0 (omega arith))
