-- The library's square root is `sqrt_of`. Both round the root, where it is no whole number of places half a place beyond the place below it; the library
-- works with 1197 places more. Both have more digits than the format keeps, so that they round alike.
use Rattle.std.proofs.Common.{◌≡◌, ℕ, zero, suc, ◌+◌, ◌-◌, ◌*◌, ◌/◌, ◌%◌, ◌^◌, ◌<◌, ◌≤◌, Bool, true, false, cond, T, eqb, ℤ, sym, refl, ap, ◌∙◌, subst, inl, inr, le_trans, le_of_eq, lt_of_lt_of_le, lt_of_le_of_lt, lt_irrefl, mul-le-mul_right, zero-lt-suc, mul_assoc, mul-lt-mul_of_pos_right, mul-pos, mul-div_cancel, not-le_of_lt, le_antisymm, div-lt_iff_lt-mul, le-div_iff_mul-le, div-add-mod', mod-lt, mul-le-mul, mul_right_comm, one-mul, arith, lit≤, eqb→eq, pow_pos, pow_mono, pow-add}
use native.Mathlib.Nat.{pow-succ', mul-mul-mul_comm}
use lib.Dec.{eqb_refl, not_T}
use lib.IntN.{pos}
use lib.Ieee.{Float, nan, inf, fin, Format, binary64, prec, low, up, down, size, units, round, fits, sqrt, root_below, root_twice}
use lib.Ieee.Digits.{size-lt, size-le}
use lib.Ieee.Fits.{down_pos, two, two-le_pos, sqrt-fits}
use lib.Ieee.Root.{whole_part}
use lib.Ieee.Scale.{round_same}
use Rattle.integer.proofs.Test.{is_true, is_false}
use Rattle.float.specs.Sqrt.{root, beyond, sqrt_of}
use Rattle.float.proofs.Order.{by-test}
use Rattle.float.proofs.Root.{IsRoot, root_is, root-le, root-lt}
use Rattle.float.proofs.Rounds.{unique, place, fits-says}
use Rattle.float.proofs.SqrtRounding.{round-down, round_up}

-- ---- a fraction X / den between s and s + 1, in halves of w = 2 * v: by s = p * w + r
module _ (s p r v X den : ℕ) (split : p * (2 * v) + r ≡ s) where
  low_end : s * den < X → p * (den * (2 * v)) ≤ X
  low_end h = let m = ap (λ z. z * den) split in omega arith

  high-end : X < (s + 1) * den → r < 2 * v → X < suc p * (den * (2 * v))
  high-end h l = let g : s + 1 ≤ p * (2 * v) + 2 * v = omega arith in let m = mul-le-mul_right den g in omega arith

  down-half : X < (s + 1) * den → r < v → X * 2 < p * (den * (2 * v)) * 2 + den * (2 * v)
  down-half h l = let g : s + 1 ≤ p * (2 * v) + v = omega arith in let m = mul-le-mul_right den g in omega arith

  up-half : s * den < X → v ≤ r → p * (den * (2 * v)) * 2 + den * (2 * v) < X * 2
  up-half h l = let g : p * (2 * v) + v ≤ s = omega arith in let m = mul-le-mul_right den g in omega arith

-- ---- two fractions strictly between s and s + 1 places round alike, where s has more digits than the format keeps
module _ (f : Format) (s j : ℕ) (wide : size s ≡ prec f + suc j) where
  abbrev p : ℕ
  p = s / 2 ^ suc j

  abbrev r : ℕ
  r = s % 2 ^ suc j

  W : 2 ^ suc j ≡ 2 * 2 ^ j
  W = pow-succ' 2 j

  split : p * (2 * 2 ^ j) + r ≡ s
  split = ap (λ u. p * u + r) (sym W) ∙ div-add-mod' s (2 ^ suc j)

  left : r < 2 * 2 ^ j
  left = subst (λ u. r < u) W (mod-lt s (pow_pos (suc j)))

  first : 2 ^ (prec f - 1) ≤ p
  first = (le-div_iff_mul-le (pow_pos (suc j))).1 (le_trans (le_of_eq (sym (pow-add 2 (prec f - 1) (suc j)))) (by_size (prec f - 1 + suc j) (omega (arith, two-le_pos (prec f) (two f)))))
    where
      by_size : (z : ℕ) → z < size s → 2 ^ z ≤ s
      by_size z h = elim (by-test (2 ^ z) s) [ inl k ↦ k | inr k ↦ absurd (not-le_of_lt h (size-le s z k)) ]

  last : p < 2 ^ prec f
  last = (div-lt_iff_lt-mul (pow_pos (suc j))).1 (lt_of_lt_of_le (size-lt s) (le_of_eq (ap (λ z. 2 ^ z) wide ∙ pow-add 2 (prec f) (suc j))))

  module _ (a c : ℕ) (C : 0 < c) (from : s * c < a * 2 ^ low f) (to : a * 2 ^ low f < (s + 1) * c) where
    from' : p * (c * 2 ^ suc j) ≤ a * 2 ^ low f
    from' = subst (λ u. p * (c * u) ≤ a * 2 ^ low f) (sym W) (low_end s p r (2 ^ j) (a * 2 ^ low f) c split from)

    to' : a * 2 ^ low f < suc p * (c * 2 ^ suc j)
    to' = subst (λ u. a * 2 ^ low f < suc p * (c * u)) (sym W) (high-end s p r (2 ^ j) (a * 2 ^ low f) c split to left)

    down-is : r < 2 ^ j → round f false a c ≡ units f false p (suc j)
    down-is h = round-down f a c p (suc j) C first last from' to' (subst (λ u. a * 2 ^ low f * 2 < p * (c * u) * 2 + c * u) (sym W) (down-half s p r (2 ^ j) (a * 2 ^ low f) c split to h))

    up_is : 2 ^ j ≤ r → round f false a c ≡ units f false (suc p) (suc j)
    up_is h = round_up f a c p (suc j) C first last from' to' (subst (λ u. p * (c * u) * 2 + c * u < a * 2 ^ low f * 2) (sym W) (up-half s p r (2 ^ j) (a * 2 ^ low f) c split from h))

  same_between : (a c b d : ℕ) → 0 < c → 0 < d → s * c < a * 2 ^ low f → a * 2 ^ low f < (s + 1) * c → s * d < b * 2 ^ low f → b * 2 ^ low f < (s + 1) * d → round f false a c ≡ round f false b d
  same_between a c b d C D h k m n = elim (by-test (2 ^ j) r) [
    | inl l ↦ up_is a c C h k l ∙ sym (up_is b d D m n l)
    | inr l ↦ down-is a c C h k l ∙ sym (down-is b d D m n l)
  ]

-- ---- the roots s of n and t of n * (w * w)
square : (a w : ℕ) → a * w * (a * w) ≡ a * a * (w * w)
square a w = mul-mul-mul_comm a w a w

module _ (n w s t : ℕ) (pw : 0 < w) (S : IsRoot n s) (R : IsRoot (n * (w * w)) t) where
  t-from : s * w ≤ t
  t-from = root-le (n * (w * w)) (s * w) t (le_trans (le_of_eq (square s w)) (mul-le-mul_right (w * w) S.from)) R

  t-to : t < (s + 1) * w
  t-to = root-lt (n * (w * w)) ((s + 1) * w) t (lt_of_lt_of_le (mul-lt-mul_of_pos_right S.to (mul-pos pw pw)) (le_of_eq (sym (square (s + 1) w)))) R

  -- a whole root
  t-exact : s * s ≡ n → t ≡ s * w
  t-exact e = le_antisymm (le_of_lt-succ (root-lt (n * (w * w)) (s * w + 1) t (lt_of_le_of_lt (le_of_eq (ap (λ z. z * (w * w)) (sym e) ∙ sym (square s w))) (next (s * w))) R)) t-from
    where
      next : (a : ℕ) → a * a < (a + 1) * (a + 1)
      next a = omega arith

      le_of_lt-succ : {a b : ℕ} → a < b + 1 → a ≤ b
      le_of_lt-succ h = omega arith

  -- and another
  t-above : s * s < n → t * t ≡ n * (w * w) → s * w < t
  t-above h e = elim (by-test t (s * w)) [
    | inl k ↦ absurd (lt_irrefl (t * t) (lt_of_le_of_lt (le_trans (mul-le-mul k k) (le_of_eq (square s w))) (lt_of_lt_of_le (mul-lt-mul_of_pos_right h (mul-pos pw pw)) (le_of_eq (sym e)))))
    | inr k ↦ k
  ]

-- ---- both fractions, with L = 2 ^ low
module _ (s t w L σ : ℕ) (l : 0 < L) where
  half-from : s * (2 * L) < (2 * s + 1) * L
  half-from = omega arith

  half-to : (2 * s + 1) * L < (s + 1) * (2 * L)
  half-to = omega arith

  far-from : 2 * (s * w) < 2 * t + σ → s * (2 * L * w) < (2 * t + σ) * L
  far-from h = let g = mul-lt-mul_of_pos_right h l in omega arith

  far-to : 2 * t + σ < 2 * ((s + 1) * w) → (2 * t + σ) * L < (s + 1) * (2 * L * w)
  far-to h = let g = mul-lt-mul_of_pos_right h l in omega arith

module _ (f : Format) (n w s t j : ℕ) (wide : size s ≡ prec f + suc j) (pw : 0 < w) (S : IsRoot n s) (R : IsRoot (n * (w * w)) t) where
  abbrev N : ℕ
  N = n * (w * w)

  L : 0 < 2 ^ low f
  L = pow_pos (low f)

  den : 0 < 2 * 2 ^ low f
  den = mul-pos (zero-lt-suc 1) L

  whole : s * s ≡ n → round f false (2 * s + beyond s n) (2 * 2 ^ low f) ≡ round f false (2 * t + beyond t N) (2 * 2 ^ low f * w)
  whole e =
      let q = t-exact n w s t pw S R e in
      let z = none s n e in
      let u = none t N (ap (λ a. a * a) q ∙ square s w ∙ ap (λ a. a * (w * w)) e) in
      ap (λ a. round f false (2 * s + a) (2 * 2 ^ low f)) z
      ∙ round_same f false (2 * s + 0) (2 * 2 ^ low f) (2 * (s * w) + 0) (2 * 2 ^ low f * w) den (mul-pos den pw) (same s w (2 ^ low f))
      ∙ ap (λ a. round f false (2 * a + 0) (2 * 2 ^ low f * w)) (sym q)
      ∙ ap (λ a. round f false (2 * t + a) (2 * 2 ^ low f * w)) (sym u)
    where
      none : (s n : ℕ) → s * s ≡ n → beyond s n ≡ 0
      none s n e = ap (λ (b : Bool). cond b 0 1) (is_true (eqb (s * s) n) (subst (λ a. T (eqb (s * s) a)) e (eqb_refl (s * s))))

      same : (s w L : ℕ) → (2 * s + 0) * (2 * L * w) ≡ (2 * (s * w) + 0) * (2 * L)
      same s w L = omega arith

  broken : s * s < n → round f false (2 * s + beyond s n) (2 * 2 ^ low f) ≡ round f false (2 * t + beyond t N) (2 * 2 ^ low f * w)
  broken h =
      ap (λ a. round f false (2 * s + a) (2 * 2 ^ low f)) (some s n h)
      ∙ same_between f s j wide (2 * s + 1) (2 * 2 ^ low f) (2 * t + beyond t N) (2 * 2 ^ low f * w) den (mul-pos den pw)
      (half-from s t w (2 ^ low f) 1 L) (half-to s t w (2 ^ low f) 1 L)
      (far-from s t w (2 ^ low f) (beyond t N) L (over (eqb (t * t) N) (eqb→eq (t * t) N)))
      (far-to s t w (2 ^ low f) (beyond t N) L (under (eqb (t * t) N)))
    where
      some : (s n : ℕ) → s * s < n → beyond s n ≡ 1
      some s n h = ap (λ (b : Bool). cond b 0 1) (is_false (eqb (s * s) n) (not_T (eqb (s * s) n) (λ e. lt_irrefl n (subst (λ a. a < n) (eqb→eq (s * s) n e) h))))

      over : (b : Bool) → (T b → t * t ≡ N) → 2 * (s * w) < 2 * t + cond b 0 1
      over true e = let k = t-above n w s t pw S R h (e tt) in omega arith
      over false e = let k = t-from n w s t pw S R in omega arith

      under : (b : Bool) → 2 * t + cond b 0 1 < 2 * ((s + 1) * w)
      under true = let k = t-to n w s t pw S R in omega arith
      under false = let k = t-to n w s t pw S R in omega arith

  roots_round : round f false (2 * s + beyond s n) (2 * 2 ^ low f) ≡ round f false (2 * t + beyond t N) (2 * 2 ^ low f * w)
  roots_round = elim (by-test n (s * s)) [ inl k ↦ whole (le_antisymm S.from k) | inr k ↦ broken k ]

-- ---- both definitions at c places, for a c above 0
ours-is : (m : ℕ) (e : ℤ) (n : ℕ) → suc m * up e * 4 ^ 1074 / down e ≡ n → sqrt_of (fin false (suc m) e) ≡ round binary64 false (2 * root (size n) n + beyond (root (size n) n) n) (2 * 2 ^ 1074)
unfolding sqrt_of
ours-is m e n h = ap (λ (z : ℕ). round binary64 false (2 * root (size z) z + beyond (root (size z) z) z) (2 * 2 ^ 1074)) h

std-is : (m : ℕ) (e : ℤ) (n : ℕ) → suc m * up e * 2 ^ 4542 / down e ≡ n → sqrt binary64 (fin false (suc m) e) ≡ round binary64 false (2 * root_below (size n) n + beyond (root_below (size n) n) n) (2 ^ 2272)
unfolding sqrt root_twice
std-is m e n h = ap (λ (z : ℕ). round binary64 false (2 * root_below (size z) z + beyond (root_below (size z) z) z) (2 ^ 2272)) h

-- powers of two are variables here: omega does not take numerals of that size
over-down : (a u d c k x y : ℕ) → 0 < d → x ≡ k * y → a * u * k ≡ c * d → a * u * x / d ≡ c * y
over-down a u d c k x y p e h = ap (λ z. z / d) (ap (λ z. a * u * z) e ∙ sym (mul_assoc (a * u) k y) ∙ ap (λ z. z * y) h ∙ mul_right_comm c d y) ∙ mul-div_cancel (c * y) p

wide_root : (n s : ℕ) → 2 ^ 106 ≤ n → IsRoot n s → (j : ℕ) × (size s ≡ 53 + suc j)
wide_root n s h S = (size s - 54, omega (arith, far))
  where
    big : 2 ^ 53 ≤ s
    big = root-le n (2 ^ 53) s (le_trans (le_of_eq (sym (pow-add 2 53 53))) h) S

    far : 53 < size s
    far = elim (by-test (size s) 53) [ inl k ↦ absurd (not-le_of_lt (lt_of_lt_of_le (size-lt s) (pow_mono k)) big) | inr k ↦ k ]

std_root : (n : ℕ) → IsRoot n (root_below (size n) n)
std_root n = let h = whole_part n in record { from = h.0; to = h.1 }

pub sqrt_is : (x : Float) → T (fits binary64 x) → sqrt binary64 x ≡ sqrt_of x
unfolding sqrt sqrt_of
sqrt_is nan h = refl
sqrt_is (inf true) h = refl
sqrt_is (inf false) h = refl
sqrt_is (fin s zero e) h = unique binary64 (fin s zero (pos 0)) (fin s zero e) s 0 1 (zero-lt-suc 0) (sqrt-fits binary64 (fin s zero e)) h (refl, refl) (refl, nothing (up e) (down e))
  where
    nothing : (a b : ℕ) → 0 * a * 1 ≡ 0 * b
    nothing a b = omega arith
sqrt_is (fin true (suc m) e) h = refl
sqrt_is (fin false (suc m) e) h =
    let k = fits-says binary64 false m e h in
    let j = place 1074 e k.fine in
    let c = suc m * 2 ^ j.0 in
    let val : suc m * up e * 2 ^ 1074 ≡ c * down e = mul_assoc (suc m) (up e) (2 ^ 1074) ∙ ap (λ (x : ℕ). suc m * x) j.1 ∙ sym (mul_assoc (suc m) (2 ^ j.0) (down e)) in
    let n = c * 2 ^ 1074 in
    let s = root (size n) n in
    let N = n * (2 ^ 1197 * 2 ^ 1197) in
    let big : 2 ^ 106 ≤ n = le_trans (pow_mono {i = 106} {j = 1074} (lit≤ tt)) (more c (2 ^ 1074) (mul-pos (zero-lt-suc m) (pow_pos j.0))) in
    let w = wide_root n s big (root_is n) in
    std-is m e N (over-down (suc m) (up e) (down e) c (2 ^ 1074) (2 ^ 4542) (2 ^ 3468) (down_pos e) refl val ∙ ap (λ z. c * z) far ∙ sym (mul_assoc c (2 ^ 1074) (2 ^ 1197 * 2 ^ 1197)))
    ∙ sym (roots_round binary64 n (2 ^ 1197) s (root_below (size N) N) w.0 w.1 (pow_pos 1197) (root_is n) (std_root N))
    ∙ sym (ours-is m e n (over-down (suc m) (up e) (down e) c (2 ^ 1074) (4 ^ 1074) (2 ^ 1074) (down_pos e) refl val))
  where
    more : (c k : ℕ) → 0 < c → k ≤ c * k
    more c k h = le_trans (le_of_eq (sym (one-mul k))) (mul-le-mul_right k h)

    far : 2 ^ 3468 ≡ 2 ^ 1074 * (2 ^ 1197 * 2 ^ 1197)
    far = refl
