-- The rounded quotient n / d of whole numbers, |n| < 2 ^ 49 and 1 ≤ d ≤ 256: exact where d divides n, and otherwise computed to lie more than 1e-5 from its
-- nearest whole number. With d ≤ w = 2 ^ t < 2 * d, a fraction that is not k lies at least 1 / w from it, k + 1 / w and k - 1 / w are values of the format, and
-- rounding keeps the order.
use Rattle.std.proofs.Common.{◌≡◌, ℕ, zero, suc, ◌+◌, ◌-◌, ◌*◌, ◌^◌, ◌<◌, ◌≤◌, Bool, true, false, cond, not, T, ◌⊎◌, [], ◌∷◌, ℤ, pos, negsuc, ◌*ℤ◌, neg_ℤ, nat_abs, sym, refl, ap, ◌∙◌, subst, inl, inr, le_trans, le_of_eq, le_refl, lt_of_le_of_lt, le_of_lt, mul-le-mul_right, mul-le-mul, mul-pos, le_of_mul-le-mul_right, arith, lit<, lit≤, T_not, pow_pos, pow_mono, pow-add}
use native.Mathlib.Nat.{pow-succ'}
use lib.Dec.{not_T}
use lib.IntN.{*ℤ_comm, +ℤ_invr}
use lib.Ieee.{Float, nan, inf, fin, binary64, size, round, neg, sub, div, le, lt, fits, of_int, of_bits}
use lib.Ieee.Digits.{size-lt, size-le, size_reaches}
use lib.Ieee.Fits.{round-fits, div-fits}
use lib.Ieee.Order.{round_mono}
use lib.Ieee.Scale.{finite}
use lib.Ieee.Positive.{den, den_pos}
use Rattle.integer.specs.Parts as parts
use Rattle.integer.proofs.Parts as law
use Rattle.integer.proofs.Reify.{ring, reify}
use Rattle.integer.proofs.Size.{abs_neg, abs-parts, abs-mul}
use Rattle.float.specs.Value.{plus, less, zero_f, Value, Whole, Bounded}
use Rattle.float.specs.Rounding.{abs_of, nint_of, offset, tolerance}
use Rattle.float.proofs.Sign.{neg-neg, div-neg}
use Rattle.float.proofs.Order.{by-test, le→cross, cross→le, lt-le-trans, neg-le, numbers}
use Rattle.float.proofs.Rounds.{Rounds, over, under, round-neg, rounds-same, rounds-mono, self-rounds, dyadic}
use Rattle.float.proofs.Operations.{sub-rounds, div-rounds}
use Rattle.float.proofs.Bounds.{rounds-bounded}
use Rattle.float.proofs.Whole.{value_same, value_of, of_int-whole, rounds-whole, sub-whole, neg-whole, whole-num, whole-positive}
use Rattle.float.proofs.Cast.{le-abs, abs_of-neg, nint-bounded, nint-whole}

-- ---- the quotient is n / d, rounded
quot-rounds : (x y : Float) (n : ℤ) (d : ℕ) → 0 < d → Whole x n → Whole y (pos d) → Rounds binary64 (div binary64 x y) (parts.up n) (parts.dn n) d
quot-rounds x y n d D v w =
    let p = whole-positive y d D w in
    let e1 = ap (λ (t : ℕ). t * (den y * d)) v.is in
    let e2 = ap (λ (t : ℕ). t * (parts.up n * den x)) w.is in
    let e3 = ap (λ (t : ℕ). t * (parts.dn n * den x)) w.is in
    let z1 = ap (λ (t : ℕ). t * (parts.up n * den x)) p.1 in
    let z2 = ap (λ (t : ℕ). t * (parts.dn n * den x)) p.1 in
    rounds-same (parts.up n) (parts.dn n) d (div-rounds binary64 x y v.number p.0) (mul-pos p.0 (den_pos x)) D (omega arith)

-- ---- a power of two from d on, below 2 * d
record Power (d : ℕ) : Type 0 where
  t : ℕ
  from : d ≤ 2 ^ t
  to : 2 ^ t < 2 * d
  small : t ≤ 8

power : (d : ℕ) → 0 < d → d ≤ 256 → Power d
power zero p h = elim p [ ]
power (suc d) p h = record { t = size d; from = size-lt d; to = go (size d) (size_reaches d); small = size-le d 8 (omega arith) }
  where
    go : (z : ℕ) → ((j : ℕ) → j < z → 2 ^ j ≤ d) → 2 ^ z < 2 * suc d
    go zero k = omega arith
    go (suc z) k = let a = k z (le_of_eq refl) in lt_of_le_of_lt (le_of_eq (pow-succ' 2 z)) (omega arith)

fewer : (t : ℕ) → 50 - t ≤ 50
fewer t = omega arith

rest : (t : ℕ) → t ≤ 8 → 2 ^ (50 - t) * 2 ^ t ≡ 2 ^ 50
rest t h = let e : 50 - t + t ≡ 50 = omega arith in sym (pow-add 2 (50 - t) t) ∙ ap (λ k. 2 ^ k) e

-- (p - n) / 2 ^ t as a value of the format
dyadic-value : (p n t : ℕ) → p < n + 2 ^ 53 → n < p + 2 ^ 53 → t ≤ 1074 → (v : Float) × T (fits binary64 v) × Value v p n (2 ^ t)
dyadic-value p n t h k l = elim (by-test n p) [
  | inl g ↦
      let v = round binary64 false (p - n) (2 ^ t) in
      (v, round-fits binary64 false (p - n) (2 ^ t), value_same p n (2 ^ t) (value_of v false (p - n) (2 ^ t) (dyadic binary64 false (p - n) t (omega arith) l)) (pow_pos t) (same p n (2 ^ t) g))
  | inr g ↦
      let v = round binary64 true (n - p) (2 ^ t) in
      (v, round-fits binary64 true (n - p) (2 ^ t), value_same p n (2 ^ t) (value_of v true (n - p) (2 ^ t) (dyadic binary64 true (n - p) t (omega arith) l)) (pow_pos t) (turned p n (2 ^ t) (le_of_lt g)))
]
  where
    same : (p n w : ℕ) → n ≤ p → (p - n) * w + n * w ≡ p * w + 0 * w
    same p n w h = let e : p - n + n ≡ p = omega arith in let e' = ap (λ (x : ℕ). x * w) e in omega arith

    turned : (p n w : ℕ) → p ≤ n → 0 * w + n * w ≡ p * w + (n - p) * w
    turned p n w h = let e : n - p + p ≡ n = omega arith in let e' = ap (λ (x : ℕ). x * w) e in omega arith

-- ---- 1 / 2 ^ t, and 1e-5 below it
tiny : Bool → ℕ → Float
tiny s t = round binary64 s 1 (2 ^ t)

tiny-rounds : (s : Bool) (t : ℕ) → Rounds binary64 (tiny s t) (cond s 0 1) (cond s 1 0) (2 ^ t)
unfolding tiny
tiny-rounds true t = under 1 refl refl
tiny-rounds false t = over 1 refl refl

tolerance-lt : (t : ℕ) → t ≤ 8 → T (lt tolerance (tiny false t))
unfolding tiny
tolerance-lt t h =
    lt-le-trans tolerance (round binary64 false 1 (2 ^ 8)) (round binary64 false 1 (2 ^ t)) (unfold lt of_bits round in tt)
    (round_mono binary64 1 (2 ^ 8) 1 (2 ^ t) (pow_pos 8) (pow_pos t) (let g : 2 ^ t ≤ 2 ^ 8 = pow_mono h in omega arith))

-- what is computed from tiny on is above the tolerance in size, and so is its negative
far : (z : Float) (t : ℕ) → t ≤ 8 → T (le (tiny false t) z) → T (lt tolerance (abs_of z))
far z t s h = lt-le-trans tolerance z (abs_of z) (lt-le-trans tolerance (tiny false t) z (tolerance-lt t s) h) (le-abs z (numbers (tiny false t) z h).1)

far-neg : (z : Float) (t : ℕ) → t ≤ 8 → T (le z (tiny true t)) → T (lt tolerance (abs_of z))
unfolding tiny
far-neg z t s h =
    let e : neg (tiny true t) ≡ tiny false t = ap neg (round-neg binary64 1 (2 ^ t)) ∙ neg-neg (tiny false t) in
    subst (λ y. T (lt tolerance y)) (abs_of-neg z) (far (neg z) t s (subst (λ y. T (le y (neg z))) e (neg-le z (tiny true t) h)))

-- while 0 is not
zero-close : (z : Float) → Whole z (pos 0) → T (not (lt tolerance (abs_of z)))
unfolding abs_of
zero-close nan v = absurd v.number
zero-close (inf s) v = absurd v.number
zero-close (fin s m e) v =
    let g = whole-num (fin s m e) (pos 0) v in
    not_T (lt tolerance (fin false m e))
    (λ h. never (lt-le-trans tolerance (fin false m e) zero_f h (cross→le (fin false m e) zero_f tt tt (omega arith))))
  where
    never : T (lt tolerance zero_f) → ⊥
    never h = unfold lt of_bits in h

pub whole-close : (q : Float) (k : ℤ) → nat_abs k ≤ 2 ^ 53 → Whole q k → nint_of q ≡ k → T (not (lt tolerance (offset q)))
whole-close q k h v e =
    subst (λ z. T (not (lt tolerance (abs_of (sub binary64 (of_int binary64 z) q))))) (sym e)
    (zero-close (sub binary64 (of_int binary64 k) q)
    (subst (λ z. Whole (sub binary64 (of_int binary64 k) q) z) (+ℤ_invr k)
    (sub-whole binary64 (of_int binary64 k) q k k (of_int-whole binary64 k h) v (le_trans (le_of_eq (ap nat_abs (+ℤ_invr k))) (lit≤ tt)))))

-- ---- r is k, and q lies at least 1 / 2 ^ t from k: so does the computed r - q
module _ (q r : Float) (k : ℤ) (t : ℕ) (p : T (finite q)) (v : Whole r k) (s : t ≤ 8) where
  apart_below : plus q * 2 ^ t + (parts.dn k * 2 ^ t + 1) * den q ≤ parts.up k * 2 ^ t * den q + less q * 2 ^ t → T (lt tolerance (abs_of (sub binary64 r q)))
  apart_below h =
      let e = ap (λ (z : ℕ). z * (den q * 2 ^ t)) v.is in
      let g = mul-le-mul_right (den r) h in
      far (sub binary64 r q) t s (rounds-mono (tiny-rounds false t) (sub-rounds binary64 r q v.number p) (pow_pos t) (mul-pos (den_pos r) (den_pos q)) (omega arith))

  apart_above : (parts.up k * 2 ^ t + 1) * den q + less q * 2 ^ t ≤ plus q * 2 ^ t + parts.dn k * 2 ^ t * den q → T (lt tolerance (abs_of (sub binary64 r q)))
  apart_above h =
      let e = ap (λ (z : ℕ). z * (den q * 2 ^ t)) v.is in
      let g = mul-le-mul_right (den r) h in
      far-neg (sub binary64 r q) t s (rounds-mono (sub-rounds binary64 r q v.number p) (tiny-rounds true t) (mul-pos (den_pos r) (den_pos q)) (pow_pos t) (omega arith))

-- ---- the order of values, by any fraction that one of them is
below-value : (x : Float) {y : Float} {p n c : ℕ} → Value y p n c → T (finite x) → T (le x y) → plus x * c + n * den x ≤ p * den x + less x * c
below-value x {y} {p} {n} {c} v t h =
    let e = ap (λ (t : ℕ). t * den x) v.is in
    let k = mul-le-mul_right c (le→cross x y t v.number h) in
    let g : (plus x * c + n * den x) * den y ≤ (p * den x + less x * c) * den y = omega arith in
    le_of_mul-le-mul_right g (den_pos y)

above-value : {x : Float} (y : Float) {p n c : ℕ} → Value x p n c → T (finite y) → T (le x y) → p * den y + less y * c ≤ plus y * c + n * den y
above-value {x} y {p} {n} {c} v t h =
    let e = ap (λ (t : ℕ). t * den y) v.is in
    let k = mul-le-mul_right c (le→cross x y v.number t h) in
    let g : (p * den y + less y * c) * den x ≤ (plus y * c + n * den y) * den x = omega arith in
    le_of_mul-le-mul_right g (den_pos x)

value-rounds : {x : Float} {p n c : ℕ} → Value x p n c → 0 < c → T (fits binary64 x) → Rounds binary64 x p n c
value-rounds {x} {p} {n} {c} v C fx = rounds-same p n c (self-rounds binary64 x fx v.number) (den_pos x) C v.is

-- ---- n against k * d
sides : (n k : ℤ) (d : ℕ)
    → (n ≡ k *ℤ pos d) ⊎ ((parts.dn n + parts.up k * d < parts.up n + parts.dn k * d) ⊎ (parts.up n + parts.dn k * d < parts.dn n + parts.up k * d))
sides n k d = elim (by-test (parts.up n + parts.dn k * d) (parts.dn n + parts.up k * d)) [
  | inl h ↦ elim (by-test (parts.dn n + parts.up k * d) (parts.up n + parts.dn k * d)) [
    | inl g ↦ let m = law.multiple d k in inl (law.parts-eq (omega arith) ∙ *ℤ_comm (pos d) k)
    | inr g ↦ inr (inr g)
  ]
  | inr h ↦ inr (inl h)
]

module _ (x y : Float) (n : ℤ) (d : ℕ) (N : nat_abs n < 2 ^ 49) (D : 0 < d) (E : d ≤ 256) (v : Whole x n) (u : Whole y (pos d)) where
  quotient-bounded : Bounded (50 - (power d D E).t) (div binary64 x y)
  quotient-bounded =
      let P = power d D E in
      let a = abs-parts n in
      let b = mul-le-mul (le_refl (2 ^ (50 - P.t))) (le_of_lt P.to) in
      let e = rest P.t P.small in
      rounds-bounded (50 - P.t) (quot-rounds x y n d D v u) D (le_trans (fewer P.t) (lit≤ tt)) (omega arith) (omega arith)

  -- a whole number k is n / d, or computed to lie apart from it
  apart : (r : Float) (k : ℤ) → Whole r k → nat_abs k * 2 ^ (power d D E).t ≤ 2 ^ 50 → (n ≡ k *ℤ pos d) ⊎ T (lt tolerance (abs_of (sub binary64 r (div binary64 x y))))
  apart r k z b =
      let P = power d D E in
      let t = P.t in
      let w = 2 ^ t in
      let W : 0 < w = pow_pos t in
      let q = div binary64 x y in
      let a = parts.up k in
      let c = parts.dn k in
      let L : t ≤ 1074 = le_trans P.small (lit≤ tt) in
      let size : (a + c) * w ≤ 2 ^ 50 = subst (λ m. m * w ≤ 2 ^ 50) (abs-parts k) b in
      let rs = quot-rounds x y n d D v u in
      let f = quotient-bounded.number in
      elim (sides n k d) [
        | inl e ↦ inl e
        | inr (inl h) ↦
            let g = mul-le-mul_right w h in
            let B = dyadic-value (a * w + 1) (c * w) t (omega arith) (omega arith) L in
            inr (apart_above q r k t f z P.small
            (above-value q B.2 f (rounds-mono (value-rounds B.2 W B.1) rs W D (omega arith))))
        | inr (inr h) ↦
            let g = mul-le-mul_right w h in
            let B = dyadic-value (a * w) (c * w + 1) t (omega arith) (omega arith) L in
            inr (apart_below q r k t f z P.small
            (below-value q B.2 f (rounds-mono rs (value-rounds B.2 W B.1) D W (omega arith))))
      ]

  -- ---- what the code computes: the quotient's nearest whole number, and how far the quotient lies from it
  decided : (n ≡ nint_of (div binary64 x y) *ℤ pos d) ⊎ T (lt tolerance (offset (div binary64 x y)))
  decided =
      let t = (power d D E).t in
      let k = nint_of (div binary64 x y) in
      let b = nint-bounded (div binary64 x y) (50 - t) (div-fits binary64 x y) (le_trans (fewer t) (lit≤ tt)) quotient-bounded in
      apart (of_int binary64 k) k (of_int-whole binary64 k (le_trans b (le_trans (pow_mono (fewer t)) (lit≤ tt))))
      (le_trans (mul-le-mul_right (2 ^ t) b) (le_of_eq (rest t (power d D E).small)))

  -- within the tolerance d divides n, and that number is the quotient
  pub quotient-accepted : T (not (lt tolerance (offset (div binary64 x y)))) → n ≡ nint_of (div binary64 x y) *ℤ pos d
  quotient-accepted h = elim decided [ inl e ↦ e | inr t ↦ absurd (T_not (lt tolerance (offset (div binary64 x y))) h t) ]

  -- where d does not divide n, the quotient is outside
  pub quotient-refused : ((k : ℤ) → n ≡ k *ℤ pos d → ⊥) → T (lt tolerance (offset (div binary64 x y)))
  quotient-refused ne = elim decided [ inl e ↦ absurd (ne (nint_of (div binary64 x y)) e) | inr t ↦ t ]

  -- where d divides n, the quotient is exact and within the tolerance
  module _ (k : ℤ) (e : n ≡ k *ℤ pos d) where
    smaller : nat_abs k ≤ nat_abs n
    smaller = le_trans (factor (nat_abs k)) (le_of_eq (sym (ap nat_abs e ∙ abs-mul k (pos d))))
      where
        factor : (a : ℕ) → a ≤ a * d
        factor a = let g : a * 1 ≤ a * d = mul-le-mul (le_refl a) D in omega arith

    pub quotient-exact : Whole (div binary64 x y) k
    quotient-exact =
        let m = law.multiple d k in
        let g = law.eq-parts (e ∙ *ℤ_comm k (pos d)) in
        let l = smaller in
        rounds-whole k (quot-rounds x y n d D v u) D (omega arith) (omega arith)

    pub quotient-nint : nint_of (div binary64 x y) ≡ k
    quotient-nint = let l = smaller in nint-whole (div binary64 x y) k (div-fits binary64 x y) quotient-exact (omega arith)

    pub quotient-close : T (not (lt tolerance (offset (div binary64 x y))))
    quotient-close = let l = smaller in whole-close (div binary64 x y) k (omega arith) quotient-exact quotient-nint

-- ---- by 1 or -1 the quotient is exact
quotient-one : (x y : Float) (n : ℤ) → nat_abs n < 2 ^ 49 → Whole x n → Whole y (pos 1) → Whole (div binary64 x y) n
quotient-one x y n h v u = quotient-exact x y n 1 h (lit< tt) (lit≤ tt) v u n (ring (n ∷ []) (search reify depth 40) tt)

pub quotient-unit : (x y : Float) (n z : ℤ) → nat_abs n < 2 ^ 49 → nat_abs z ≡ 1 → Whole x n → Whole y z → Whole (div binary64 x y) (z *ℤ n)
quotient-unit x y n (pos k) h e v u =
    let same : pos 1 *ℤ n ≡ n = ring (n ∷ []) (search reify depth 40) tt in
    subst (Whole (div binary64 x y)) (sym (ap (λ (k : ℕ). pos k *ℤ n) e ∙ same))
    (quotient-one x y n h v (subst (λ (k : ℕ). Whole y (pos k)) e u))
quotient-unit x y n (negsuc k) h e v u =
    let e : k ≡ 0 = omega arith in
    let turned : negsuc 0 *ℤ n ≡ neg_ℤ n = ring (n ∷ []) (search reify depth 40) tt in
    subst (Whole (div binary64 x y)) (sym (ap (λ (k : ℕ). negsuc k *ℤ n) e ∙ turned))
    (subst (λ q. Whole q (neg_ℤ n)) (div-neg binary64 x y)
    (quotient-one (neg x) (neg y) (neg_ℤ n) (rw abs_neg h) (neg-whole x n v) (neg-whole y (negsuc 0) (subst (λ (k : ℕ). Whole y (negsuc k)) e u))))
