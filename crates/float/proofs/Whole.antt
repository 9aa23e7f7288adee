-- Whole numbers as floats: up to 2 ^ prec in size they are exact under sum, difference and product, and they compare as in ℤ.
use Rattle.std.proofs.Common.{◌≡◌, refl, ℕ, zero, suc, ◌+◌, ◌*◌, ◌^◌, ◌<◌, ◌≤◌, Bool, true, false, cond, T, ℤ, pos, negsuc, ◌+ℤ◌, ◌-ℤ◌, ◌*ℤ◌, neg_ℤ, nat_abs, ap, ◌⊎◌, inl, inr, true≢false, lt_irrefl, mul-le-mul_right, zero-lt-suc, lt_of_mul-lt-mul_right, mul-lt-mul_of_pos_right, mul-pos, le_of_mul-le-mul_right, arith}
use mathlib.Core.Bool.{false≢true}
use native.Mathlib.Nat.{eq_of_mul-eq-mul_right}
use lib.Signed.{le_z, lt_z, le_z_yes, lt_z_yes}
use lib.Ieee.{Float, nan, inf, fin, Format, prec, up, down, fits, round, neg, add, sub, mul, le, lt, eq, of_int}
use lib.Ieee.Fits.{down_pos, round-fits, of_int-fits}
use lib.Ieee.Exact.{HasValue}
use lib.Ieee.Back.{round_whole, whole_unique}
use lib.Ieee.Positive.{num, den, den_pos}
use Rattle.integer.proofs.Test.{same_test}
use Rattle.integer.specs.Parts as parts
use Rattle.integer.proofs.Parts as law
use Rattle.float.specs.Value.{plus, less, Value, Whole}
use Rattle.float.proofs.Sign.{neg-finite, plus-neg, less-neg, den-neg}
use Rattle.float.proofs.Order.{cross, le→cross, cross→le, lt→cross, cross→lt, eq→cross, cross→eq}
use Rattle.float.proofs.Rounds.{Rounds, rounds-exact}
use Rattle.float.proofs.Operations.{one-sided, add_rounds, sub-rounds, mul-rounds}

-- ---- one number by several fractions
pub value_same : {x : Float} {p n c : ℕ} (q m d : ℕ) → Value x p n c → 0 < c → p * d + m * c ≡ q * c + n * d → Value x q m d
value_same {x} {p} {n} {c} q m d v C h =
    let e = ap (λ (t : ℕ). t * d) v.is in
    let g = ap (λ (t : ℕ). t * den x) h in
    record { number = v.number; is = eq_of_mul-eq-mul_right c C (plus x * d + m * den x) (q * den x + less x * d) (omega arith) }

pub value_of : (x : Float) (s : Bool) (a c : ℕ) → HasValue x s a c → Value x (cond s 0 a) (cond s a 0) c
value_of nan s a c h = absurd h
value_of (inf t) s a c h = absurd h
value_of (fin true m e) true a c h = let g = h.1 in record { number = tt; is = omega arith }
value_of (fin false m e) false a c h = let g = h.1 in record { number = tt; is = omega arith }
value_of (fin true m e) false a c h = absurd (true≢false h.0)
value_of (fin false m e) true a c h = absurd (false≢true h.0)

pub of_int-whole : (f : Format) (z : ℤ) → nat_abs z ≤ 2 ^ prec f → Whole (of_int f z) z
unfolding of_int
of_int-whole f (pos n) h = value_of (round f false n 1) false n 1 (round_whole f false n h)
of_int-whole f (negsuc n) h = value_of (round f true (suc n) 1) true (suc n) 1 (round_whole f true (suc n) h)

pub neg-whole : (x : Float) (z : ℤ) → Whole x z → Whole (neg x) (neg_ℤ z)
neg-whole x z v = let g = v.is in record { number = neg-finite x v.number; is = rw (plus-neg x, less-neg x, den-neg x, (law.negative z).0, (law.negative z).1) (omega arith) }

-- ---- exact operations: the rounded fraction is a whole number z
pub rounds-whole : {f : Format} {x : Float} {p n c : ℕ} (z : ℤ) → Rounds f x p n c → 0 < c → p + parts.dn z * c ≡ parts.up z * c + n → nat_abs z ≤ 2 ^ prec f → Whole x z
rounds-whole {f} {p = p} {n = n} {c = c} z r C e h =
    let v = value_same p n c (of_int-whole f z h) (zero-lt-suc 0) (omega arith) in
    value_same (parts.up z) (parts.dn z) 1 (rounds-exact r C v (of_int-fits f z)) C (omega arith)

pub add-whole : (f : Format) (x y : Float) (a b : ℤ) → Whole x a → Whole y b → nat_abs (a +ℤ b) ≤ 2 ^ prec f → Whole (add f x y) (a +ℤ b)
add-whole f x y a b v w h =
    let e1 = ap (λ (t : ℕ). t * den y) v.is in
    let e2 = ap (λ (t : ℕ). t * den x) w.is in
    let e3 = ap (λ (t : ℕ). t * (den x * den y)) (law.sum a b) in
    rounds-whole (a +ℤ b) (add_rounds f x y v.number w.number) (mul-pos (den_pos x) (den_pos y)) (omega arith) h

pub sub-whole : (f : Format) (x y : Float) (a b : ℤ) → Whole x a → Whole y b → nat_abs (a -ℤ b) ≤ 2 ^ prec f → Whole (sub f x y) (a -ℤ b)
sub-whole f x y a b v w h =
    let e1 = ap (λ (t : ℕ). t * den y) v.is in
    let e2 = ap (λ (t : ℕ). t * den x) w.is in
    let e3 = ap (λ (t : ℕ). t * (den x * den y)) (law.difference a b) in
    rounds-whole (a -ℤ b) (sub-rounds f x y v.number w.number) (mul-pos (den_pos x) (den_pos y)) (omega arith) h

pub mul-whole : (f : Format) (x y : Float) (a b : ℤ) → Whole x a → Whole y b → nat_abs (a *ℤ b) ≤ 2 ^ prec f → Whole (mul f x y) (a *ℤ b)
mul-whole f x y a b v w h =
    let e1 = ap (λ (t : ℕ). t * plus y) v.is in
    let e2 = ap (λ (t : ℕ). t * less y) v.is in
    let e3 = ap (λ (t : ℕ). t * (parts.up a * den x)) w.is in
    let e4 = ap (λ (t : ℕ). t * (parts.dn a * den x)) w.is in
    let e5 = ap (λ (t : ℕ). t * (den x * den y)) (law.product a b) in
    rounds-whole (a *ℤ b) (mul-rounds f x y v.number w.number) (mul-pos (den_pos x) (den_pos y)) (omega arith) h

-- ---- comparison
-- with l + n * D = r + m * D, l and r compare as m and n
module _ {l r m n D : ℕ} (d : 0 < D) (e : l + n * D ≡ r + m * D) where
  le_in : l ≤ r → m ≤ n
  le_in h = let g : m * D ≤ n * D = omega arith in le_of_mul-le-mul_right g d

  le_out : m ≤ n → l ≤ r
  le_out h = let g = mul-le-mul_right D h in omega arith

  lt_in : l < r → m < n
  lt_in h = lt_of_mul-lt-mul_right D (omega arith)

  lt_out : m < n → l < r
  lt_out h = let g = mul-lt-mul_of_pos_right h d in omega arith

  eq-in : l ≡ r → m ≡ n
  eq-in h = eq_of_mul-eq-mul_right D d m n (omega arith)

  eq-out : m ≡ n → l ≡ r
  eq-out h = let g = ap (λ (t : ℕ). t * D) h in omega arith

module _ (x y : Float) (a b : ℤ) (v : Whole x a) (w : Whole y b) where
  shift : cross x y + (parts.up b + parts.dn a) * (den x * den y) ≡ cross y x + (parts.up a + parts.dn b) * (den x * den y)
  shift =
      let e1 = ap (λ (t : ℕ). t * den y) v.is in
      let e2 = ap (λ (t : ℕ). t * den x) w.is in
      omega arith

  dens : 0 < den x * den y
  dens = mul-pos (den_pos x) (den_pos y)

  pub le-whole : le x y ≡ le_z a b
  le-whole =
      same_test (le x y) (le_z a b) (λ h. (law.parts-le {x = a} {y = b} (le_in dens shift (le→cross x y v.number w.number h))).le)
      (λ h. cross→le x y v.number w.number (le_out dens shift (law.le_parts (le_z_yes {a = a} {b = b} h))))

  pub lt-whole : lt x y ≡ lt_z a b
  lt-whole =
      same_test (lt x y) (lt_z a b) (λ h. (law.parts-lt {x = a} {y = b} (lt_in dens shift (lt→cross x y v.number w.number h))).lt)
      (λ h. cross→lt x y v.number w.number (lt_out dens shift (law.lt-parts (lt_z_yes {a = a} {b = b} h))))

  pub eq→whole : T (eq x y) → a ≡ b
  eq→whole h = law.parts-eq (eq-in dens shift (eq→cross x y v.number w.number h))

  pub whole→eq : a ≡ b → T (eq x y)
  whole→eq h = cross→eq x y v.number w.number (eq-out dens shift (law.eq-parts h))

-- ---- its size and its sign
pub whole-num : (x : Float) (z : ℤ) → Whole x z → num x ≡ nat_abs z * den x
whole-num nan z v = absurd v.number
whole-num (inf s) z v = absurd v.number
whole-num (fin true m e) (pos n) v = let g = v.is in omega arith
whole-num (fin true m e) (negsuc n) v = let g = v.is in omega arith
whole-num (fin false m e) (pos n) v = let g = v.is in omega arith
whole-num (fin false m e) (negsuc n) v = let g = v.is in omega arith

pub whole-positive : (y : Float) (d : ℕ) → 0 < d → Whole y (pos d) → (0 < plus y) × (less y ≡ 0)
whole-positive y d D v = elim (one-sided y) [
  | inl e ↦ absurd (no (plus y) (less y) (den y) (mul-pos D (den_pos y)) e v.is)
  | inr e ↦ (yes (plus y) (less y) (den y) (mul-pos D (den_pos y)) e v.is, e)
]
  where
    no : (p l c : ℕ) → 0 < d * c → p ≡ 0 → p * 1 + 0 * c ≡ d * c + l * 1 → ⊥
    no p l c g e h = lt_irrefl 0 (omega arith)

    yes : (p l c : ℕ) → 0 < d * c → l ≡ 0 → p * 1 + 0 * c ≡ d * c + l * 1 → 0 < p
    yes p l c g e h = omega arith

-- ---- a float that is the whole number z is the float of z, or it is -0
-- two numbers of different signs are not equal: their sizes a and (b + 1) * c would have the sum 0
pub never : (a b c : ℕ) → 0 < c → a + (b * c + c) ≡ 0 → ⊥
never a b c h k = omega arith

pub whole_is : (f : Format) (x : Float) (z : ℤ) → T (fits f x) → Whole x z → nat_abs z ≤ 2 ^ prec f → (x ≡ of_int f z) ⊎ ((z ≡ pos 0) × (x ≡ fin true 0 (pos 0)))
unfolding of_int
whole_is f nan z fx v h = absurd v.number
whole_is f (inf s) z fx v h = absurd v.number
whole_is f (fin false m e) (pos n) fx v h =
    let g = v.is in inl (whole_unique f (fin false m e) (round f false n 1) false n fx (round-fits f false n 1) (refl, omega arith) (round_whole f false n h))
whole_is f (fin true m e) (negsuc n) fx v h =
    let g = v.is in inl (whole_unique f (fin true m e) (round f true (suc n) 1) true (suc n) fx (round-fits f true (suc n) 1) (refl, omega arith) (round_whole f true (suc n) h))
whole_is f (fin false m e) (negsuc n) fx v h = let g = v.is in absurd (never (m * up e) n (down e) (down_pos e) (omega arith))
whole_is f (fin true m e) (pos (suc n)) fx v h = let g = v.is in absurd (never (m * up e) n (down e) (down_pos e) (omega arith))
whole_is f (fin true m e) (pos zero) fx v h =
    let g = v.is in
    inr (refl, whole_unique f (fin true m e) (fin true 0 (pos 0)) true 0 fx (unfold fits in tt) (refl, omega arith) (refl, refl))
