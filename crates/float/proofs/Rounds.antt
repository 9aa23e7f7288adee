-- Rounding of a signed fraction (p - n) / c. It keeps the order, over all signs, subnormals and overflow; a value of the format rounds to itself.
use Rattle.std.proofs.Common.{◌≡◌, ℕ, zero, suc, ◌+◌, ◌-◌, ◌*◌, ◌/◌, ◌%◌, ◌^◌, ◌<◌, ◌≤◌, Bool, true, false, cond, ◌&&◌, T, eqb, ltb, leb, ℤ, pos, negsuc, sym, refl, ap, ◌∙◌, subst, inl, inr, lt_of_lt_of_le, le_of_suc-le-suc, lt_irrefl, mul-le-mul_right, zero-lt-suc, mul_assoc, mul_comm, le_antisymm, lt_of_mul-lt-mul_right, mul-lt-mul_of_pos_right, mul-pos, one-mul, lt_of_not-le, mul-one, mul_right_comm, arith, ltb→lt, leb→le, pow_pos, pow_mono, pow-add, shl_lt}
use native.Mathlib.Nat.{eq_of_mul-eq-mul_right}
use lib.Pow.{pow-lt}
use lib.Ieee.{Float, nan, inf, fin, Format, binary32, binary64, prec, emax, low, up, down, size, odd, units, round, neg, le, fits, to_bits, of_bits}
use lib.Ieee.Fits.{down_pos, reach, round-fits}
use lib.Ieee.Exact.{HasValue, round_exact}
use lib.Ieee.Nearest.{div_same}
use lib.Ieee.Order.{round_mono}
use lib.Ieee.Scale.{finite, round_same}
use lib.Ieee.Positive.{den, den_pos}
use lib.Ieee.Bits.{of_bits-to_bits}
use Rattle.integer.proofs.Test.{and_l, and_r}
use Rattle.float.specs.Value.{plus, less, Value, zero_f}
use Rattle.float.proofs.Order.{by-test, le→cross, le_trans, between, neg-le}

-- z is (p - n) / c rounded to the format f. The sign of a zero is left open.
pub data Rounds (f : Format) (z : Float) (p n c : ℕ) : Type 0 where
  over : (a : ℕ) → p ≡ n + a → z ≡ round f false a c → Rounds f z p n c
  under : (a : ℕ) → n ≡ p + a → z ≡ round f true a c → Rounds f z p n c

-- ---- a negative fraction rounds as its size does
odd-neg : (d q k l : ℕ) → odd d true q k l ≡ neg (odd d false q k l)
unfolding odd neg
odd-neg d zero k l = refl
odd-neg d (suc q) k l = refl

units-neg : (f : Format) (q k : ℕ) → units f true q k ≡ neg (units f false q k)
unfolding units neg
units-neg f q k = go (ltb (q * 2 ^ k) (2 ^ (low f + suc (emax f))))
  where
    go : (b : Bool) → cond b (odd (suc (prec f)) true q k (low f)) (inf true) ≡ neg (cond b (odd (suc (prec f)) false q k (low f)) (inf false))
    go true = odd-neg (suc (prec f)) q k (low f)
    go false = refl

pub round-neg : (f : Format) (a c : ℕ) → round f true a c ≡ neg (round f false a c)
unfolding round
round-neg f a c = units-neg f _ _

-- a rounding is one of the number, by whichever fraction
pub rounds-same : {f : Format} {z : Float} {p n c : ℕ} (q m d : ℕ) → Rounds f z p n c → 0 < c → 0 < d → p * d + m * c ≡ q * c + n * d → Rounds f z q m d
rounds-same {f} {c = c} q m d (over a e u) C D h = elim (by-test m q) [
  | inl k ↦
      let b = q - m in
      let eb : q ≡ m + b = omega arith in
      let e' = ap (λ (x : ℕ). x * d) e in
      let eb' = ap (λ (x : ℕ). x * c) eb in
      over b eb (u ∙ round_same f false a c b d C D (omega arith))
  | inr k ↦ let e' = ap (λ (x : ℕ). x * d) e in let g = mul-le-mul_right c k in absurd (lt_irrefl 0 (lt_of_lt_of_le C (omega arith)))
]
rounds-same {f} {c = c} q m d (under a e u) C D h = elim (by-test q m) [
  | inl k ↦
      let b = m - q in
      let eb : m ≡ q + b = omega arith in
      let e' = ap (λ (x : ℕ). x * d) e in
      let eb' = ap (λ (x : ℕ). x * c) eb in
      under b eb (u ∙ round_same f true a c b d C D (omega arith))
  | inr k ↦ let e' = ap (λ (x : ℕ). x * d) e in let g = mul-le-mul_right c k in absurd (lt_irrefl 0 (lt_of_lt_of_le C (omega arith)))
]

-- ---- order
round-zero : (f : Format) (s : Bool) → round f s 0 1 ≡ fin s 0 (pos 0)
unfolding round
round-zero binary32 s = refl
round-zero binary64 s = refl

round-of-zero : (f : Format) (s : Bool) (c : ℕ) → 0 < c → round f s 0 c ≡ fin s 0 (pos 0)
round-of-zero f s c C = round_same f s 0 c 0 1 C (zero-lt-suc 0) (omega arith) ∙ round-zero f s

zero-le : (f : Format) (b d : ℕ) → 0 < d → T (le zero_f (round f false b d))
zero-le f b d D = subst (λ (z : Float). T (le z (round f false b d))) (round-zero f false) (round_mono f 0 1 b d (zero-lt-suc 0) D (omega arith))

-- -a / c ≤ b / d
signs-le : (f : Format) (a c b d : ℕ) → 0 < c → 0 < d → T (le (neg (round f false a c)) (round f false b d))
signs-le f a c b d C D =
    le_trans (neg (round f false a c)) (neg zero_f) (round f false b d) (neg-le zero_f (round f false a c) (zero-le f a c C))
    (le_trans (neg zero_f) zero_f (round f false b d) (unfold le neg in tt) (zero-le f b d D))

pub rounds-mono : {f : Format} {z w : Float} {p n c q m d : ℕ} → Rounds f z p n c → Rounds f w q m d → 0 < c → 0 < d → p * d + m * c ≤ q * c + n * d → T (le z w)
rounds-mono {f} {c = c} {d = d} (over a e u) (over b g v) C D h =
    let i = ap (λ (x : ℕ). x * d) e in
    let j = ap (λ (x : ℕ). x * c) g in
    rw (u, v) (round_mono f a c b d C D (omega arith))
rounds-mono {f} {c = c} {d = d} (under a e u) (under b g v) C D h =
    let i = ap (λ (x : ℕ). x * d) e in
    let j = ap (λ (x : ℕ). x * c) g in
    rw (u, v, round-neg f a c, round-neg f b d) (neg-le (round f false b d) (round f false a c) (round_mono f b d a c D C (omega arith)))
rounds-mono {f} {c = c} {d = d} (under a e u) (over b g v) C D h = rw (u, v, round-neg f a c) (signs-le f a c b d C D)
rounds-mono {f} {c = c} {d = d} (over a e u) (under b g v) C D h =
    let i = ap (λ (x : ℕ). x * d) e in
    let j = ap (λ (x : ℕ). x * c) g in
    let a0 : a ≡ 0 = factor a d D (omega arith) in
    let b0 : b ≡ 0 = factor b c C (omega arith) in
    rw (u, v, a0, b0, round-of-zero f false c C, round-of-zero f true d D) (unfold le in tt)
  where
    factor : (x y : ℕ) → 0 < y → x * y ≤ 0 → x ≡ 0
    factor zero y Y t = refl
    factor (suc x) y Y t = absurd (lt_irrefl 0 (lt_of_lt_of_le (mul-pos (zero-lt-suc x) Y) t))

-- ---- a value of the format rounds to itself
-- two values of a format that are the same number with the same sign have the same bits, and so are the same
same_bits : (f : Format) (s : Bool) (m : ℕ) (e : ℤ) (n : ℕ) (d : ℤ) → m * up e * down d ≡ n * up d * down e → to_bits f (fin s m e) ≡ to_bits f (fin s n d)
unfolding to_bits
same_bits f s m e n d h =
    let k : m * up e * 2 ^ low f / down e ≡ n * up d * 2 ^ low f / down d =
    div_same (m * up e * 2 ^ low f) (down e) (n * up d * 2 ^ low f) (down d) (down_pos e) (down_pos d)
    (mul_right_comm (m * up e) (2 ^ low f) (down d) ∙ ap (λ (x : ℕ). x * 2 ^ low f) h ∙ mul_right_comm (n * up d) (down e) (2 ^ low f)) in
    ap (λ (x : ℕ). cond s (2 ^ (prec f - 1) * suc (2 * emax f + 1)) 0 + (size x - prec f) * 2 ^ (prec f - 1) + x / 2 ^ (size x - prec f)) k

pub unique : (f : Format) (x y : Float) (s : Bool) (a c : ℕ) → 0 < c → T (fits f x) → T (fits f y) → HasValue x s a c → HasValue y s a c → x ≡ y
unique f nan y s a c C p q v w = elim v [ ]
unique f (inf _) y s a c C p q v w = elim v [ ]
unique f (fin t m e) nan s a c C p q v w = elim w [ ]
unique f (fin t m e) (inf _) s a c C p q v w = elim w [ ]
unique f (fin t m e) (fin u n d) s a c C p q v w =
    let k : m * up e * down d ≡ n * up d * down e =
    eq_of_mul-eq-mul_right c C (m * up e * down d) (n * up d * down e)
    (mul_right_comm (m * up e) (down d) c ∙ ap (λ (x : ℕ). x * down d) v.1 ∙ mul_right_comm a (down e) (down d) ∙ ap (λ (x : ℕ). x * down e) (sym w.1) ∙ mul_right_comm (n * up d) c (down e)) in
    let b : to_bits f (fin t m e) ≡ to_bits f (fin u n d) = same_bits f t m e n d k ∙ ap (λ (z : Bool). to_bits f (fin z n d)) (v.0 ∙ sym w.0) in
    sym (of_bits-to_bits f (fin t m e) p) ∙ ap (λ (z : ℕ). of_bits f z) b ∙ of_bits-to_bits f (fin u n d) q

pub pow_le_back : (a l : ℕ) → 2 ^ a ≤ 2 ^ l → a ≤ l
pow_le_back a l h = le_of_suc-le-suc (lt_of_not-le (λ (g : suc l ≤ a). lt_irrefl (2 ^ l) (lt_of_lt_of_le (pow-lt g) h)))

-- the j with 2 ^ e = 2 ^ j / 2 ^ l
pub place : (l : ℕ) (e : ℤ) → down e ≤ 2 ^ l → (j : ℕ) × (up e * 2 ^ l ≡ 2 ^ j * down e)
place l (pos k) h = (k + l, sym (pow-add 2 k l) ∙ sym (mul-one (2 ^ (k + l))))
place l (negsuc k) h =
    let g : suc k ≤ l = pow_le_back (suc k) l h in
    let b : l - suc k + suc k ≡ l = omega arith in
    (l - suc k, one-mul (2 ^ l) ∙ ap (λ (x : ℕ). 2 ^ x) (sym b) ∙ pow-add 2 (l - suc k) (suc k))

-- what `fits` says of a value that is not 0
pub record Fits (f : Format) (m : ℕ) (e : ℤ) : Type 0 where
  pub digits : m < 2 ^ prec f
  pub fine : down e ≤ 2 ^ low f
  pub small : m * up e < 2 ^ suc (emax f) * down e

pub fits-says : (f : Format) (s : Bool) (m : ℕ) (e : ℤ) → T (fits f (fin s (suc m) e)) → Fits f (suc m) e
unfolding fits
fits-says f s m e h =
    let A = eqb (suc m % 2) 1 in
    let B = ltb (suc m) (2 ^ prec f) in
    let C = leb (down e) (2 ^ low f) in
    let D = ltb (suc m * up e) (2 ^ suc (emax f) * down e) in
    record {
      digits = ltb→lt (suc m) (2 ^ prec f) (and_r A B (and_l (A && B) C (and_l (A && B && C) D h)));
      fine = leb→le (down e) (2 ^ low f) (and_r (A && B) C (and_l (A && B && C) D h));
      small = ltb→lt (suc m * up e) (2 ^ suc (emax f) * down e) (and_r (A && B && C) D h);
    }

own_value : (f : Format) (s : Bool) (m : ℕ) (e : ℤ) → T (fits f (fin s m e)) → HasValue (round f s (m * up e) (down e)) s (m * up e) (down e)
own_value f s zero e h = round_exact f s (zero * up e) (down e) 0 0 (down_pos e) (pow_pos (prec f)) (pow_pos (low f + suc (emax f))) (omega arith)
own_value f s (suc m) e h =
    let k = fits-says f s m e h in
    let j = place (low f) e k.fine in
    let val : suc m * up e * 2 ^ low f ≡ suc m * 2 ^ j.0 * down e = mul_assoc (suc m) (up e) (2 ^ low f) ∙ ap (λ (x : ℕ). suc m * x) j.1 ∙ sym (mul_assoc (suc m) (2 ^ j.0) (down e)) in
    let small : suc m * 2 ^ j.0 * down e < 2 ^ (low f + suc (emax f)) * down e =
    subst (λ (x : ℕ). suc m * 2 ^ j.0 * down e < x)
    (mul_right_comm (2 ^ suc (emax f)) (down e) (2 ^ low f) ∙ ap (λ (x : ℕ). x * down e) (mul_comm (2 ^ suc (emax f)) (2 ^ low f) ∙ sym (pow-add 2 (low f) (suc (emax f)))))
    (subst (λ (x : ℕ). x < 2 ^ suc (emax f) * down e * 2 ^ low f) val (mul-lt-mul_of_pos_right k.small (pow_pos (low f)))) in
    round_exact f s (suc m * up e) (down e) (suc m) j.0 (down_pos e) k.digits (lt_of_mul-lt-mul_right (down e) small) val

pub round-self : (f : Format) (s : Bool) (m : ℕ) (e : ℤ) → T (fits f (fin s m e)) → round f s (m * up e) (down e) ≡ fin s m e
round-self f s m e h = unique f (round f s (m * up e) (down e)) (fin s m e) s (m * up e) (down e) (down_pos e) (round-fits f s (m * up e) (down e)) h (own_value f s m e h) (refl, refl)

pub self-rounds : (f : Format) (x : Float) → T (fits f x) → T (finite x) → Rounds f x (plus x) (less x) (den x)
self-rounds f nan h t = absurd t
self-rounds f (inf s) h t = absurd t
self-rounds f (fin true m e) h t = under (m * up e) (omega arith) (sym (round-self f true m e h))
self-rounds f (fin false m e) h t = over (m * up e) (omega arith) (sym (round-self f false m e h))

-- ---- a fraction that some value x of the format equals is not rounded
pub rounds-exact : {f : Format} {z x : Float} {p n c : ℕ} → Rounds f z p n c → 0 < c → Value x p n c → T (fits f x) → Value z p n c
rounds-exact {f} {z} {x} {p} {n} {c} r C v fx =
    let s = self-rounds f x fx v.number in
    let a = rounds-mono r s C (den_pos x) (omega arith) in
    let b = rounds-mono s r (den_pos x) C (omega arith) in
    let t = between x z x v.number v.number b a in
    let e1 = ap (λ (t : ℕ). t * den z) v.is in
    let e2 = ap (λ (t : ℕ). t * c) (le_antisymm (le→cross z x t v.number a) (le→cross x z v.number t b)) in
    record { number = t; is = eq_of_mul-eq-mul_right (den x) (den_pos x) (plus z * c + n * den z) (p * den z + less z * c) (omega arith) }

-- ---- q / 2 ^ t is a value of the format, for a q of at most prec digits
pub dyadic : (f : Format) (s : Bool) (q t : ℕ) → q < 2 ^ prec f → t ≤ low f → HasValue (round f s q (2 ^ t)) s q (2 ^ t)
dyadic f s q t h g =
    let j = low f - t in
    let b : j + t ≡ low f = omega arith in
    let e : 2 ^ low f ≡ 2 ^ j * 2 ^ t = ap (λ (x : ℕ). 2 ^ x) (sym b) ∙ pow-add 2 j t in
    round_exact f s q (2 ^ t) q j (pow_pos t) h
    (lt_of_lt_of_le (shl_lt (prec f) j h) (pow_mono (room (prec f) j (low f) (suc (emax f)) (reach f) (omega arith))))
    (ap (λ (x : ℕ). q * x) e ∙ sym (mul_assoc q (2 ^ j) (2 ^ t)))
  where
    room : (p j l e : ℕ) → p ≤ e → j ≤ l → p + j ≤ l + e
    room p j l e a b = omega arith
