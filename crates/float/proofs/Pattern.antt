-- The bits of an f64 as a number. A pattern n below 2 ^ 63 has the exponent's field n / 2 ^ 52 and the digits n % 2 ^ 52.
use Rattle.std.proofs.Common.{◌≡◌, ℕ, zero, suc, ◌+◌, ◌-◌, ◌*◌, ◌/◌, ◌%◌, ◌^◌, ◌<◌, ◌≤◌, Bool, true, false, cond, not, T, eqb, leb, sym, refl, ap, ◌∙◌, subst, inl, inr, lt_irrefl, mod-lt, mod-eq_of_lt, mul_assoc, mul-one, mul_right_comm, arith, lit<, le→leb, eqb→eq, leb→le, pow_pos, pow-add}
use native.Mathlib.Nat.{div-eq_of_lt-le, pow-succ'}
use lib.Dec.{not_T}
use lib.Ieee.{Float, nan, inf, fin, binary64, up, down, odd, of_fields, of_bits, to_bits, fits, is_nan, nan_bits}
use lib.Ieee.Exact.{HasValue, odd_sign}
use lib.Ieee.Bits.{cond_no, of_bits-to_bits, to_bits-lt, nan_bits_is}
use lib.Ieee.Positive.{positive, value_pos, first_pos}
use Rattle.integer.proofs.Test.{is_false, is_true}
use Rattle.float.proofs.Order.{by-test}

-- ---- from a pattern to its number
fields : (x t : ℕ) → x < 2048 → t < 2 ^ 52 → of_bits binary64 (x * 2 ^ 52 + t) ≡ of_fields binary64 false x t
unfolding of_bits
fields x t X K =
    let b = x * 2 ^ 52 + t in
    let lt : b < 2 ^ 63 = omega arith in
    let no : leb (2 ^ 63) b ≡ false = is_false (leb (2 ^ 63) b) (not_T (leb (2 ^ 63) b) (λ g. never b lt (leb→le (2 ^ 63) b g))) in
    let d : b / 2 ^ 52 ≡ x = div-eq_of_lt-le (2 ^ 52) (omega arith) (omega arith) in
    let r : b % 2 ^ 52 ≡ t = omega arith in
    ap (λ (z : Bool). of_fields binary64 z (b % 2 ^ 63 / 2 ^ 52) (b % 2 ^ 52)) no
    ∙ ap (λ (z : ℕ). of_fields binary64 false (z / 2 ^ 52) (b % 2 ^ 52)) (mod-eq_of_lt lt)
    ∙ ap (λ (z : ℕ). of_fields binary64 false z (b % 2 ^ 52)) d
    ∙ ap (λ (z : ℕ). of_fields binary64 false x z) r
  where
    never : (b : ℕ) → b < 2 ^ 63 → 2 ^ 63 ≤ b → ⊥
    never b h k = omega arith

normal : (x t : ℕ) → suc x < 2047 → HasValue (of_fields binary64 false (suc x) t) false ((2 ^ 52 + t) * 2 ^ x) (2 ^ 1074)
unfolding of_fields
normal x t X =
    let no : T (not (eqb (suc x) 2047)) = not_T (eqb (suc x) 2047) (λ g. lt_irrefl 2047 (subst (λ (z : ℕ). z < 2047) (eqb→eq (suc x) 2047 g) X)) in
    subst (λ (z : Float). HasValue z false ((2 ^ 52 + t) * 2 ^ x) (2 ^ 1074)) (sym (cond_no (eqb (suc x) 2047) (cond (eqb t 0) (inf false) nan) (odd 53 false (2 ^ 52 + t) x 1074) no)) (odd_sign 53 false (2 ^ 52 + t) x 1074)

pattern-normal : (x t : ℕ) → suc x < 2047 → t < 2 ^ 52 → HasValue (of_bits binary64 (suc x * 2 ^ 52 + t)) false ((2 ^ 52 + t) * 2 ^ x) (2 ^ 1074)
pattern-normal x t X K = subst (λ (z : Float). HasValue z false ((2 ^ 52 + t) * 2 ^ x) (2 ^ 1074)) (sym (fields (suc x) t (omega arith) K)) (normal x t X)

pattern-subnormal : (t : ℕ) → t < 2 ^ 52 → HasValue (of_bits binary64 t) false (t * 2 ^ 0) (2 ^ 1074)
unfolding of_fields
pattern-subnormal t K =
    let e : t ≡ 0 * 2 ^ 52 + t = omega arith in
    subst (λ (z : Float). HasValue z false (t * 2 ^ 0) (2 ^ 1074)) (sym (ap (of_bits binary64) e ∙ fields 0 t (lit< tt) K)) (odd_sign 53 false t 0 1074)

-- q * 2 ^ x units, for a q from 2 ^ 52 to 2 ^ 53: at 2 ^ 53 the digits run over into the field, as they should
pub pattern-of : (x q : ℕ) → suc (suc x) < 2047 → 2 ^ 52 ≤ q → q ≤ 2 ^ 53 → HasValue (of_bits binary64 (x * 2 ^ 52 + q)) false (q * 2 ^ x) (2 ^ 1074)
pattern-of x q X a b = elim (by-test (2 ^ 53) q) [
  | inl h ↦
      let p = pow-succ' 2 x in
      let e : q ≡ 2 ^ 53 = omega arith in
      let e' = ap (λ (z : ℕ). z * 2 ^ x) e in
      moved (suc x) 0 X (lit< tt) (omega arith) (omega arith)
  | inr h ↦
      let t = q - 2 ^ 52 in
      let e : 2 ^ 52 + t ≡ q = omega arith in
      moved x t (omega arith) (omega arith) (omega arith) (ap (λ (z : ℕ). z * 2 ^ x) e)
]
  where
    moved : (y t : ℕ) → suc y < 2047 → t < 2 ^ 52 → suc y * 2 ^ 52 + t ≡ x * 2 ^ 52 + q → (2 ^ 52 + t) * 2 ^ y ≡ q * 2 ^ x → HasValue (of_bits binary64 (x * 2 ^ 52 + q)) false (q * 2 ^ x) (2 ^ 1074)
    moved y t Y K e v =
        subst (λ (z : ℕ). HasValue (of_bits binary64 z) false (q * 2 ^ x) (2 ^ 1074)) e (subst (λ (z : ℕ). HasValue (of_bits binary64 (suc y * 2 ^ 52 + t)) false z (2 ^ 1074)) v (pattern-normal y t Y K))

pub value-no-nan : (n a c : ℕ) → HasValue (of_bits binary64 n) false a c → T (not (nan_bits binary64 n))
value-no-nan n a c h = subst (λ (b : Bool). T (not b)) (sym (nan_bits_is binary64 n)) (go (of_bits binary64 n) h)
  where
    go : (x : Float) → HasValue x false a c → T (not (is_nan x))
    go nan h = absurd h
    go (inf s) h = absurd h
    go (fin s m e) h = unfold is_nan in tt

-- ---- a value above zero: no sign, and a field below 2047
not_negative : (x t : ℕ) → T (positive (of_fields binary64 true x t)) → ⊥
unfolding of_fields odd
not_negative zero zero p = p
not_negative zero (suc t) p = p
not_negative (suc x) t p = go (eqb (suc x) 2047) (eqb t 0) (2 ^ 52 + t) p
  where
    go : (a b : Bool) (q : ℕ) → T (positive (cond a (cond b (inf true) nan) (odd 53 true q x 1074))) → ⊥
    go true true q p = p
    go true false q p = p
    go false b zero p = p
    go false b (suc q) p = p

not_top : (t : ℕ) → T (positive (of_fields binary64 false 2047 t)) → ⊥
unfolding of_fields
not_top t p = go (eqb t 0) p
  where
    go : (b : Bool) → T (positive (cond b (inf false) nan)) → ⊥
    go true p = p
    go false p = p

as_fields : (n : ℕ) → of_bits binary64 n ≡ of_fields binary64 (leb (2 ^ 63) n) (n % 2 ^ 63 / 2 ^ 52) (n % 2 ^ 52)
unfolding of_bits
as_fields n = refl

positive-pattern : (n : ℕ) → n < 2 ^ 64 → T (positive (of_bits binary64 n)) → n / 2 ^ 52 < 2047
positive-pattern n N p = elim (by-test (2 ^ 63) n) [
  | inl h ↦ absurd (not_negative (n % 2 ^ 63 / 2 ^ 52) (n % 2 ^ 52) (by_sign true (is_true (leb (2 ^ 63) n) (le→leb (2 ^ 63) n h))))
  | inr h ↦ elim (by-test 2047 (n / 2 ^ 52)) [
    | inl k ↦
        let e : n / 2 ^ 52 ≡ 2047 = omega arith in
        absurd (not_top (n % 2 ^ 52)
        (subst (λ (z : ℕ). T (positive (of_fields binary64 false z (n % 2 ^ 52)))) (ap (λ (z : ℕ). z / 2 ^ 52) (mod-eq_of_lt h) ∙ e)
        (by_sign false (is_false (leb (2 ^ 63) n) (not_T (leb (2 ^ 63) n) (λ g. never (leb→le (2 ^ 63) n g) h))))))
    | inr k ↦ k
  ]
]
  where
    by_sign : (b : Bool) → leb (2 ^ 63) n ≡ b → T (positive (of_fields binary64 b (n % 2 ^ 63 / 2 ^ 52) (n % 2 ^ 52)))
    by_sign b e = subst (λ (x : Float). T (positive x)) (as_fields n ∙ ap (λ (b : Bool). of_fields binary64 b (n % 2 ^ 63 / 2 ^ 52) (n % 2 ^ 52)) e) p

    never : 2 ^ 63 ≤ n → n < 2 ^ 63 → ⊥
    never h k = omega arith

-- ---- a value above zero, by the fields of its bits
times : (x : Float) (s : Bool) (a c k : ℕ) → HasValue x s a c → HasValue x s (a * k) (c * k)
times nan s a c k h = h
times (inf t) s a c k h = h
times (fin t m e) s a c k h = (h.0, sym (mul_assoc (m * up e) c k) ∙ ap (λ (z : ℕ). z * k) h.1 ∙ mul_right_comm a (down e) k)

module _ (x : Float) (fx : T (fits binary64 x)) (p : T (positive x)) where
  back : of_bits binary64 (to_bits binary64 x) ≡ x
  back = of_bits-to_bits binary64 x fx

  pub field_lt : to_bits binary64 x / 2 ^ 52 < 2047
  field_lt = positive-pattern (to_bits binary64 x) (to_bits-lt binary64 x fx) (subst (λ (z : Float). T (positive z)) (sym back) p)

  pub low_value : to_bits binary64 x / 2 ^ 52 ≡ 0 → HasValue x false (to_bits binary64 x % 2 ^ 52 * 2 ^ 52) (2 ^ 1126)
  low_value e =
      let n = to_bits binary64 x in
      let d = n % 2 ^ 52 in
      let same : d ≡ n = omega arith in
      subst (λ (z : ℕ). HasValue x false z (2 ^ 1126)) (ap (λ (z : ℕ). z * 2 ^ 52) (mul-one d))
      (times x false (d * 2 ^ 0) (2 ^ 1074) (2 ^ 52) (subst (λ (z : Float). HasValue z false (d * 2 ^ 0) (2 ^ 1074)) (ap (of_bits binary64) same ∙ back) (pattern-subnormal d (mod-lt n (pow_pos 52)))))

  pub low-pos : to_bits binary64 x / 2 ^ 52 ≡ 0 → 0 < to_bits binary64 x % 2 ^ 52
  low-pos e = first_pos (to_bits binary64 x % 2 ^ 52) (2 ^ 52) (value_pos x (to_bits binary64 x % 2 ^ 52 * 2 ^ 52) (2 ^ 1126) p (pow_pos 1126) (low_value e))

  pub high_value : (to_bits binary64 x / 2 ^ 52 ≡ 0 → ⊥) → HasValue x false ((to_bits binary64 x % 2 ^ 52 + 2 ^ 52) * 2 ^ (to_bits binary64 x / 2 ^ 52 + 51)) (2 ^ 1126)
  high_value ne =
      let n = to_bits binary64 x in
      let d = n % 2 ^ 52 in
      let k = n / 2 ^ 52 - 1 in
      let f = field_lt in
      let en : suc k * 2 ^ 52 + d ≡ n = omega arith in
      let ex : k + 52 ≡ n / 2 ^ 52 + 51 = omega arith in
      let ed : 2 ^ 52 + d ≡ d + 2 ^ 52 = omega arith in
      subst (λ (z : ℕ). HasValue x false z (2 ^ 1126))
      (mul_assoc (2 ^ 52 + d) (2 ^ k) (2 ^ 52) ∙ ap (λ (z : ℕ). (2 ^ 52 + d) * z) (sym (pow-add 2 k 52) ∙ ap (λ (z : ℕ). 2 ^ z) ex) ∙ ap (λ (z : ℕ). z * 2 ^ (n / 2 ^ 52 + 51)) ed)
      (times x false ((2 ^ 52 + d) * 2 ^ k) (2 ^ 1074) (2 ^ 52)
      (subst (λ (z : Float). HasValue z false ((2 ^ 52 + d) * 2 ^ k) (2 ^ 1074)) (ap (of_bits binary64) en ∙ back) (pattern-normal k d (omega arith) (mod-lt n (pow_pos 52)))))
