-- `sqrt_of` of m * 4 ^ h / 2 ^ 1126, for an m of 53 or 54 digits: q * 2 ^ (h + 485) / 2 ^ 1074, where q is the whole number nearest to the root of m * 2 ^ 52.
-- And the facts behind the code of `sqrt` and `root_of`.
use Rattle.std.proofs.Common.{◌≡◌, ℕ, zero, suc, ◌+◌, ◌*◌, ◌/◌, ◌%◌, ◌^◌, ◌<◌, ◌≤◌, true, false, T, ℤ, sym, refl, ap, ◌∙◌, subst, true≢false, le_of_eq, lt_of_lt_of_le, lt_of_le_of_lt, lt_irrefl, mul-le-mul_right, mul_assoc, mul-lt-mul_of_pos_right, mul-pos, mul_right_comm, mul-div_cancel, mul_left_comm, arith, lit≤, pow_pos, pow-add}
use native.Mathlib.Nat.{pow-succ'}
use lib.Pow.{pow-lt}
use lib.Ieee.{Float, nan, inf, fin, binary64, up, down, size, units, round, fits}
use lib.Ieee.Fits.{down_pos, round-fits, nan-fits, inf-fits}
use lib.Ieee.Exact.{HasValue, units_val}
use Rattle.float.specs.Sqrt.{root, beyond, sqrt_of}
use Rattle.float.proofs.Root.{NearRoot, IsRoot, root_is, four, near_le, near-ge}
use Rattle.float.proofs.SqrtRounding.{sqrt-at}

-- ---- the whole number n = x * 4 ^ 1074 of the definition is m * 2 ^ 52 * 4 ^ (h + 485)
pub scaled : (m h : ℕ) → m * 4 ^ h * 2 ^ 1022 ≡ m * 2 ^ 52 * (2 ^ (h + 485) * 2 ^ (h + 485))
scaled m h =
    ap (λ (z : ℕ). m * z * 2 ^ 1022) (four h)
    ∙ mul_assoc m (2 ^ h * 2 ^ h) (2 ^ 1022)
    ∙ ap (λ (z : ℕ). m * z) (regroup (2 ^ h) (2 ^ 52) (2 ^ 485) (2 ^ 1022) refl)
    ∙ sym (mul_assoc m (2 ^ 52) (2 ^ h * 2 ^ 485 * (2 ^ h * 2 ^ 485)))
    ∙ ap (λ (z : ℕ). m * 2 ^ 52 * (z * z)) (sym (pow-add 2 h 485))
  where
    regroup : (x a b c : ℕ) → c ≡ a * (b * b) → x * x * c ≡ a * (x * b * (x * b))
    regroup x a b c e = ap (λ (z : ℕ). x * x * z) e ∙ simp (mul_assoc, mul_left_comm)

-- powers of two are variables here: omega does not take numerals of that size
pub split-factor : (x c a b : ℕ) → c ≡ a * b → x * c ≡ x * a * b
split-factor x c a b e = ap (λ (z : ℕ). x * z) e ∙ sym (mul_assoc x a b)

units_of : (m : ℕ) (e : ℤ) (a : ℕ) → m * up e * 2 ^ 1126 ≡ a * down e → m * up e * 4 ^ 1074 / down e ≡ a * 2 ^ 1022
units_of m e a v =
    ap (λ (z : ℕ). z / down e) (split-factor (m * up e) (4 ^ 1074) (2 ^ 1126) (2 ^ 1022) refl ∙ ap (λ (z : ℕ). z * 2 ^ 1022) v ∙ mul_right_comm a (down e) (2 ^ 1022))
    ∙ mul-div_cancel (a * 2 ^ 1022) (down_pos e)

sqrt-is : (m : ℕ) (e : ℤ) (n : ℕ) → suc m * up e * 4 ^ 1074 / down e ≡ n → sqrt_of (fin false (suc m) e) ≡ round binary64 false (2 * root (size n) n + beyond (root (size n) n) n) (2 * 2 ^ 1074)
unfolding sqrt_of
sqrt-is m e n h = ap (λ (z : ℕ). round binary64 false (2 * root (size z) z + beyond (root (size z) z) z) (2 * 2 ^ 1074)) h

-- ---- x is m * 4 ^ h / 2 ^ 1126, and q nearest to the root
pub record Split (x : Float) (m h : ℕ) : Type 0 where
  pub is : HasValue x false (m * 4 ^ h) (2 ^ 1126)
  pub from : 2 ^ 52 ≤ m
  pub to : m < 2 ^ 54
  pub room : h < 1049

pub near-bounds : (m q : ℕ) → 2 ^ 52 ≤ m → m < 2 ^ 54 → NearRoot (m * 2 ^ 52) q → (2 ^ 52 ≤ q) × (q ≤ 2 ^ 53)
near-bounds m q a b near =
    (near_le (2 ^ 52) (m * 2 ^ 52) q (mul-le-mul_right (2 ^ 52) a) near, near-ge (2 ^ 53) (m * 2 ^ 52) q (lt_of_lt_of_le (mul-lt-mul_of_pos_right b (pow_pos 52)) (le_of_eq refl)) near)

sqrt-units : (x : Float) (m h q : ℕ) → Split x m h → NearRoot (m * 2 ^ 52) q → sqrt_of x ≡ units binary64 false q (h + 485)
sqrt-units nan m h q s near = absurd s.is
sqrt-units (inf t) m h q s near = absurd s.is
sqrt-units (fin true w e) m h q s near = absurd (true≢false s.is.0)
sqrt-units (fin false zero e) m h q s near =
    absurd (lt_irrefl 0 (lt_of_lt_of_le (mul-pos (mul-pos (lt_of_lt_of_le (pow_pos 52) s.from) (four-pos h)) (down_pos e)) (le_of_eq (sym s.is.1 ∙ nothing (up e) (2 ^ 1126)))))
  where
    nothing : (a b : ℕ) → 0 * a * b ≡ 0
    nothing a b = omega arith

    four-pos : (h : ℕ) → 0 < 4 ^ h
    four-pos h = subst (λ (z : ℕ). 0 < z) (sym (four h)) (mul-pos (pow_pos h) (pow_pos h))
sqrt-units (fin false (suc w) e) m h q s near =
    let N = m * 2 ^ 52 in
    let H = 2 ^ (h + 485) in
    let n = N * (H * H) in
    let r = root (size n) n in
    let k : h + 485 ≡ suc (h + 484) = omega arith in
    sqrt-is w e n (units_of (suc w) e (m * 4 ^ h) s.is.1 ∙ scaled m h)
    ∙ subst (λ (k : ℕ). IsRoot (N * (2 ^ k * 2 ^ k)) r → round binary64 false (2 * r + beyond r (N * (2 ^ k * 2 ^ k))) (2 * 2 ^ 1074) ≡ units binary64 false q k) (sym k)
    (sqrt-at binary64 N q (h + 484) r (mul-le-mul_right (2 ^ 52) s.from) (lt_of_lt_of_le (mul-lt-mul_of_pos_right s.to (pow_pos 52)) (le_of_eq refl)) near) (root_is n)

pub sqrt-value : (x : Float) (m h q : ℕ) → Split x m h → NearRoot (m * 2 ^ 52) q → HasValue (sqrt_of x) false (q * 2 ^ (h + 485)) (2 ^ 1074)
sqrt-value x m h q s near =
    subst (λ (z : Float). HasValue z false (q * 2 ^ (h + 485)) (2 ^ 1074)) (sym (sqrt-units x m h q s near))
    (units_val binary64 false q (h + 485)
    (lt_of_le_of_lt (mul-le-mul_right (2 ^ (h + 485)) (near-bounds m q s.from s.to near).1) (lt_of_le_of_lt (le_of_eq (sym (pow-add 2 53 (h + 485)))) (pow-lt (small h s.room)))))
  where
    small : (h : ℕ) → h < 1049 → 53 + (h + 485) < 2098
    small h H = omega arith

pub sqrt-fits : (x : Float) → T (fits binary64 x) → T (fits binary64 (sqrt_of x))
unfolding sqrt_of
sqrt-fits nan h = nan-fits binary64
sqrt-fits (inf true) h = nan-fits binary64
sqrt-fits (inf false) h = inf-fits binary64 false
sqrt-fits (fin s zero e) h = h
sqrt-fits (fin true (suc m) e) h = nan-fits binary64
sqrt-fits (fin false (suc m) e) h = round-fits binary64 false _ _

-- ---- m * 2 ^ t by the parity of t
double : (h : ℕ) → 2 ^ (h + h) ≡ 4 ^ h
double h = pow-add 2 h h ∙ sym (four h)

half : (t : ℕ) → t < 2098 → t / 2 < 1049
half t h = omega arith

pub split-even : (x : Float) (m t : ℕ) → 2 ^ 52 ≤ m → m < 2 ^ 53 → t < 2098 → t % 2 ≡ 0 → HasValue x false (m * 2 ^ t) (2 ^ 1126) → Split x m (t / 2)
split-even x m t a b c e v =
    let h : t ≡ t / 2 + t / 2 = omega arith in
    record {
      is = subst (λ (z : ℕ). HasValue x false z (2 ^ 1126)) (ap (λ (k : ℕ). m * 2 ^ k) h ∙ ap (λ (k : ℕ). m * k) (double (t / 2))) v;
      from = a;
      to = lt_of_lt_of_le b (lit≤ tt);
      room = half t c;
    }

pub split-odd : (x : Float) (m t : ℕ) → 2 ^ 52 ≤ m → m < 2 ^ 53 → t < 2098 → (t % 2 ≡ 0 → ⊥) → HasValue x false (m * 2 ^ t) (2 ^ 1126) → Split x (m * 2) (t / 2)
split-odd x m t a b c e v =
    let h : t ≡ suc (t / 2 + t / 2) = omega arith in
    record {
      is =
          subst (λ (z : ℕ). HasValue x false z (2 ^ 1126))
          (ap (λ (k : ℕ). m * 2 ^ k) h ∙ ap (λ (k : ℕ). m * k) (pow-succ' 2 (t / 2 + t / 2) ∙ ap (λ (k : ℕ). 2 * k) (double (t / 2))) ∙ sym (mul_assoc m 2 (4 ^ (t / 2)))) v;
      from = omega arith;
      to = omega arith;
      room = half t c;
    }
