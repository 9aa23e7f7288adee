-- `sqrt_of` is right: the root of x lies nearer to it than to any other value of the format, so that there are no ties, and an exact square has its exact root.
use Rattle.std.proofs.Common.{◌≡◌, ℕ, zero, suc, ◌+◌, ◌-◌, ◌*◌, ◌/◌, ◌%◌, ◌^◌, ◌<◌, ◌≤◌, true, false, T, sym, refl, ap, ◌∙◌, subst, inl, inr, le_trans, le_of_eq, le_refl, lt_of_lt_of_le, lt_of_le_of_lt, le_of_lt, lt_irrefl, mul-le-mul_right, mod-lt, mul_assoc, mul_comm, mul-le-mul, le_antisymm, lt_of_mul-lt-mul_right, mul-lt-mul_of_pos_right, mul-pos, mul_right_comm, arith, lit<, pow_pos, pow_mono, pow-add}
use native.Mathlib.Nat.{mul-mul-mul_comm, pow-succ'}
use lib.Ieee.{Float, nan, inf, fin, binary64, up, down, fits, to_bits}
use lib.Ieee.Exact.{HasValue}
use lib.Ieee.Scale.{finite}
use lib.Ieee.Positive.{positive, num, den, den_pos, own_value, value→cross, positive-finite, positive_of_value}
use Rattle.float.specs.Sqrt.{sqrt_of}
use Rattle.float.specs.CorrectRounding.{Nearer}
use Rattle.float.proofs.Order.{by-test}
use Rattle.float.proofs.Rounds.{unique, place, fits-says}
use Rattle.float.proofs.Root.{NearRoot, near-exists}
use Rattle.float.proofs.Pattern.{field_lt, low-pos, low_value, high_value}
use Rattle.float.proofs.SqrtValue.{Split, scaled, split-factor, split-even, split-odd, near-bounds, sqrt-value, sqrt-fits}
use Rattle.float.proofs.Digits.{Shift, shift-start, shift-more, shift-step}

-- ---- a value above zero as m * 4 ^ h / 2 ^ 1126
abbrev Parts : Float → Type 0
Parts x = (m : ℕ) × (h : ℕ) × Split x m h

by-parity : (x : Float) (m t : ℕ) → 2 ^ 52 ≤ m → m < 2 ^ 53 → t < 2098 → HasValue x false (m * 2 ^ t) (2 ^ 1126) → Parts x
by-parity x m t a b c v = elim (by-test (t % 2) 0) [
  | inl e ↦ (m, t / 2, split-even x m t a b c (omega arith) v)
  | inr e ↦ (m * 2, t / 2, split-odd x m t a b c (λ z. lt_irrefl 0 (omega arith)) v)
]

moved_up : (t d m : ℕ) → 0 < d → Shift d m t → (m' : ℕ) × (t' : ℕ) × (2 ^ 52 ≤ m') × Shift d m' t'
moved_up zero d m D s = elim (by-test (2 ^ 52) m) [ inl h ↦ (m, zero, h, s) | inr h ↦ absurd (lt_irrefl 0 (shift-more d m zero s D h)) ]
moved_up (suc t) d m D s = elim (by-test (2 ^ 52) m) [
  | inl h ↦ (m, suc t, h, s)
  | inr h ↦ let e : suc t - 1 ≡ t = omega arith in moved_up t d (m * 2) D (subst (λ (k : ℕ). Shift d (m * 2) k) e (shift-step d m (suc t) s D h))
]

split : (x : Float) → T (fits binary64 x) → T (positive x) → Parts x
split x fx p = elim (by-test (to_bits binary64 x / 2 ^ 52) 0) [
  | inl h ↦
      let n = to_bits binary64 x in
      let e : n / 2 ^ 52 ≡ 0 = omega arith in
      let d = low-pos x fx p e in
      let s = moved_up 52 (n % 2 ^ 52) (n % 2 ^ 52) d (shift-start (n % 2 ^ 52) d (mod-lt n (pow_pos 52))) in
      by-parity x s.0 s.1 s.2 s.3.below (lt_of_le_of_lt s.3.passed (lit< tt)) (subst (λ (z : ℕ). HasValue x false z (2 ^ 1126)) (sym s.3.is) (low_value x fx p e))
  | inr h ↦
      let f = field_lt x fx p in
      by-parity x (to_bits binary64 x % 2 ^ 52 + 2 ^ 52) (to_bits binary64 x / 2 ^ 52 + 51) (omega arith) (omega arith) (omega arith) (high_value x fx p (λ e. lt_irrefl 0 (omega arith)))
]

-- ---- the values M * 2 ^ j beside q * 2 ^ H, q of 53 digits
module _ (q H M j : ℕ) (lo : 2 ^ 52 ≤ q) (digits : M < 2 ^ 53) where
  apart : H ≤ j → M * 2 ^ j ≡ M * 2 ^ (j - H) * 2 ^ H
  apart h = let e : j ≡ j - H + H = omega arith in ap (λ (x : ℕ). M * 2 ^ x) e ∙ ap (λ (x : ℕ). M * x) (pow-add 2 (j - H) H) ∙ sym (mul_assoc M (2 ^ (j - H)) (2 ^ H))

  short : j < H → M * 2 ^ j < 2 ^ 52 * 2 ^ H
  short h =
      lt_of_lt_of_le (mul-lt-mul_of_pos_right digits (pow_pos j))
      (le_trans (le_of_eq (mul_assoc (2 ^ 52) 2 (2 ^ j) ∙ ap (λ (x : ℕ). 2 ^ 52 * x) (sym (pow-succ' 2 j)))) (mul-le-mul (le_refl (2 ^ 52)) (pow_mono h)))

  next-above : q * 2 ^ H < M * 2 ^ j → (q + 1) * 2 ^ H ≤ M * 2 ^ j
  next-above g = elim (by-test H j) [
    | inl h ↦
        let e = apart h in
        let k : q < M * 2 ^ (j - H) = lt_of_mul-lt-mul_right (2 ^ H) (lt_of_lt_of_le g (le_of_eq e)) in
        le_trans (mul-le-mul_right (2 ^ H) (one_more q (M * 2 ^ (j - H)) k)) (le_of_eq (sym e))
    | inr h ↦ absurd (lt_irrefl (q * 2 ^ H) (lt_of_lt_of_le g (le_trans (le_of_lt (short h)) (mul-le-mul_right (2 ^ H) lo))))
  ]
    where
      one_more : (a b : ℕ) → a < b → a + 1 ≤ b
      one_more a b h = omega arith

  next-below : 2 ^ 52 < q → M * 2 ^ j < q * 2 ^ H → M * 2 ^ j + 2 ^ H ≤ q * 2 ^ H
  next-below more g = elim (by-test H j) [
    | inl h ↦
        let e = apart h in
        let k : M * 2 ^ (j - H) < q = lt_of_mul-lt-mul_right (2 ^ H) (lt_of_le_of_lt (le_of_eq (sym e)) g) in
        le_trans (le_of_eq (ap (λ (x : ℕ). x + 2 ^ H) e)) (step (M * 2 ^ (j - H)) q (2 ^ H) k)
    | inr h ↦ fit (M * 2 ^ j) (2 ^ H) (q * 2 ^ H) (short h) (mul-le-mul_right (2 ^ H) more)
  ]
    where
      step : (a b w : ℕ) → a < b → a * w + w ≤ b * w
      step a b w h = let g = mul-le-mul_right w h in omega arith

      fit : (y w x : ℕ) → y < 2 ^ 52 * w → suc (2 ^ 52) * w ≤ x → y + w ≤ x
      fit y w x s t = omega arith

-- ---- the middle of q * w and Y, against the root of N * w ^ 2
module _ (N q w Y : ℕ) (W : 0 < w) where
  square : (a : ℕ) → a * w * (a * w) ≡ a * a * (w * w)
  square a = mul-mul-mul_comm a w a w

  over-mid : (a : ℕ) → 4 * N < a * a → a * w ≤ q * w + Y → 4 * (N * (w * w)) < (q * w + Y) * (q * w + Y)
  over-mid a h k =
      lt_of_le_of_lt (le_of_eq (sym (mul_assoc 4 N (w * w))))
      (lt_of_lt_of_le (mul-lt-mul_of_pos_right h (mul-pos W W)) (le_trans (le_of_eq (sym (square a))) (mul-le-mul k k)))

  under-mid : (a : ℕ) → a * a < 4 * N → q * w + Y ≤ a * w → (q * w + Y) * (q * w + Y) < 4 * (N * (w * w))
  under-mid a h k =
      lt_of_le_of_lt (le_trans (mul-le-mul k k) (le_of_eq (square a)))
      (lt_of_lt_of_le (mul-lt-mul_of_pos_right h (mul-pos W W)) (le_of_eq (mul_assoc 4 N (w * w))))

  above-mid : NearRoot N q → (q + 1) * w ≤ Y → 4 * (N * (w * w)) < (q * w + Y) * (q * w + Y)
  above-mid near h = over-mid (2 * q + 1) (let g = near.high in omega arith) (omega arith)

  below-mid : NearRoot N q → 0 < q → Y + w ≤ q * w → (q * w + Y) * (q * w + Y) < 4 * (N * (w * w))
  below-mid near p h = go q p refl
    where
      go : (z : ℕ) → 0 < z → q ≡ z → (q * w + Y) * (q * w + Y) < 4 * (N * (w * w))
      go zero p e = absurd (lt_irrefl 0 p)
      go (suc z) p e =
          let e1 = ap (λ (x : ℕ). x * w) e in
          let e2 = ap (λ (x : ℕ). x * x) e in
          under-mid (2 * z + 1) (let g = near.low in omega arith) (omega arith)

  -- where the root is not below q, a Y below is farther
  exact-mid : q * q ≤ N → Y < q * w → (q * w + Y) * (q * w + Y) < 4 * (N * (w * w))
  exact-mid h g =
      let k : q * w + Y < 2 * q * w = omega arith in
      lt_of_lt_of_le (square-lt (q * w + Y) (2 * q * w) k)
      (le_trans (le_of_eq (square (2 * q))) (le_trans (mul-le-mul_right (w * w) (four-times q N h)) (le_of_eq (mul_assoc 4 N (w * w)))))
    where
      four-times : (q N : ℕ) → q * q ≤ N → 2 * q * (2 * q) ≤ 4 * N
      four-times q N h = omega arith

      square-lt : (a b : ℕ) → a < b → a * a < b * b
      square-lt a b h = lt_of_le_of_lt (mul-le-mul (le_refl a) (le_of_lt h)) (mul-lt-mul_of_pos_right h (above a b h))
        where
          above : (a b : ℕ) → a < b → 0 < b
          above a b h = omega arith

-- ---- from units of 2 ^ -1074 to fractions: x is n / L ^ 2, r is R / L, y is Y / L
module _ (nx dx nr dr ny dy L n R Y : ℕ) (l : 0 < L) (X : 0 < dx) (D : 0 < dr * dy) (ex : nx * (L * L) ≡ n * dx) (er : nr * L ≡ R * dr) (ey : ny * L ≡ Y * dy) where
  sum_is : (nr * dy + ny * dr) * L ≡ (R + Y) * (dr * dy)
  sum_is =
      let a = ap (λ (t : ℕ). t * dy) er in
      let b = ap (λ (t : ℕ). t * dr) ey in
      omega arith

  left_is : 4 * nx * ((dr * dy) * (dr * dy)) * (L * L) ≡ 4 * n * (dx * ((dr * dy) * (dr * dy)))
  left_is =
      mul_right_comm (4 * nx) ((dr * dy) * (dr * dy)) (L * L)
      ∙ ap (λ (t : ℕ). t * ((dr * dy) * (dr * dy))) (mul_assoc 4 nx (L * L) ∙ ap (λ (t : ℕ). 4 * t) ex ∙ sym (mul_assoc 4 n dx))
      ∙ mul_assoc (4 * n) dx ((dr * dy) * (dr * dy))

  right_is : (nr * dy + ny * dr) * (nr * dy + ny * dr) * dx * (L * L) ≡ (R + Y) * (R + Y) * (dx * ((dr * dy) * (dr * dy)))
  right_is =
      let S = nr * dy + ny * dr in
      let E = dr * dy in
      mul_right_comm (S * S) dx (L * L)
      ∙ ap (λ (t : ℕ). t * dx) (mul-mul-mul_comm S S L L ∙ ap (λ (t : ℕ). t * t) sum_is ∙ mul-mul-mul_comm (R + Y) E (R + Y) E)
      ∙ mul_assoc ((R + Y) * (R + Y)) (E * E) dx ∙ ap (λ (t : ℕ). (R + Y) * (R + Y) * t) (mul_comm (E * E) dx)

  P : 0 < dx * ((dr * dy) * (dr * dy))
  P = mul-pos X (mul-pos D D)

  over-fraction : 4 * n < (R + Y) * (R + Y) → 4 * nx * ((dr * dy) * (dr * dy)) < (nr * dy + ny * dr) * (nr * dy + ny * dr) * dx
  over-fraction h = lt_of_mul-lt-mul_right (L * L) (lt_of_le_of_lt (le_of_eq left_is) (lt_of_lt_of_le (mul-lt-mul_of_pos_right h P) (le_of_eq (sym right_is))))

  under-fraction : (R + Y) * (R + Y) < 4 * n → (nr * dy + ny * dr) * (nr * dy + ny * dr) * dx < 4 * nx * ((dr * dy) * (dr * dy))
  under-fraction h = lt_of_mul-lt-mul_right (L * L) (lt_of_le_of_lt (le_of_eq right_is) (lt_of_lt_of_le (mul-lt-mul_of_pos_right h P) (le_of_eq (sym left_is))))

lift : (na da nb db L A B : ℕ) → 0 < L → na * L ≡ A * da → nb * L ≡ B * db → na * db < nb * da → A < B
lift na da nb db L A B l ea eb h =
    let h' = mul-lt-mul_of_pos_right h l in
    let a = ap (λ (t : ℕ). t * db) ea in
    let b = ap (λ (t : ℕ). t * da) eb in
    let g : A * (da * db) < B * (da * db) = omega arith in
    lt_of_mul-lt-mul_right (da * db) g

-- the size of a value, in units
units_of : (y : Float) → T (fits binary64 y) → T (finite y) → (M : ℕ) × (j : ℕ) × (M < 2 ^ 53) × (num y * 2 ^ 1074 ≡ M * 2 ^ j * den y)
units_of nan fy p = absurd p
units_of (inf s) fy p = absurd p
units_of (fin s zero e) fy p = (0, 0, lit< tt, nothing (up e) (2 ^ 1074) (down e))
  where
    nothing : (a b c : ℕ) → 0 * a * b ≡ 0 * 1 * c
    nothing a b c = omega arith
units_of (fin s (suc w) e) fy p =
    let f = fits-says binary64 s w e fy in
    let P = place 1074 e f.fine in
    (suc w, P.0, f.digits, mul_assoc (suc w) (up e) (2 ^ 1074) ∙ ap (λ (x : ℕ). suc w * x) P.1 ∙ sym (mul_assoc (suc w) (2 ^ P.0) (down e)))

-- ---- the theorem: the root of x lies nearer to r than to y
pub sqrt-nearest : (x y : Float) → T (fits binary64 x) → T (positive x) → T (fits binary64 y) → T (finite y) → Nearer x (sqrt_of x) y
sqrt-nearest x y fx px fy py =
    let S = split x fx px in
    let m = S.0 in
    let h = S.1 in
    let s = S.2 in
    let N = m * 2 ^ 52 in
    let E = near-exists N (mul-pos (lt_of_lt_of_le (pow_pos 52) s.from) (pow_pos 52)) in
    let q = E.0 in
    let near = E.1 in
    let b = near-bounds m q s.from s.to near in
    let H = h + 485 in
    let W = 2 ^ H in
    let r = sqrt_of x in
    let er = value→cross r (q * W) (2 ^ 1074) (sqrt-value x m h q s near) in
    let U = units_of y fy py in
    let Y = U.0 * 2 ^ U.1 in
    let ex : num x * (2 ^ 1074 * 2 ^ 1074) ≡ N * (W * W) * den x =
    split-factor (num x) (2 ^ 1074 * 2 ^ 1074) (2 ^ 1126) (2 ^ 1022) refl ∙ ap (λ (z : ℕ). z * 2 ^ 1022) (value→cross x (m * 4 ^ h) (2 ^ 1126) s.is)
    ∙ mul_right_comm (m * 4 ^ h) (den x) (2 ^ 1022) ∙ ap (λ (z : ℕ). z * den x) (scaled m h) in
    let D = mul-pos (den_pos r) (den_pos y) in
    record {
      above = λ g. over-fraction (num x) (den x) (num r) (den r) (num y) (den y) (2 ^ 1074) (N * (W * W)) (q * W) Y (pow_pos 1074) (den_pos x) D ex er U.3
          (above-mid N q W Y (pow_pos H) near (next-above q H U.0 U.1 b.0 U.2 (lift (num r) (den r) (num y) (den y) (2 ^ 1074) (q * W) Y (pow_pos 1074) er U.3 g)));
      below = λ g. under-fraction (num x) (den x) (num r) (den r) (num y) (den y) (2 ^ 1074) (N * (W * W)) (q * W) Y (pow_pos 1074) (den_pos x) D ex er U.3
          (low-side N q W Y (pow_pos H) near (mul-le-mul_right (2 ^ 52) s.from) b.0 (lift (num y) (den y) (num r) (den r) (2 ^ 1074) Y (q * W) (pow_pos 1074) U.3 er g)
          (λ more. next-below q H U.0 U.1 b.0 U.2 more (lift (num y) (den y) (num r) (den r) (2 ^ 1074) Y (q * W) (pow_pos 1074) U.3 er g)));
    }
  where
    low-side : (N q w Y : ℕ) → 0 < w → NearRoot N q → 2 ^ 52 * 2 ^ 52 ≤ N → 2 ^ 52 ≤ q → Y < q * w → (2 ^ 52 < q → Y + w ≤ q * w) → (q * w + Y) * (q * w + Y) < 4 * (N * (w * w))
    low-side N q w Y W near l a g k = elim (by-test q (2 ^ 52)) [
      | inl b ↦ exact-mid N q w Y W (le_trans (mul-le-mul b b) l) g
      | inr c ↦ below-mid N q w Y W near (lt_of_lt_of_le (pow_pos 52) a) (k c)
    ]

pub sqrt-positive : (x : Float) → T (fits binary64 x) → T (positive x) → T (positive (sqrt_of x))
sqrt-positive x fx px =
    let S = split x fx px in
    let s = S.2 in
    let E = near-exists (S.0 * 2 ^ 52) (mul-pos (lt_of_lt_of_le (pow_pos 52) s.from) (pow_pos 52)) in
    let b = near-bounds S.0 E.0 s.from s.to E.1 in
    positive_of_value (sqrt_of x) (E.0 * 2 ^ (S.1 + 485)) (2 ^ 1074) (sqrt-value x S.0 S.1 E.0 s E.1) (mul-pos (lt_of_lt_of_le (pow_pos 52) b.0) (pow_pos (S.1 + 485)))

-- ---- x is the square of y: its root is y
twice-square : (nx dx dr ny dy : ℕ) → nx * (dy * dy) ≡ ny * ny * dx → 4 * nx * ((dr * dy) * (dr * dy)) ≡ 4 * (ny * dr * (ny * dr)) * dx
twice-square nx dx dr ny dy e = let e' = ap (λ (t : ℕ). t * (dr * dr)) e in omega arith

pub sqrt-exact : (x y : Float) → T (fits binary64 x) → T (positive x) → T (fits binary64 y) → T (positive y) → num x * (den y * den y) ≡ num y * num y * den x → sqrt_of x ≡ y
sqrt-exact x y fx px fy py e =
    let r = sqrt_of x in
    let n = sqrt-nearest x y fx px fy (positive-finite y py) in
    let v = twice-square (num x) (den x) (den r) (num y) (den y) e in
    let a = no_more (λ g. never-above (num r * den y) (num y * den r) (den x) g (lt_of_le_of_lt (le_of_eq (sym v)) (n.above g))) in
    let b = no_more (λ g. never-below (num r * den y) (num y * den r) (den x) g (lt_of_lt_of_le (n.below g) (le_of_eq v))) in
    unique binary64 r y false (num y) (den y) (den_pos y) (sqrt-fits x fx) fy (by-cross r (sqrt-positive x fx px) (le_antisymm b a)) (own_value y py)
  where
    no_more : {a b : ℕ} → (a < b → ⊥) → b ≤ a
    no_more h = omega arith

    never-above : (a b d : ℕ) → a < b → 4 * (b * b) * d < (a + b) * (a + b) * d → ⊥
    never-above a b d h k =
        let l : a + b ≤ 2 * b = omega arith in
        let s = mul-le-mul l l in
        let t = mul-le-mul_right d s in
        lt_irrefl 0 (omega arith)

    never-below : (a b d : ℕ) → b < a → (a + b) * (a + b) * d < 4 * (b * b) * d → ⊥
    never-below a b d h k =
        let l : 2 * b ≤ a + b = omega arith in
        let s = mul-le-mul l l in
        let t = mul-le-mul_right d s in
        lt_irrefl 0 (omega arith)

    by-cross : (r : Float) → T (positive r) → num r * den y ≡ num y * den r → HasValue r false (num y) (den y)
    by-cross nan p h = absurd p
    by-cross (inf s) p h = absurd p
    by-cross (fin true m e) p h = absurd p
    by-cross (fin false m e) p h = (refl, h)
