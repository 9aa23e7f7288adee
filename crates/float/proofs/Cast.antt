-- The facts behind the code of `to_i64`, `to_f64`, `abs` and `is_finite`; casts of whole numbers, and `nint`.
use Rattle.std.proofs.Common.{◌≡◌, ℕ, zero, suc, ◌+◌, ◌-◌, ◌*◌, ◌/◌, ◌^◌, ◌<◌, ◌≤◌, min, Bool, true, false, not, T, ℤ, pos, negsuc, neg_ℤ, nat_abs, sym, refl, ap, ◌∙◌, subst, inl, inr, lt_irrefl, mul-le-mul_right, mul-div_cancel, arith, le→leb, lt→ltb, pow_mono}
use lib.Ieee.{Float, nan, inf, fin, binary64, up, down, neg, le, fits, is_nan, to_signed, in_float}
use lib.Ieee.Fits.{down_pos}
use lib.Ieee.Exact.{HasValue}
use Rattle.integer.proofs.Size.{abs_neg}
use Rattle.float.specs.Value.{plus, less, Value, Whole, Bounded}
use Rattle.float.specs.Rounding.{whole_nearest, round_of, abs_of, nint_of}
use Rattle.float.proofs.Whole.{never, value_of, whole-num}
use Rattle.float.proofs.Rounding.{nearest-right, round_exact, integral}
use Rattle.float.proofs.Order.{by-test, cross→le, le_refl}

-- a whole number of at most 2 ^ 53 is exact as a float
pub whole_float : (z : ℤ) {k : ℕ} → nat_abs z ≤ k → k ≤ 2 ^ 53 → T (in_float binary64 z)
unfolding in_float
whole_float (pos n) h b = le→leb n (2 ^ 53) (omega arith)
whole_float (negsuc n) h b = lt→ltb n (2 ^ 53) (omega arith)

pub le-abs : (x : Float) → T (not (is_nan x)) → T (le x (abs_of x))
unfolding is_nan abs_of
le-abs nan p = absurd p
le-abs (inf true) p = unfold le in tt
le-abs (inf false) p = unfold le in tt
le-abs (fin true m e) p = cross→le (fin true m e) (fin false m e) tt tt (omega arith)
le-abs (fin false m e) p = le_refl (fin false m e) p

pub abs_of-neg : (x : Float) → abs_of (neg x) ≡ abs_of x
unfolding neg abs_of
abs_of-neg nan = refl
abs_of-neg (inf s) = refl
abs_of-neg (fin s m e) = refl

-- ---- a whole number is cast to itself
exact : (a c n top : ℕ) → 0 < c → a ≡ n * c → n ≤ top → min (a / c) top ≡ n
exact a c n top C e h = ap (λ k. min (k / c) top) e ∙ ap (λ k. min k top) (mul-div_cancel n C) ∙ omega arith

pub cast-whole : (x : Float) (z : ℤ) → Whole x z → nat_abs z < 2 ^ 63 → to_signed 63 x ≡ z
unfolding to_signed
cast-whole nan z v h = absurd v.number
cast-whole (inf s) z v h = absurd v.number
cast-whole (fin false m e) (pos n) v h = let g = v.is in ap pos (exact (m * up e) (down e) n (2 ^ 63 - 1) (down_pos e) (omega arith) (omega arith))
cast-whole (fin true m e) (negsuc n) v h =
    let g = v.is in ap (λ k. neg_ℤ (pos k)) (exact (m * up e) (down e) (suc n) (2 ^ 63) (down_pos e) (omega arith) (omega arith))
cast-whole (fin true m e) (pos zero) v h =
    let g = v.is in ap (λ k. neg_ℤ (pos k)) (exact (m * up e) (down e) 0 (2 ^ 63) (down_pos e) (omega arith) (omega arith))
cast-whole (fin true m e) (pos (suc n)) v h = let g = v.is in absurd (never (m * up e) n (down e) (down_pos e) (omega arith))
cast-whole (fin false m e) (negsuc n) v h = let g = v.is in absurd (never (m * up e) n (down e) (down_pos e) (omega arith))

-- ---- nint: of a value of at most 2 ^ k in size, and of a whole number
negative : (x : Float) (k : ℕ) → Value x 0 k 1 → Whole x (neg_ℤ (pos k))
negative x zero v = v
negative x (suc k) v = v

by_whole : (x : Float) (z : ℤ) (k : ℕ) → Whole (round_of x) z → nat_abs z ≤ 2 ^ k → k ≤ 53 → nat_abs (nint_of x) ≤ 2 ^ k
unfolding nint_of
by_whole x z k w b l = let p : 2 ^ k ≤ 2 ^ 53 = pow_mono l in subst (λ z. nat_abs z ≤ 2 ^ k) (sym (cast-whole (round_of x) z w (omega arith))) b

pub nint-bounded : (x : Float) (k : ℕ) → T (fits binary64 x) → k ≤ 53 → Bounded k x → nat_abs (nint_of x) ≤ 2 ^ k
nint-bounded nan k fx l b = absurd b.number
nint-bounded (inf s) k fx l b = absurd b.number
nint-bounded (fin s m e) k fx l b =
    let n = whole_nearest (m * up e) (down e) in
    by_sign s n (small (m * up e) (down e) n (down_pos e) (nearest-right (m * up e) (down e) (down_pos e)).from (sized s b.within)) (round_exact s m e fx)
  where
    sized : (s : Bool) → plus (fin s m e) + less (fin s m e) ≤ 2 ^ k * down e → m * up e ≤ 2 ^ k * down e
    sized true h = omega arith
    sized false h = omega arith

    small : (a c n : ℕ) → 0 < c → 2 * (n * c) ≤ 2 * a + c → a ≤ 2 ^ k * c → n ≤ 2 ^ k
    small a c n C h g = elim (by-test n (2 ^ k)) [ inl t ↦ t | inr t ↦ let t' = mul-le-mul_right c t in absurd (lt_irrefl 0 (omega arith)) ]

    by_sign : (s : Bool) (n : ℕ) → n ≤ 2 ^ k → HasValue (round_of (fin s m e)) s n 1 → nat_abs (nint_of (fin s m e)) ≤ 2 ^ k
    by_sign true n b v = let x = fin true m e in by_whole x (neg_ℤ (pos n)) k (negative (round_of x) n (value_of (round_of x) true n 1 v)) (rw abs_neg b) l
    by_sign false n b v = let x = fin false m e in by_whole x (pos n) k (value_of (round_of x) false n 1 v) b l

pub nint-whole : (x : Float) (z : ℤ) → T (fits binary64 x) → Whole x z → nat_abs z < 2 ^ 63 → nint_of x ≡ z
unfolding nint_of
nint-whole x z fx v h = ap (to_signed 63) (sym (integral x (nat_abs z) fx v.number (whole-num x z v)).round) ∙ cast-whole x z v h
