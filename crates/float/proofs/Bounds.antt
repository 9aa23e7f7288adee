-- Bounds on the size of a float, through sums, differences, products and quotients: they rule out NaN and infinity.
use Rattle.std.proofs.Common.{◌≡◌, ℕ, zero, suc, ◌+◌, ◌*◌, ◌%◌, ◌^◌, ◌<◌, ◌≤◌, Bool, true, false, ◌&&◌, T, eqb, ltb, leb, ◌⊎◌, ℤ, pos, nat_abs, refl, ap, inl, inr, le_trans, le_of_eq, mul-le-mul_right, zero-lt-suc, mul-le-mul, mul-pos, le_of_mul-le-mul_right, arith, lt→ltb, pow_mono, pow-add}
use native.Mathlib.Nat.{pow-succ'}
use lib.Pow.{pow-lt}
use lib.Ieee.{Float, nan, inf, fin, Format, binary32, binary64, prec, emax, low, up, down, add, sub, mul, div, le, lt, eq, fits}
use lib.Ieee.Positive.{num, den, den_pos}
use Rattle.integer.proofs.Test.{and_in}
use Rattle.float.specs.Value.{plus, less, Whole, Bounded}
use Rattle.float.specs.Rounding.{abs_of}
use Rattle.float.proofs.Order.{cross, le→cross, between}
use Rattle.float.proofs.Rounds.{Rounds, rounds-mono, self-rounds}
use Rattle.float.proofs.Operations.{one-sided, add_rounds, sub-rounds, mul-rounds, div-rounds}
use Rattle.float.proofs.Whole.{whole-num, whole-positive}

power-fits : (f : Format) (s : Bool) (k : ℕ) → k ≤ emax f → T (fits f (fin s 1 (pos k)))
unfolding fits
power-fits f s k h =
    and_in (eqb (1 % 2) 1 && ltb 1 (2 ^ prec f) && leb 1 (2 ^ low f)) (ltb (1 * 2 ^ k) (2 ^ suc (emax f) * 1))
    (few f) (lt→ltb (1 * 2 ^ k) (2 ^ suc (emax f) * 1) (let g : 2 ^ k < 2 ^ suc (emax f) = pow-lt (next h) in omega arith))
  where
    few : (f : Format) → T (eqb (1 % 2) 1 && ltb 1 (2 ^ prec f) && leb 1 (2 ^ low f))
    few binary32 = tt
    few binary64 = tt

    next : {a b : ℕ} → a ≤ b → a < suc b
    next g = omega arith

pub rounds-bounded : {f : Format} {z : Float} {p n c : ℕ} (k : ℕ) → Rounds f z p n c → 0 < c → k ≤ emax f → p ≤ n + 2 ^ k * c → n ≤ p + 2 ^ k * c → Bounded k z
rounds-bounded {f} {z} k r C K h g =
    let hi = fin false 1 (pos k) in
    let lo = fin true 1 (pos k) in
    let a = rounds-mono r (self-rounds f hi (power-fits f false k K) tt) C (zero-lt-suc 0) (omega arith) in
    let b = rounds-mono (self-rounds f lo (power-fits f true k K) tt) r (zero-lt-suc 0) C (omega arith) in
    let t = between lo z hi tt tt b a in
    let a' = le→cross z hi t tt a in
    let b' = le→cross lo z tt t b in
    record { number = t; within = both (plus z) (less z) (2 ^ k * den z) (one-sided z) (omega arith) (omega arith) }
  where
    both : (p l b : ℕ) → (p ≡ 0) ⊎ (l ≡ 0) → p ≤ b + l → l ≤ p + b → p + l ≤ b
    both p l b (inl e) h k = omega arith
    both p l b (inr e) h k = omega arith

-- ---- where a bound comes from: a larger one, a whole number, a test on the size
pub bounded-up : (j k : ℕ) (x : Float) → j ≤ k → Bounded j x → Bounded k x
bounded-up j k x h a = record { number = a.number; within = le_trans a.within (mul-le-mul_right (den x) (pow_mono h)) }

pub whole-bounded : (k : ℕ) (x : Float) (z : ℤ) → Whole x z → nat_abs z ≤ 2 ^ k → Bounded k x
whole-bounded k x z v h =
    let g = mul-le-mul_right (den x) h in
    let n = whole-num x z v in
    record { number = v.number; within = le_trans (le_of_eq (sum x)) (omega arith) }
  where
    sum : (x : Float) → plus x + less x ≡ num x
    sum nan = refl
    sum (inf s) = refl
    sum (fin true m e) = omega arith
    sum (fin false m e) = omega arith

pub abs-bounded : (k : ℕ) (x y : Float) → T (le (abs_of x) y) → Bounded k y → Bounded k x
unfolding le lt eq abs_of
abs-bounded k nan y h b = absurd h
abs-bounded k (inf s) nan h b = absurd h
abs-bounded k (inf s) (inf true) h b = absurd h
abs-bounded k (inf s) (inf false) h b = absurd b.number
abs-bounded k (inf s) (fin t n d) h b = absurd h
abs-bounded k (fin s m e) y h b =
    record { number = tt; within = le_trans (sized s) (le_of_mul-le-mul_right (below (le→cross (fin false m e) y tt b.number h)) (den_pos y)) }
  where
    sized : (s : Bool) → plus (fin s m e) + less (fin s m e) ≤ m * up e
    sized true = omega arith
    sized false = omega arith

    below : cross (fin false m e) y ≤ cross y (fin false m e) → m * up e * den y ≤ 2 ^ k * down e * den y
    below h = let g = mul-le-mul_right (down e) b.within in omega arith

-- ---- through the operations
pub add-bounded : (f : Format) (k : ℕ) (x y : Float) → suc k ≤ emax f → Bounded k x → Bounded k y → Bounded (suc k) (add f x y)
add-bounded f k x y K a b =
    let g = mul-le-mul_right (den y) a.within in
    let h = mul-le-mul_right (den x) b.within in
    let e = ap (λ (t : ℕ). t * (den x * den y)) (pow-succ' 2 k) in
    rounds-bounded (suc k) (add_rounds f x y a.number b.number) (mul-pos (den_pos x) (den_pos y)) K (omega arith) (omega arith)

pub sub-bounded : (f : Format) (k : ℕ) (x y : Float) → suc k ≤ emax f → Bounded k x → Bounded k y → Bounded (suc k) (sub f x y)
sub-bounded f k x y K a b =
    let g = mul-le-mul_right (den y) a.within in
    let h = mul-le-mul_right (den x) b.within in
    let e = ap (λ (t : ℕ). t * (den x * den y)) (pow-succ' 2 k) in
    rounds-bounded (suc k) (sub-rounds f x y a.number b.number) (mul-pos (den_pos x) (den_pos y)) K (omega arith) (omega arith)

pub mul-bounded : (f : Format) (j k : ℕ) (x y : Float) → j + k ≤ emax f → Bounded j x → Bounded k y → Bounded (j + k) (mul f x y)
mul-bounded f j k x y K a b =
    let g = mul-le-mul a.within b.within in
    let e = ap (λ (t : ℕ). t * (den x * den y)) (pow-add 2 j k) in
    rounds-bounded (j + k) (mul-rounds f x y a.number b.number) (mul-pos (den_pos x) (den_pos y)) K (omega arith) (omega arith)

-- by a value of at least 2 ^ -j: j is 0 for a whole number above zero
pub div-bounded : (f : Format) (j k : ℕ) (x y : Float) → k + j ≤ emax f → Bounded k x → den y ≤ 2 ^ j * plus y → Bounded (k + j) (div f x y)
div-bounded f j k x y K a b =
    let p = above_zero (plus y) (den_pos y) b in
    let g = mul-le-mul a.within b in
    let e = ap (λ (t : ℕ). t * (plus y * den x)) (pow-add 2 k j) in
    rounds-bounded (k + j) (div-rounds f x y a.number p) (mul-pos p (den_pos x)) K (omega arith) (omega arith)
  where
    above_zero : (p : ℕ) → 0 < den y → den y ≤ 2 ^ j * p → 0 < p
    above_zero zero d h = omega arith
    above_zero (suc p) d h = zero-lt-suc p

pub whole-at-least : (y : Float) (d : ℕ) → 0 < d → Whole y (pos d) → den y ≤ 2 ^ 0 * plus y
whole-at-least y d D v =
    let z = (whole-positive y d D v).1 in
    let g = mul-le-mul_right (den y) D in
    let e = v.is in
    omega arith
