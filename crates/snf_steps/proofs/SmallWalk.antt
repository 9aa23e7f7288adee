-- The walk of small numbers: why no division of it overflows.
use mathlib.Core.Path.{◌≡◌, sym, ◌∙◌, ap}
use mathlib.Core.Bool.{◌&&◌}
use Prim.Native.Nat.{ℕ, zero, suc, ◌+◌, ◌*◌, ◌/◌, ◌%◌, ◌≤◌, ◌<◌}
use native.Mathlib.Nat.{le_trans, le_of_eq, le_of_lt, lt_of_le_of_lt, lt_of_lt_of_le, add-le-add, mul-le-mul, le_refl, div-le_self, div-add-mod'}
use native.Mathlib.Omega.{arith}
use lib.Dec.{T, leb, ltb, leb→le, ltb→lt, lit<}
use lib.IntN.{ℤ, pos, negsuc, neg_ℤ, nat_abs, ◌*ℤ◌, ◌-ℤ◌}
use lib.Signed.{lt_z, non_neg}
use mir.Syntax.{w64}
use mir.Val.{SFits, to_z}
use mir.Facts.{to_z-of_z}
use Rattle.std.specs.Prelude.{Some}
use Rattle.integer.specs.Checked.{fits64}
use Rattle.integer.specs.Division.{div_euclid, rem_euclid}
use Rattle.integer.proofs.Test.{and_l, and_r, and_in, is_true}
use Rattle.integer.proofs.Size.{abs_neg, abs-mul, abs-add}
use Rattle.integer.proofs.Division.{rem-euclid-nonneg, rem-euclid-lt}
use Rattle.integer.proofs.Quotient.{rem-sfits}
use Rattle.integer.proofs.Fits.{held, fits-of, held_of, size_fits}
use Rattle.snf_steps.specs.Then.{provided}
use Rattle.snf_steps.specs.declared.gcd.Euclid.{Euclid}
use Rattle.snf_steps.specs.Gcd.{less_fits, step_fits, next, step}
use Rattle.snf_steps.specs.Code.SmallWalk.{small_remainder, small_remainders, small_coefficient, small_pair, small_coefficients, small, Room}

-- ---- by sizes: r = q·d + m, and s and s' are the coefficients of r and d
module _ (r d q m s s' k : ℕ) (e : q * d + m ≡ r) (h : s' * r + s * d ≤ k) where
  kept : (s + q * s') * d + s' * m ≤ k
  kept = le_trans (le_of_eq (regroup q m d s s' ∙ ap (λ (n : ℕ). s' * n + s * d) e)) h
    where
      regroup : (q m d s s' : ℕ) → (s + q * s') * d + s' * m ≡ s' * (q * d + m) + s * d
      regroup q m d s s' = omega arith

  coefficient-within : 0 < d → s + q * s' ≤ k
  coefficient-within n = le_trans (times (s + q * s') d n) (le_trans (left ((s + q * s') * d) (s' * m)) kept)
    where
      times : (a d : ℕ) → 0 < d → a ≤ a * d
      times a zero n = omega arith
      times a (suc d) n = omega arith

      left : (a b : ℕ) → a ≤ a + b
      left a b = omega arith

whole : (r d : ℤ) → T (non_neg r) → T (non_neg d) → nat_abs (div_euclid r d) * nat_abs d + nat_abs (rem_euclid r d) ≡ nat_abs r
whole (pos a) (pos b) p p' = div-add-mod' a b
whole (pos a) (negsuc b) p p' = absurd p'
whole (negsuc a) d p p' = absurd p

-- ---- one division
module _ (r d s s' : ℤ) (p : T (non_neg r)) (p' : T (non_neg d)) (h : nat_abs s' * nat_abs r + nat_abs s * nat_abs d ≤ 0x2000000000000000) where
  abbrev q : ℤ
  q = div_euclid r d

  abbrev m : ℤ
  m = rem_euclid r d

  next-size : nat_abs (s -ℤ q *ℤ s') ≤ nat_abs s + nat_abs q * nat_abs s'
  next-size = le_trans (abs-add s (neg_ℤ (q *ℤ s'))) (le_of_eq (ap (λ (n : ℕ). nat_abs s + n) (abs_neg (q *ℤ s') ∙ abs-mul q s')))

  room-kept : nat_abs (s -ℤ q *ℤ s') * nat_abs d + nat_abs s' * nat_abs m ≤ 0x2000000000000000
  room-kept =
      le_trans (add-le-add (mul-le-mul next-size (le_refl (nat_abs d))) (le_refl (nat_abs s' * nat_abs m)))
      (kept (nat_abs r) (nat_abs d) (nat_abs q) (nat_abs m) (nat_abs s) (nat_abs s') 0x2000000000000000 (whole r d p p') h)

  within : 0 < nat_abs d → nat_abs s + nat_abs q * nat_abs s' ≤ 0x2000000000000000
  within n = coefficient-within (nat_abs r) (nat_abs d) (nat_abs q) (nat_abs m) (nat_abs s) (nat_abs s') 0x2000000000000000 (whole r d p p') h n

  coefficient-fits : 0 < nat_abs d → T (less_fits s q s')
  coefficient-fits n =
      and_in (fits64 (q *ℤ s')) (fits64 (s -ℤ q *ℤ s'))
      (size_fits (q *ℤ s') (below (nat_abs s) (abs-mul q s') (within n)))
      (size_fits (s -ℤ q *ℤ s') (lt_of_le_of_lt (le_trans next-size (within n)) (lit< tt)))
    where
      below : (a : ℕ) {b c : ℕ} → b ≡ c → a + c ≤ 0x2000000000000000 → b < 0x8000000000000000
      below a e l = omega arith

module _ (e : Euclid) (h : Room e) (n : 0 < nat_abs e.r1) where
  abbrev quotient : ℤ
  quotient = div_euclid e.r e.r1

  pub s-fits : T (less_fits e.s quotient e.s1)
  s-fits = coefficient-fits e.r e.r1 e.s e.s1 h.sign h.sign1 h.s n

  pub t-fits : T (less_fits e.t quotient e.t1)
  t-fits = coefficient-fits e.r e.r1 e.t e.t1 h.sign h.sign1 h.t n

  least : nat_abs (rem_euclid e.r e.r1) ≤ 0x40000000
  least = le_of_lt (lt_of_lt_of_le (rem-euclid-lt e.r e.r1 n) h.size1)

  quotient-size : nat_abs quotient ≤ 0x40000000
  quotient-size = at e.r e.r1 h.sign h.sign1 h.size
    where
      at : (r d : ℤ) → T (non_neg r) → T (non_neg d) → nat_abs r ≤ 0x40000000 → nat_abs (div_euclid r d) ≤ 0x40000000
      at (pos a) (pos b) p p' l = le_trans (div-le_self a b) l
      at (pos a) (negsuc b) p p' l = absurd p'
      at (negsuc a) d p p' l = absurd p

  pub next-room : Room (next quotient e)
  next-room = record {
    sign = h.sign1;
    sign1 = (rem-euclid-nonneg e.r e.r1).sign;
    size = h.size1;
    size1 = least;
    s = room-kept e.r e.r1 e.s e.s1 h.sign h.sign1 h.s;
    t = room-kept e.r e.r1 e.t e.t1 h.sign h.sign1 h.t;
  }

  pub steps-to : Some (next quotient e) ≡ step e
  unfolding step
  steps-to =
      sym (ap (λ t. provided t (next quotient e)) (is_true (step_fits quotient e)
      (and_in (fits64 quotient) (less_fits e.s quotient e.s1 && less_fits e.t quotient e.t1) (size_fits quotient (lt_of_le_of_lt quotient-size (lit< tt)))
      (and_in (less_fits e.s quotient e.s1) (less_fits e.t quotient e.t1) s-fits t-fits))))

-- ---- what the code works out
module _ (e : Euclid) (h : Room e) (n : 0 < nat_abs e.r1) (f : SFits w64 e.r) (g : SFits w64 e.r1) where
  pub quotient-is : to_z w64 (nat_abs (held e.r) / nat_abs (held e.r1)) ≡ div_euclid e.r e.r1
  quotient-is = (λ i. to_z w64 (nat_abs (to_z-of_z f i) / nat_abs (to_z-of_z g i))) ∙ exact e.r e.r1 h.sign h.sign1 f
    where
      exact : (r d : ℤ) → T (non_neg r) → T (non_neg d) → SFits w64 r → to_z w64 (nat_abs r / nat_abs d) ≡ div_euclid r d
      exact (pos a) (pos b) p p' f = to_z-of_z {w = w64} {z = pos (a / b)} (record { sfits = lt_of_le_of_lt (div-le_self a b) f.sfits })
      exact (pos a) (negsuc b) p p' f = absurd p'
      exact (negsuc a) d p p' f = absurd p

  pub remainder-is : to_z w64 (nat_abs (held e.r) % nat_abs (held e.r1)) ≡ rem_euclid e.r e.r1
  remainder-is = (λ i. to_z w64 (nat_abs (to_z-of_z f i) % nat_abs (to_z-of_z g i))) ∙ exact e.r e.r1 h.sign (rem-sfits e.r e.r1 g n)
    where
      exact : (r d : ℤ) → T (non_neg r) → SFits w64 (rem_euclid r d) → to_z w64 (nat_abs r % nat_abs d) ≡ rem_euclid r d
      exact (pos a) d p f = to_z-of_z f
      exact (negsuc a) d p f = absurd p

module _ (x q y : ℤ) {q' : ℤ} (e : q' ≡ q) (f : SFits w64 x) (g : SFits w64 y) (t : T (less_fits x q y)) where
  product-is : q' *ℤ held y ≡ q *ℤ y
  product-is i = e i *ℤ to_z-of_z g i

  difference-is : held x -ℤ held (q' *ℤ held y) ≡ x -ℤ q *ℤ y
  difference-is i = to_z-of_z f i -ℤ held_of product-is (and_l (fits64 (q *ℤ y)) (fits64 (x -ℤ q *ℤ y)) t) i

  pub product-fits : SFits w64 (q' *ℤ held y)
  product-fits = fits-of product-is (and_l (fits64 (q *ℤ y)) (fits64 (x -ℤ q *ℤ y)) t)

  pub difference-fits : SFits w64 (held x -ℤ held (q' *ℤ held y))
  difference-fits = fits-of difference-is (and_r (fits64 (q *ℤ y)) (fits64 (x -ℤ q *ℤ y)) t)

  pub less-is : held (held x -ℤ held (q' *ℤ held y)) ≡ x -ℤ q *ℤ y
  less-is = held_of difference-is (and_r (fits64 (q *ℤ y)) (fits64 (x -ℤ q *ℤ y)) t)

-- ---- small numbers
remainder-sign : (z : ℤ) → T (small_remainder z) → T (non_neg z)
remainder-sign (pos n) t = tt
remainder-sign (negsuc n) t = absurd t

remainder-size : (z : ℤ) → T (small_remainder z) → nat_abs z ≤ 0x40000000
remainder-size (pos n) t = le_of_lt (ltb→lt n 0x40000000 (and_r (leb 0 n) (ltb n 0x40000000) t))
remainder-size (negsuc n) t = absurd t

coefficient-size : (z : ℤ) → T (small_coefficient z) → nat_abs z ≤ 0x40000000
coefficient-size (pos n) t = le_of_lt (ltb→lt n 0x40000000 t)
coefficient-size (negsuc n) t = let l = leb→le n 0x3fffffff (and_l (leb n 0x3fffffff) (lt_z (negsuc n) (pos 0x40000000)) t) in omega arith

sum-within : {r r1 s s1 : ℕ} → r ≤ 0x40000000 → r1 ≤ 0x40000000 → s ≤ 0x40000000 → s1 ≤ 0x40000000 → s1 * r + s * r1 ≤ 0x2000000000000000
sum-within a b c d = add-le-add (mul-le-mul d a) (mul-le-mul c b)

pub small-room : (e : Euclid) → T (small e) → Room e
small-room e h =
    let a = and_l (small_remainders e.r e.r1) (small_coefficients e) h in
    let b = and_r (small_remainders e.r e.r1) (small_coefficients e) h in
    let r = and_l (small_remainder e.r) (small_remainder e.r1) a in
    let r1 = and_r (small_remainder e.r) (small_remainder e.r1) a in
    let sum = λ (x y : ℤ) (k : T (small_pair x y)).
    sum-within (remainder-size e.r r) (remainder-size e.r1 r1) (coefficient-size x (and_l (small_coefficient x) (small_coefficient y) k)) (coefficient-size y (and_r (small_coefficient x) (small_coefficient y) k)) in
    record {
      sign = remainder-sign e.r r;
      sign1 = remainder-sign e.r1 r1;
      size = remainder-size e.r r;
      size1 = remainder-size e.r1 r1;
      s = sum e.s e.s1 (and_l (small_pair e.s e.s1) (small_pair e.t e.t1) b);
      t = sum e.t e.t1 (and_r (small_pair e.s e.s1) (small_pair e.t e.t1) b);
    }
