-- Laws of decimal texts: a number's digits by its last one, its sign, and how many digits it has.
use mathlib.Core.Path.{◌≡◌, refl, ◌∙◌, ap, sym}
use mathlib.Core.Logic.{◌↔◌}
use mathlib.Core.Bool.{Bool, true, false}
use mathlib.Core.List.{List, [], ◌∷◌, ◌++◌}
use Prim.Native.Nat.{ℕ, zero, suc, ◌+◌, ◌*◌, ◌^◌, ◌/◌, ◌%◌, ◌<◌, ◌≤◌}
use native.Mathlib.Nat.{pow-succ', pow-le-pow_right}
use native.Mathlib.Omega.{arith}
use lib.Dec.{ltb, lit<}
use lib.IntN.{ℤ, pos, negsuc, nat_abs}
use lib.Signed.{lt_z}
use lib.ListN.{length, length-append}
use borrow.Author.Tests.{lt-ltb, le-ltb, ltb-true, ltb-false}
use Rattle.decimal.specs.Decimal.{digits, decimal, signed_decimal}

-- ---- decimal digits, by the last one
enough : (j : ℕ) (b : Bool) (k n : ℕ) → ltb n 10 ≡ b → n ≤ j → n ≤ k → digits j b n ≡ digits k b n
enough zero b zero n e h i = refl
enough zero true (suc k) n e h i = refl
enough zero false (suc k) n e h i = let l = ltb-false n 10 e in absurd (omega arith)
enough (suc j) true zero n e h i = refl
enough (suc j) true (suc k) n e h i = refl
enough (suc j) false zero n e h i = let l = ltb-false n 10 e in absurd (omega arith)
enough (suc j) false (suc k) n e h i =
    let l = ltb-false n 10 e in
    ap (λ d. d ++ ((48 + n % 10) ∷ [])) (enough j (ltb (n / 10) 10) k (n / 10) refl (omega arith) (omega arith))

pub one-digit : (n : ℕ) → n < 10 → decimal n ≡ (48 + n) ∷ []
unfolding decimal
one-digit n h = ap (λ b. digits n b n) (lt-ltb n 10 h) ∙ last n
  where
    last : (k : ℕ) → digits k true n ≡ (48 + n) ∷ []
    last zero = refl
    last (suc k) = refl

pub last-digit : (n : ℕ) → 10 ≤ n → decimal n ≡ decimal (n / 10) ++ ((48 + n % 10) ∷ [])
unfolding decimal
last-digit n h = ap (λ b. digits n b n) (le-ltb n 10 h) ∙ more n (omega arith)
  where
    more : (k : ℕ) → n / 10 < k → digits k false n ≡ digits (n / 10) (ltb (n / 10) 10) (n / 10) ++ ((48 + n % 10) ∷ [])
    more zero i = absurd (omega arith)
    more (suc k) i = ap (λ d. d ++ ((48 + n % 10) ∷ [])) (enough k (ltb (n / 10) 10) (n / 10) (n / 10) refl (omega arith) (omega arith))

-- ---- a number, by its sign
module _ {n : ℕ} where
  pub below-zero : (z : ℤ) → lt_z z (pos 0) ≡ true → n ≡ nat_abs z → signed_decimal z ≡ 45 ∷ decimal n
  below-zero (pos m) e f = let z : ◌≡◌ {A = ℕ} 0 1 = let h = ltb-true m 0 e in omega arith in absurd (omega arith)
  below-zero (negsuc m) e f = ap (λ n. 45 ∷ decimal n) (sym f)

  pub from_zero : (z : ℤ) → lt_z z (pos 0) ≡ false → n ≡ nat_abs z → signed_decimal z ≡ decimal n
  from_zero (pos m) e f = ap decimal (sym f)
  from_zero (negsuc m) e f = let z : ◌≡◌ {A = ℕ} 0 1 = cc in absurd (omega arith)

-- ---- what holds of one digit, and of n because it holds of the digits before the last
module _ (P : ℕ → Type 0) (one : (n : ℕ) → n < 10 → P n) (more : (n : ℕ) → 10 ≤ n → P (n / 10) → P n) where
  above : (k n : ℕ) → n ≤ suc k → ((m : ℕ) → m ≤ k → P m) → (b : Bool) → ltb n 10 ≡ b → P n
  above k n h below true e = one n (ltb-true n 10 e)
  above k n h below false e = let l = ltb-false n 10 e in more n l (below (n / 10) (omega arith))

  up_to : (k n : ℕ) → n ≤ k → P n
  up_to zero n h = one n (omega arith)
  up_to (suc k) n h = above k n h (up_to k) (ltb n 10) refl

  pub by_tens : (n : ℕ) → P n
  by_tens n = up_to n n (omega arith)

-- ---- the first code is that of a digit
pub record Digits (t : List ℕ) : Type 0 where
  pub first : ℕ
  pub rest : List ℕ
  pub is : t ≡ first ∷ rest
  pub high : 48 ≤ first

pub decimal-digits : (n : ℕ) → Digits (decimal n)
decimal-digits =
    by_tens (λ n. Digits (decimal n)) (λ n h. record { first = 48 + n; rest = []; is = one-digit n h; high = omega arith })
    (λ n h d. record { first = d.first; rest = d.rest ++ ((48 + n % 10) ∷ []); is = last-digit n h ∙ ap (λ t. t ++ ((48 + n % 10) ∷ [])) d.is; high = d.high })

pub some-digit : (n : ℕ) → 1 ≤ length (decimal n)
some-digit n = let d = decimal-digits n in omega (arith, ap length d.is)

-- ---- at most w + 1 digits exactly below 10 ^ (w + 1)
length-last : (n : ℕ) → 10 ≤ n → length (decimal n) ≡ length (decimal (n / 10)) + 1
length-last n h = ap length (last-digit n h) ∙ length-append (decimal (n / 10)) ((48 + n % 10) ∷ [])

below-tens : (n m : ℕ) → (n / 10 < m) ↔ (n < 10 * m)
below-tens n m = (λ h. omega arith, λ h. omega arith)

one_few : (w n : ℕ) → n < 10 → (length (decimal n) ≤ suc w) ↔ (n < 10 ^ suc w)
one_few w n h = (λ _. let t : 10 ≤ 10 ^ suc w = pow-le-pow_right {n = 10} (lit< tt) {i = 1} {j = suc w} (omega arith) in omega arith, λ _. omega (arith, ap length (one-digit n h)))

more_few : (n : ℕ) → 10 ≤ n → ((w : ℕ) → (length (decimal (n / 10)) ≤ suc w) ↔ (n / 10 < 10 ^ suc w)) → (w : ℕ) → (length (decimal n) ≤ suc w) ↔ (n < 10 ^ suc w)
more_few n h r zero = (λ k. absurd (omega (arith, length-last n h, some-digit (n / 10))), λ k. absurd (omega arith))
more_few n h r (suc w) =
    let b = below-tens n (10 ^ suc w) in
    rw (pow-succ' 10 (suc w)) (λ k. b.0 ((r w).0 (omega (arith, length-last n h))), λ k. let s = (r w).1 (b.1 k) in omega (arith, length-last n h))

pub digits-few : (w n : ℕ) → (length (decimal n) ≤ suc w) ↔ (n < 10 ^ suc w)
digits-few w n = by_tens (λ n. (w : ℕ) → (length (decimal n) ≤ suc w) ↔ (n < 10 ^ suc w)) (λ n h w. one_few w n h) more_few n w
