-- Square roots among the whole numbers: `root` is the whole part of the root, `NearRoot` the nearest whole number.
use Rattle.std.proofs.Common.{◌≡◌, ℕ, zero, suc, ◌+◌, ◌-◌, ◌*◌, ◌/◌, ◌%◌, ◌^◌, ◌<◌, ◌≤◌, Bool, true, false, cond, not, T, leb, sym, ap, ◌∙◌, subst, inl, inr, le_trans, le_of_eq, le_refl, lt_of_lt_of_le, le_of_suc-le-suc, lt_of_le_of_lt, lt_irrefl, mod-lt, zero-lt-suc, div-lt_iff_lt-mul, mul-le-mul, pow-suc, div-add-mod', mul-one, arith, leb→le, pow_pos}
use native.Mathlib.Nat.{pow-succ'}
use lib.Dec.{nleb→lt}
use lib.Ieee.{size}
use lib.Ieee.Digits.{size-lt}
use Rattle.float.specs.Sqrt.{digit, root}
use Rattle.float.proofs.Order.{by-test}

-- q is the whole number nearest to the square root of n: (q - 1/2) ^ 2 < n < (q + 1/2) ^ 2
pub record NearRoot (n q : ℕ) : Type 0 where
  pub low : q * q < n + q
  pub high : n ≤ q * q + q

-- r is the whole part of n's square root
pub record IsRoot (n r : ℕ) : Type 0 where
  pub from : r * r ≤ n
  pub to : n < (r + 1) * (r + 1)

digit-is : (r n : ℕ) → IsRoot (n / 4) r → IsRoot n (digit r n)
digit-is r n h = go (leb ((2 * r + 1) * (2 * r + 1)) n) (leb→le ((2 * r + 1) * (2 * r + 1)) n) (nleb→lt ((2 * r + 1) * (2 * r + 1)) n)
  where
    low : 4 * (r * r) ≤ n
    low = let g = h.from in let e = div-add-mod' n 4 in omega arith

    high : n < 4 * ((r + 1) * (r + 1))
    high = let g = h.to in let e = div-add-mod' n 4 in let m : n % 4 < 4 = mod-lt n (zero-lt-suc 3) in omega arith

    go : (t : Bool) → (T t → (2 * r + 1) * (2 * r + 1) ≤ n) → (T (not t) → n < (2 * r + 1) * (2 * r + 1)) → IsRoot n (cond t (2 * r + 1) (2 * r))
    go true a b = let k = high in record { from = a tt; to = omega arith }
    go false a b = let k = low in record { from = omega arith; to = b tt }

root_below : (k n : ℕ) → n < 4 ^ k → IsRoot n (root k n)
unfolding root
root_below zero n h = record { from = omega arith; to = h }
root_below (suc k) n h = digit-is (root k (n / 4)) n (root_below k (n / 4) ((div-lt_iff_lt-mul (zero-lt-suc 3)).1 (subst (λ (x : ℕ). n < x) (pow-suc 4 k) h)))

pub four : (h : ℕ) → 4 ^ h ≡ 2 ^ h * 2 ^ h
four zero = omega arith
four (suc h) = pow-succ' 4 h ∙ ap (λ (z : ℕ). 4 * z) (four h) ∙ twice (2 ^ h) ∙ ap (λ (z : ℕ). z * z) (sym (pow-succ' 2 h))
  where
    twice : (x : ℕ) → 4 * (x * x) ≡ 2 * x * (2 * x)
    twice x = omega arith

pub root_is : (n : ℕ) → IsRoot n (root (size n) n)
root_is n = root_below (size n) n (lt_of_lt_of_le (size-lt n) (go (size n)))
  where
    go : (k : ℕ) → 2 ^ k ≤ 4 ^ k
    go k = le_trans (le_trans (le_of_eq (sym (mul-one (2 ^ k)))) (mul-le-mul (le_refl (2 ^ k)) (pow_pos k))) (le_of_eq (sym (four k)))

-- ---- comparing with a root by squares
pub root-le : (n r s : ℕ) → r * r ≤ n → IsRoot n s → r ≤ s
root-le n r s a h = elim (by-test r s) [
  | inl k ↦ k
  | inr k ↦ let g : s + 1 ≤ r = omega arith in absurd (lt_irrefl n (lt_of_lt_of_le h.to (le_trans (mul-le-mul g g) a)))
]

pub root-lt : (n t s : ℕ) → n < t * t → IsRoot n s → s < t
root-lt n t s a h = elim (by-test t s) [ inl k ↦ absurd (lt_irrefl n (lt_of_lt_of_le a (le_trans (mul-le-mul k k) h.from))) | inr k ↦ k ]

-- ---- the nearest whole number
pub near_le : (a n q : ℕ) → a * a ≤ n → NearRoot n q → a ≤ q
near_le a n q h g = elim (by-test a q) [
  | inl k ↦ k
  | inr k ↦ absurd (lt_irrefl n (lt_of_le_of_lt g.high (lt_of_lt_of_le (step q a k) h)))
]
  where
    step : (q a : ℕ) → q < a → q * q + q < a * a
    step q a b = lt_of_lt_of_le (omega arith) (mul-le-mul b b)

pub near-ge : (b n q : ℕ) → n < b * b → NearRoot n q → q ≤ b
near-ge b n q h g = elim (by-test q b) [ inl k ↦ k | inr k ↦ absurd (step q b k g.low h) ]
  where
    step : (q b : ℕ) → b < q → q * q < n + q → n < b * b → ⊥
    step zero b k g h = lt_irrefl 0 (omega arith)
    step (suc q) b k g h = let m = mul-le-mul (le_of_suc-le-suc k) (le_of_suc-le-suc k) in lt_irrefl 0 (omega arith)

-- by the remainder of the whole part
pub near_up : (n r rem : ℕ) → r * r + rem ≡ n → rem ≤ 2 * r → r < rem → NearRoot n (r + 1)
near_up n r rem e s h = record { low = omega arith; high = omega arith }

pub near_same : (n r rem : ℕ) → 0 < n → r * r + rem ≡ n → rem ≤ r → NearRoot n r
near_same n zero rem p e h = absurd (lt_irrefl 0 (omega arith))
near_same n (suc r) rem p e h = record { low = omega arith; high = omega arith }

pub near-exists : (n : ℕ) → 0 < n → (q : ℕ) × NearRoot n q
near-exists n h =
    let r = root (size n) n in
    let i = root_is n in
    let e : r * r + (n - r * r) ≡ n = omega arith in
    elim (by-test (n - r * r) r) [
      | inl c ↦ (r, near_same n r (n - r * r) h e c)
      | inr c ↦ (r + 1, near_up n r (n - r * r) e (over r (n - r * r) n e i.to) c)
    ]
  where
    over : (r rem n : ℕ) → r * r + rem ≡ n → n < (r + 1) * (r + 1) → rem ≤ 2 * r
    over r rem n e h = omega arith
