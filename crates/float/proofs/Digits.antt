-- A subnormal moved up until it has 53 digits.
use Rattle.std.proofs.Common.{◌≡◌, ℕ, zero, suc, ◌-◌, ◌*◌, ◌^◌, ◌<◌, ◌≤◌, sym, refl, ap, ◌∙◌, lt_of_lt_of_le, lt_irrefl, zero-lt-suc, mul_assoc, arith, lit≤}
use native.Mathlib.Nat.{pow-succ'}

-- ---- a subnormal d, moved up until it has 53 digits
pub record Shift (d m t : ℕ) : Type 0 where
  pub passed : t ≤ 52
  pub above : 0 < m
  pub below : m < 2 ^ 53
  pub is : m * 2 ^ t ≡ d * 2 ^ 52

pub shift-start : (d : ℕ) → 0 < d → d < 2 ^ 52 → Shift d d 52
shift-start d a b = record { passed = lit≤ tt; above = a; below = lt_of_lt_of_le b (lit≤ tt); is = refl }

pub shift-more : (d m t : ℕ) → Shift d m t → 0 < d → m < 2 ^ 52 → 0 < t
shift-more d m zero s D h = let e = s.is in absurd (lt_irrefl 0 (omega arith))
shift-more d m (suc t) s D h = zero-lt-suc t

pub shift-step : (d m t : ℕ) → Shift d m t → 0 < d → m < 2 ^ 52 → Shift d (m * 2) (t - 1)
shift-step d m zero s D h = absurd (lt_irrefl 0 (shift-more d m zero s D h))
shift-step d m (suc t) s D h =
    let p = s.passed in
    let a = s.above in
    let e : suc t - 1 ≡ t = omega arith in
    record {
      passed = omega arith;
      above = omega arith;
      below = omega arith;
      is = ap (λ (k : ℕ). m * 2 * 2 ^ k) e ∙ mul_assoc m 2 (2 ^ t) ∙ ap (λ (k : ℕ). m * k) (sym (pow-succ' 2 t)) ∙ s.is;
    }
