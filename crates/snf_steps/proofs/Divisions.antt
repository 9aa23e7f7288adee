-- The divisions of the extended gcd, counted: so many make the whole walk and no fewer do, and there are at most 127 of them for numbers of 64 bits.
use mathlib.Core.Path.{◌≡◌, refl, sym, ◌∙◌, ap, subst}
use mathlib.Core.Bool.{Bool, true, false, cond}
use Prim.Native.Nat.{ℕ, zero, suc, ◌+◌, ◌^◌, ◌≤◌, ◌<◌}
use mathlib.Core.Logic.{⊎_elim}
use native.Mathlib.Nat.{le_of_lt, lt_of_lt_of_le, eq-zero-or-pos}
use native.Mathlib.Omega.{arith}
use lib.IntN.{ℤ, nat_abs}
use Rattle.std.specs.Prelude.{Option, Some, None}
use Rattle.integer.specs.Checked.{is_zero}
use Rattle.integer.specs.Division.{rem_euclid}
use Rattle.integer.proofs.Test.{pick-cases}
use Rattle.integer.proofs.Order.{NonNeg}
use Rattle.integer.proofs.Size.{abs-zero, nonzero-test}
use Rattle.integer.proofs.Division.{rem-euclid-nonneg, rem-euclid-lt}
use Rattle.snf_steps.specs.Then.{◌then◌}
use Rattle.snf_steps.specs.declared.gcd.Euclid.{Euclid}
use Rattle.snf_steps.specs.Gcd.{step, euclid, extended_gcd, start, divisions, steps}
use Rattle.snf_steps.proofs.Accepted.{Accepted, accepted, overflowed, accepted-bind, accepted-pick}
use Rattle.snf_steps.proofs.Halving.{rem-less-than-half, halved}
use Rattle.snf_steps.proofs.Bezout.{divided, step-divides}

-- so many are enough
module _ (n : ℕ) (e : Euclid) where
  abbrev more : ℕ
  more = divisions n e.r1 (rem_euclid e.r e.r1)

  trimmed : ((f : Euclid) → euclid (divisions n f.r f.r1) f ≡ euclid n f) → (m : Option Euclid) → Accepted (λ f. f ≡ divided e) m → (m then euclid more) ≡ (m then euclid n)
  trimmed h (Some f) (accepted p) = ap (λ (g : Euclid). euclid (divisions n g.r g.r1) f) (sym p) ∙ h f
  trimmed h None overflowed = refl

  counted : ((m : Option Euclid) → Accepted (λ f. f ≡ divided e) m → (m then euclid more) ≡ (m then euclid n)) → (b : Bool) → is_zero e.r1 ≡ b
      → euclid (cond b 0 (suc more)) e ≡ cond b (Some e) (step e then euclid n)
  unfolding euclid
  counted h true p = refl
  counted h false p = ap (λ (t : Bool). cond t (Some e) (step e then euclid more)) p ∙ h (step e) (step-divides e)

pub divisions-enough : (n : ℕ) (e : Euclid) → euclid (divisions n e.r e.r1) e ≡ euclid n e
unfolding divisions euclid
divisions-enough zero e = refl
divisions-enough (suc n) e = counted n e (trimmed n e (divisions-enough n)) (is_zero e.r1) refl

-- ---- at most 127
one_more : (n : ℕ) (r r' : ℤ) (k : ℕ) → (zero < nat_abs r' → divisions n r' (rem_euclid r r') ≤ k) → divisions (suc n) r r' ≤ suc k
unfolding divisions
one_more n r r' k h = pick-cases (is_zero r') 0 (suc (divisions n r' (rem_euclid r r'))) (λ (c : ℕ). c ≤ suc k) (λ _. omega arith) (λ t. let l = h (nonzero-test r' t) in omega arith)

none_more : (n : ℕ) (r r' : ℤ) → nat_abs r' ≡ 0 → divisions n r r' ≤ 0
unfolding divisions
none_more zero r r' e = omega arith
none_more (suc n) r r' e = subst (λ (z : ℤ). divisions (suc n) r z ≤ 0) (sym (abs-zero r' e)) (omega arith)

few-divisions : (k n : ℕ) (r r' : ℤ) → NonNeg r' → nat_abs r' < 2 ^ k → divisions n r r' ≤ k + k
unfolding divisions
few-divisions zero n r r' p h = none_more n r r' (omega arith)
few-divisions (suc k) zero r r' p h = omega arith
few-divisions (suc k) (suc zero) r r' p h = let l = one_more 0 r r' 0 (λ _. omega arith) in omega arith
few-divisions (suc k) (suc (suc n)) r r' p h =
    let m = rem_euclid r r' in
    let two : divisions (suc (suc n)) r r' ≤ suc (suc (k + k)) =
    one_more (suc n) r r' (suc (k + k)) (λ a. one_more n r' m (k + k) (λ b.
    few-divisions k n m (rem_euclid r' m) (rem-euclid-nonneg r' m) (halved k (nat_abs r') (nat_abs (rem_euclid r' m)) (le_of_lt (rem-less-than-half r' m p b (rem-euclid-lt r r' a))) h))) in
    omega arith

at-most-127 : (n : ℕ) (a b : ℤ) → nat_abs b ≤ 2 ^ 63 → divisions (suc n) a b ≤ 127
at-most-127 n a b h = one_more n a b 126 (λ l. few-divisions 63 n b (rem_euclid a b) (rem-euclid-nonneg a b) (lt_of_lt_of_le (rem-euclid-lt a b l) h))

-- ---- and no fewer: before that the last remainder is not 0
some_left : (n : ℕ) (r r' : ℤ) → zero < divisions n r r' → zero < nat_abs r'
some_left n r r' h = ⊎_elim (λ e. absurd (let l = none_more n r r' e in omega arith)) (λ p. p) (eq-zero-or-pos (nat_abs r'))

after_one : (k n : ℕ) (r r' : ℤ) → suc k < divisions (suc n) r r' → k < divisions n r' (rem_euclid r r')
unfolding divisions
after_one k n r r' =
    pick-cases (is_zero r') 0 (suc (divisions n r' (rem_euclid r r'))) (λ (c : ℕ). suc k < c → k < divisions n r' (rem_euclid r r')) (λ _ h. absurd (omega arith)) (λ _ h. omega arith)

none_at_all : (k : ℕ) (r r' : ℤ) → k < divisions zero r r' → ⊥
unfolding divisions
none_at_all k r r' h = omega arith

pub no-fewer : (k n : ℕ) (e : Euclid) → k < divisions n e.r e.r1 → Accepted (λ f. zero < nat_abs f.r1) (euclid k e)
unfolding euclid
no-fewer zero n e h = accepted (some_left n e.r e.r1 h)
no-fewer (suc k) zero e h = absurd (none_at_all (suc k) e.r e.r1 h)
no-fewer (suc k) (suc n) e h =
    accepted-pick (is_zero e.r1) (Some e) (step e then euclid k)
    (λ _. accepted (some_left (suc n) e.r e.r1 (omega arith)))
    (λ _. accepted-bind (euclid k) (step-divides e) (λ f p.
    subst (λ f. Accepted (λ g. zero < nat_abs g.r1) (euclid k f)) (sym p) (no-fewer k n (divided e) (after_one k n e.r e.r1 h))))

-- ---- of the extended gcd
pub steps-enough : (a b : ℤ) → euclid (steps a b) (start a b) ≡ extended_gcd a b
unfolding extended_gcd
steps-enough a b = divisions-enough 1000 (start a b)

pub few-steps : (a b : ℤ) → nat_abs b ≤ 2 ^ 63 → steps a b ≤ 127
few-steps a b h = at-most-127 999 a b h
