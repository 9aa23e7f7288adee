-- What the tests of numbers tell: of zero, of a Euclidean quotient, and of a combination's numbers.
use mathlib.Core.Path.{◌≡◌, refl, sym, ◌∙◌, ap, subst}
use mathlib.Core.Bool.{Bool, true, false, ◌&&◌}
use native.Mathlib.Omega.{arith}
use lib.Dec.{T, T_not, lt→ltb}
use Prim.Native.Nat.{◌<◌}
use Rattle.std.specs.Prelude.{Option, Some, None, SomeIff}
use Rattle.std.specs.Int.{CanDivide}
use lib.IntN.{ℤ, pos, neg_ℤ, nat_abs}
use lib.Signed.{mag, quot_z}
use borrow.Author.Tests.{ne_eqb}
use mir.Syntax.{w64}
use mir.Val.{SFits, of_z}
use Rattle.integer.specs.Division.{div_euclid}
use Rattle.integer.specs.Checked.{fits64, is_zero}
use Rattle.integer.proofs.Test.{holds, is_true, and_l, and_r}
use Rattle.integer.proofs.Size as size
use Rattle.integer.proofs.Size.{nonzero-test}
use Rattle.integer.proofs.Fits.{fits-of}
use Rattle.integer.proofs.Quotient.{zero_bits, nonzero-size, same-fits, size-bits}
use Rattle.snf_steps.specs.Then.{◌then◌, provided}
use Rattle.snf_steps.specs.declared.gcd.Euclid.{Euclid}
use Rattle.snf_steps.specs.declared.columns.Combination.{Combination}
use Rattle.snf_steps.specs.Columns.{combination}
use Rattle.snf_steps.specs.Elementary.{quotient_fits, neg_quotient_fits, quotient, neg_quotient}

-- ---- a number by its bits
pub is-zero : (z : ℤ) → SFits w64 z → of_z w64 z ≡ 0 → is_zero z ≡ true
is-zero z f e = ap is_zero (zero_bits z f e)

pub not-zero : (z : ℤ) → (of_z w64 z ≡ 0 → ⊥) → is_zero z ≡ false
not-zero z n = ne_eqb (nat_abs z) 0 (λ e. omega (arith, nonzero-size z n))

-- two numbers that a test found to be 0
pub two-zeros : {y z : ℤ} {t : Bool} → t ≡ is_zero y && is_zero z → t ≡ true → (y ≡ pos 0) × (z ≡ pos 0)
two-zeros {y} {z} e h = let u = holds (sym e ∙ h) in (size.zero_test y (and_l (is_zero y) (is_zero z) u), size.zero_test z (and_r (is_zero y) (is_zero z) u))

-- ---- what std's checked operations return
pub some-iff : (r : Option ℤ) {P : Type 0} (v : ℤ) (b : Bool) → (P → b ≡ true) → (b ≡ true → P) → SomeIff r P v → r ≡ provided b v
some-iff None v true f g n = absurd (n (g refl))
some-iff None v false f g n = refl
some-iff (Some x) v true f g p = ap Some p.1
some-iff (Some x) v false f g p = absurd (T_not false tt (subst T (sym (f p.0)) tt))

-- of a Euclidean division, where the divisor is not 0
pub whole_quotient : (r : Option ℤ) (a d : ℤ) → SFits w64 a → SFits w64 d → 0 < nat_abs d → SomeIff r (CanDivide w64 a d) (div_euclid a d) → r ≡ provided (fits64 (div_euclid a d)) (div_euclid a d)
whole_quotient r a d fa fd n h =
    some-iff r (div_euclid a d) (fits64 (div_euclid a d))
    (λ p. sym (same-fits a d fa) ∙ is_true (fits64 (quot_z a d)) (lt→ltb (mag (quot_z a d)) 0x8000000000000000 p.1.sfits))
    (λ t. (size-bits d fd n, fits-of refl (holds (same-fits a d fa ∙ t))))
    h

-- ---- the numbers of a combination, one after the other
abbrev pub with-v : ℤ → Euclid → ℤ → Option Combination
with-v a g v = quotient a g.r then λ u. Some (record { s = g.s; t = g.t; v = v; u = u })

pub combination-by : (a b : ℤ) (g : Euclid) → (neg_quotient b g.r then with-v a g) ≡ combination a b g
combination-by a b g = by (neg_quotient_fits b g.r) (quotient_fits a g.r)
  where
    by : (s t : Bool)
        → ◌then◌ {Y = Combination} (provided s (quot_z (neg_ℤ b) g.r)) (λ v. ◌then◌ {Y = Combination} (provided t (quot_z a g.r)) (λ u. Some (record { s = g.s; t = g.t; v = v; u = u })))
        ≡ provided (s && t) (record { s = g.s; t = g.t; v = quot_z (neg_ℤ b) g.r; u = quot_z a g.r })
    by true true = refl
    by true false = refl
    by false t = refl
