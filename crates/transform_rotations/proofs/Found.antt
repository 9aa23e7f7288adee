-- A whole number that equals x, as f64 compares them, is x rounded, and x is near it.
use mathlib.Core.Path.{◌≡◌, ap}
use mathlib.Core.Bool.{true}
use Prim.Native.Nat.{ℕ, ◌+◌, ◌*◌, ◌^◌, ◌≤◌}
use native.Mathlib.Nat.{eq_of_mul-eq-mul_right, lt_of_le_of_lt}
use native.Mathlib.Omega.{arith}
use lib.Dec.{T, lit<}
use lib.IntN.{ℤ, nat_abs}
use lib.Ieee.{Float, nan, inf, fin, binary64, eq, fits, of_int}
use lib.Ieee.Positive.{den, den_pos}
use lib.Ieee.Scale.{finite}
use Rattle.integer.specs.Parts as parts
use Rattle.float.specs.Rounding.{nint_of}
use Rattle.float.specs.Value.{plus, less, Whole}
use Rattle.float.proofs.Order.{eq→cross}
use Rattle.float.proofs.Whole.{of_int-whole}
use Rattle.float.proofs.Cast.{nint-whole}
use Rattle.float.proofs.Quotient.{whole-close}
use Rattle.integer.proofs.Test.{is_true}
use Rattle.transform_rotations.specs.Code.Steps.{is_near}

number : (y x : Float) → T (finite y) → T (eq y x) → T (finite x)
unfolding eq
number nan x p h = absurd p
number (inf s) x p h = absurd p
number (fin s m e) nan p h = absurd h
number (fin s m e) (inf t) p h = absurd h
number (fin s m e) (fin t n d) p h = tt

whole : (y x : Float) (z : ℤ) → Whole y z → T (eq y x) → Whole x z
whole y x z v h =
    let n = number y x v.number h in
    let c = eq→cross y x v.number n h in
    let e = ap (λ (t : ℕ). t * den x) v.is in
    record { number = n; is = eq_of_mul-eq-mul_right (den y) (den_pos y) (plus x * 1 + parts.dn z * den x) (parts.up z * den x + less x * 1) (omega arith) }

pub found : (x : Float) (z : ℤ) → nat_abs z ≤ 2 ^ 53 → T (fits binary64 x) → T (eq (of_int binary64 z) x) → (nint_of x ≡ z) × (is_near x ≡ true)
found x z h f e =
    let w = whole (of_int binary64 z) x z (of_int-whole binary64 z h) e in
    let n = nint-whole x z f w (lt_of_le_of_lt h (lit< tt)) in
    (n, is_true _ (whole-close x z h w n))
