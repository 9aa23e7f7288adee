-- What fits 64 signed bits, for omega; and each test of the code as a test of the exact result.
use mathlib.Core.Path.{◌≡◌, sym, ◌∙◌, subst}
use lib.Dec.{T, ltb→lt, lt→ltb, lit<}
use lib.IntN.{ℤ, pos, negsuc, nat_abs}
use lib.Signed.{◌≤ℤ◌, ◌<ℤ◌, lt_z, lt_z_yes, lt_z_no, mag, nat_abs-le, non_neg}
use Prim.Native.Nat.{◌+◌, ◌^◌, ◌≤◌, ◌<◌}
use native.Mathlib.Nat.{lt_of_le_of_lt}
use native.Mathlib.Omega.{arith}
use mir.Syntax.{w64}
use mir.Val.{SFits, to_z, of_z, Fits}
use mir.Facts.{to_z-of_z}
use Rattle.integer.specs.Checked.{fits64}
use mathlib.Core.Bool.{true, false}
use Rattle.integer.proofs.Test.{holds, fails}
use Rattle.integer.proofs.Size.{mag-le}
use Rattle.integer.specs.Parts.{up, dn}
use Rattle.integer.proofs.Parts.{ints}

-- what a signed local holds, read back from its bits
abbrev pub held : ℤ → ℤ
held z = to_z w64 (of_z w64 z)

pub held-is : (z : ℤ) → mag z < 0x8000000000000000 → held z ≡ z
held-is z h = to_z-of_z {w = w64} (record { sfits = h })

pub held-natural : {z : ℤ} → SFits w64 z → T (non_neg z) → T (non_neg (held z)) × Fits w64 (nat_abs (held z))
held-natural {z} f t = rw (to_z-of_z f) (t, record { fits = lt_of_le_of_lt (nat_abs-le z f.sfits) (lit< tt) })

-- v, worked out with locals, is z, which fits
module _ {v z : ℤ} (e : v ≡ z) (t : T (fits64 z)) where
  pub fits-of : SFits w64 v
  fits-of = record { sfits = ltb→lt (mag v) 0x8000000000000000 (subst (λ (w : ℤ). T (fits64 w)) (sym e) t) }

  pub held_of : held v ≡ z
  held_of = to_z-of_z fits-of ∙ e

abbrev pub least : ℤ
least = negsuc 0x7fffffffffffffff

abbrev pub largest : ℤ
largest = pos 0x7fffffffffffffff

pub size_fits : (z : ℤ) → nat_abs z < 0x8000000000000000 → T (fits64 z)
size_fits z h = lt→ltb (mag z) 0x8000000000000000 (omega (arith, mag-le z))

-- -2^63 ≤ z < 2^63
abbrev pub InRange : ℤ → Type 0
InRange z = (up z < dn z + 0x8000000000000000) × (dn z ≤ up z + 0x8000000000000000)

pub fits-range : (z : ℤ) → T (fits64 z) → InRange z
fits-range (pos n) t = omega (arith, ltb→lt n 0x8000000000000000 t)
fits-range (negsuc n) t = omega (arith, ltb→lt n 0x8000000000000000 t)

pub range-fits : (z : ℤ) → InRange z → T (fits64 z)
range-fits (pos n) h = lt→ltb n 0x8000000000000000 (omega arith)
range-fits (negsuc n) h = lt→ltb n 0x8000000000000000 (omega arith)

pub sfits-range : {z : ℤ} → SFits w64 z → InRange z
sfits-range {z} f = fits-range z (lt→ltb (mag z) 0x8000000000000000 f.sfits)

pub range-sfits : (z : ℤ) → InRange z → SFits w64 z
range-sfits z h = record { sfits = ltb→lt (mag z) 0x8000000000000000 (range-fits z h) }

pub fits-size : (z : ℤ) → T (fits64 z) → nat_abs z ≤ 2 ^ 63
fits-size z t = nat_abs-le z (ltb→lt (mag z) 0x8000000000000000 t)

-- ---- the sign, by the code's test
pub below-zero : (z : ℤ) → lt_z z (pos 0) ≡ true → z ≤ℤ pos 0
below-zero z e = let h : z <ℤ pos 0 = lt_z_yes (holds e) in omega (arith, ints)

pub from_zero : (z : ℤ) → lt_z z (pos 0) ≡ false → pos 0 ≤ℤ z
from_zero z e = lt_z_no (fails e)
