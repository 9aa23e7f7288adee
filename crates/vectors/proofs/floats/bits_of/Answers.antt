use Rattle.std.proofs.Common.{rules, ◌≡◌, refl, true, ℕ, Float}
use Rattle.std.specs.Float.{binary64}
use Rattle.std.specs.Float.Ieee.{to_bits, is_nan}
use lib.Ieee.{nan, inf, fin}
use native.Mathlib.Omega.{arith}
use Rattle.vectors.proofs.floats.bits_of.Goals as goal

nan-bits : (x : Float) → is_nan x ≡ true → 0x7ff8000000000000 ≡ to_bits binary64 x
unfolding to_bits is_nan
nan-bits nan t = refl
nan-bits (inf s) t = absurd (let z : ◌≡◌ {A = ℕ} 0 1 = cc in omega arith)
nan-bits (fin s m e) t = absurd (let z : ◌≡◌ {A = ℕ} 0 1 = cc in omega arith)

pub returns-then-is_nan : goal.returns-then-is_nan
returns-then-is_nan c = nan-bits c.args.x (search rules)
