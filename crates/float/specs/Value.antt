-- What number a float is. A finite one is the fraction (plus x - less x) / den x of natural numbers, which `omega` reads.
use Rattle.std.specs.Prelude.{◌≡◌, ℕ, ◌+◌, ◌*◌, ◌^◌, ◌≤◌, true, false, T, ℤ, pos, Float}
use Rattle.std.specs.Float.{nan, inf, fin}
use Rattle.std.specs.Float.Ieee.{up}
use Rattle.std.specs.Float.Ieee.Scale.{finite}
use Rattle.std.specs.Float.Ieee.Positive.{den}
use Rattle.integer.specs.Parts as parts

abbrev pub plus : Float → ℕ
plus nan = 0
plus (inf s) = 0
plus (fin true m e) = 0
plus (fin false m e) = m * up e

abbrev pub less : Float → ℕ
less nan = 0
less (inf s) = 0
less (fin true m e) = m * up e
less (fin false m e) = 0

-- x is the number (p - n) / c
pub record Value (x : Float) (p n c : ℕ) : Type 0 where
  pub number : T (finite x)
  pub is : plus x * c + n * den x ≡ p * den x + less x * c

-- x is the whole number z. Both zeros are 0.
abbrev pub Whole : Float → ℤ → Type 0
Whole x z = Value x (parts.up z) (parts.dn z) 1

-- x is a number of at most 2 ^ k in size
pub record Bounded (k : ℕ) (x : Float) : Type 0 where
  pub number : T (finite x)
  pub within : plus x + less x ≤ 2 ^ k * den x

abbrev pub zero_f : Float
zero_f = fin false 0 (pos 0)
