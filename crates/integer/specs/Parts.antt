-- A whole number as its positive part less its negative part.
use Rattle.std.specs.Prelude.{ℕ, suc, ℤ, pos, negsuc}

abbrev pub up : ℤ → ℕ
up (pos n) = n
up (negsuc n) = 0

abbrev pub dn : ℤ → ℕ
dn (pos n) = 0
dn (negsuc n) = suc n
