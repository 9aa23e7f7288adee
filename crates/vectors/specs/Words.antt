-- How what a call answered and wrote stands in a line.
use Rattle.std.specs.Prelude.{List, [], ◌∷◌, ℕ, suc, ◌+◌, ◌*◌, ◌/◌, ◌%◌, cond, leb, ℤ, pos, negsuc, length, Float}
use Rattle.std.specs.Float.{binary64}
use Rattle.std.specs.Float.Ieee.{to_bits}

-- the size modulo 1,000,003, and the sign
abbrev pub term_of : ℤ → ℕ
term_of (pos n) = n % 1000003 * 2
term_of (negsuc n) = suc n % 1000003 * 2 + 1

-- a sum that every place bears on
abbrev pub sum_from : ℕ → List ℤ → ℕ
sum_from s [] = s
sum_from s (z ∷ l) = sum_from ((s * 31 + term_of z) % 1000003) l

-- the places of an output, or, of over 432, their sum
abbrev pub listed : List ℤ → List ℤ
listed out = cond (leb (length out) 432) out (pos (sum_from 0 out) ∷ [])

-- the two 32-bit words of a float's bits, the high one first; a NaN has one pattern
abbrev pub words_of : Float → List ℤ
words_of x = pos (to_bits binary64 x / 0x100000000) ∷ pos (to_bits binary64 x % 0x100000000) ∷ []
