-- Literals of the code, as the whole numbers that the definitions speak of.
use mathlib.Core.Path.{◌≡◌, refl}
use lib.IntN.{pos}
use lib.Ieee.{binary64, of_bits, of_int, round}

pub zero-literal : of_bits binary64 0 ≡ of_int binary64 (pos 0)
unfolding of_bits of_int round
zero-literal = refl

pub two-literal : of_bits binary64 0x4000000000000000 ≡ of_int binary64 (pos 2)
unfolding of_bits of_int round
two-literal = refl

pub million-literal : of_bits binary64 0x412e848000000000 ≡ of_int binary64 (pos 1000000)
unfolding of_bits of_int round
million-literal = refl
