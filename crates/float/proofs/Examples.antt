-- Worked examples of the definitions, by computation: bit patterns go in and come out, as Rust's `to_bits` prints them.
use Rattle.std.proofs.Common.{◌≡◌, ℕ, true, false, List, [], ◌∷◌, map, pos, negsuc, refl, lit≤}
use lib.Ieee.{Float, fin, binary64, size, round, sub, of_int, of_bits, to_bits, to_signed}
use Rattle.float.specs.Value.{Whole, Bounded}
use Rattle.float.specs.Rounding.{round_of, floor_of, ceil_of, abs_of, nint_of, offset, tolerance}
use Rattle.float.specs.Sqrt.{root, sqrt_of}

abbrev on : (Float → Float) → ℕ → ℕ
on f b = to_bits binary64 (f (of_bits binary64 b))

-- 2.5, -2.5, 0.5, -0.5, 0.49999999999999994, its negative, the least value above zero, its negative, 2 ^ 52 + 1, -0, the infinities, NaN
abbrev inputs : List ℕ
inputs =
    0x4004_0000_0000_0000 ∷ 0xc004_0000_0000_0000 ∷ 0x3fe0_0000_0000_0000 ∷ 0xbfe0_0000_0000_0000 ∷ 0x3fdf_ffff_ffff_ffff ∷ 0xbfdf_ffff_ffff_ffff ∷ 0x1
    ∷ 0x8000_0000_0000_0001 ∷ 0x4330_0000_0000_0001 ∷ 0x8000_0000_0000_0000 ∷ 0x7ff0_0000_0000_0000 ∷ 0xfff0_0000_0000_0000 ∷ 0x7ff8_0000_0000_0000 ∷ []

-- 3, -3, 1, -1, 0, -0, 0, -0, and the last five as they are
rounded : map (on round_of) inputs
    ≡ 0x4008_0000_0000_0000 ∷ 0xc008_0000_0000_0000 ∷ 0x3ff0_0000_0000_0000 ∷ 0xbff0_0000_0000_0000 ∷ 0x0 ∷ 0x8000_0000_0000_0000 ∷ 0x0
    ∷ 0x8000_0000_0000_0000 ∷ 0x4330_0000_0000_0001 ∷ 0x8000_0000_0000_0000 ∷ 0x7ff0_0000_0000_0000 ∷ 0xfff0_0000_0000_0000 ∷ 0x7ff8_0000_0000_0000 ∷ []
unfolding round_of round of_bits to_bits
rounded = refl

-- 2, -3, 0, -1, 0, -1, 0, -1
floored : map (on floor_of) inputs
    ≡ 0x4000_0000_0000_0000 ∷ 0xc008_0000_0000_0000 ∷ 0x0 ∷ 0xbff0_0000_0000_0000 ∷ 0x0 ∷ 0xbff0_0000_0000_0000 ∷ 0x0
    ∷ 0xbff0_0000_0000_0000 ∷ 0x4330_0000_0000_0001 ∷ 0x8000_0000_0000_0000 ∷ 0x7ff0_0000_0000_0000 ∷ 0xfff0_0000_0000_0000 ∷ 0x7ff8_0000_0000_0000 ∷ []
unfolding floor_of round of_bits to_bits
floored = refl

-- 3, -2, 1, -0, 1, -0, 1, -0
raised : map (on ceil_of) inputs
    ≡ 0x4008_0000_0000_0000 ∷ 0xc000_0000_0000_0000 ∷ 0x3ff0_0000_0000_0000 ∷ 0x8000_0000_0000_0000 ∷ 0x3ff0_0000_0000_0000 ∷ 0x8000_0000_0000_0000 ∷ 0x3ff0_0000_0000_0000
    ∷ 0x8000_0000_0000_0000 ∷ 0x4330_0000_0000_0001 ∷ 0x8000_0000_0000_0000 ∷ 0x7ff0_0000_0000_0000 ∷ 0xfff0_0000_0000_0000 ∷ 0x7ff8_0000_0000_0000 ∷ []
unfolding ceil_of round of_bits to_bits
raised = refl

sizes : map (on abs_of) inputs
    ≡ 0x4004_0000_0000_0000 ∷ 0x4004_0000_0000_0000 ∷ 0x3fe0_0000_0000_0000 ∷ 0x3fe0_0000_0000_0000 ∷ 0x3fdf_ffff_ffff_ffff ∷ 0x3fdf_ffff_ffff_ffff ∷ 0x1
    ∷ 0x1 ∷ 0x4330_0000_0000_0001 ∷ 0x0 ∷ 0x7ff0_0000_0000_0000 ∷ 0x7ff0_0000_0000_0000 ∷ 0x7ff8_0000_0000_0000 ∷ []
unfolding abs_of of_bits to_bits
sizes = refl

-- an infinity to the nearest end of the range, NaN to 0
nints : map (λ b. nint_of (of_bits binary64 b)) inputs
    ≡ pos 3 ∷ negsuc 2 ∷ pos 1 ∷ negsuc 0 ∷ pos 0 ∷ pos 0 ∷ pos 0 ∷ pos 0 ∷ pos 0x10_0000_0000_0001 ∷ pos 0 ∷ pos 0x7fff_ffff_ffff_ffff ∷ negsuc 0x7fff_ffff_ffff_ffff ∷ pos 0 ∷ []
unfolding nint_of round_of to_signed round of_bits
nints = refl

-- 0, -0, 4, 2, 3, 0.25, the least value above zero, the largest one, -1, the infinities, NaN
roots : map (on sqrt_of) (0x0 ∷ 0x8000_0000_0000_0000 ∷ 0x4010_0000_0000_0000 ∷ 0x4000_0000_0000_0000 ∷ 0x4008_0000_0000_0000 ∷ 0x3fd0_0000_0000_0000 ∷ 0x1
    ∷ 0x7fef_ffff_ffff_ffff ∷ 0xbff0_0000_0000_0000 ∷ 0x7ff0_0000_0000_0000 ∷ 0xfff0_0000_0000_0000 ∷ 0x7ff8_0000_0000_0000 ∷ [])
    ≡ 0x0 ∷ 0x8000_0000_0000_0000 ∷ 0x4000_0000_0000_0000 ∷ 0x3ff6_a09e_667f_3bcd ∷ 0x3ffb_b67a_e858_4caa ∷ 0x3fe0_0000_0000_0000 ∷ 0x1e60_0000_0000_0000
    ∷ 0x5fef_ffff_ffff_ffff ∷ 0x7ff8_0000_0000_0000 ∷ 0x7ff0_0000_0000_0000 ∷ 0x7ff8_0000_0000_0000 ∷ 0x7ff8_0000_0000_0000 ∷ []
unfolding sqrt_of root size round of_bits to_bits
roots = refl

-- the literal 1e-5 is the f64 nearest to 1 / 100000
tolerance-is : tolerance ≡ round binary64 false 1 100000
unfolding of_bits round
tolerance-is = refl

-- 2.5 lies 0.5 from 3
offset-is : offset (fin false 5 (negsuc 0)) ≡ fin false 1 (negsuc 0)
unfolding abs_of sub of_int nint_of round_of to_signed round
offset-is = refl

-- -0 is 0, and -3 is a whole number of at most 4 in size
minus-zero : Whole (fin true 0 (pos 0)) (pos 0)
minus-zero = record { number = tt; is = refl }

minus-three : Whole (fin true 3 (pos 0)) (negsuc 2) × Bounded 2 (fin true 3 (pos 0))
minus-three = (record { number = tt; is = refl }, record { number = tt; within = lit≤ tt })
