-- Rust's `round`, `floor`, `ceil` and `abs` of an f64, and `nint`. Of lib.Ieee are the cast to an i64,
-- `to_signed 63`, the cast of an i64, `of_int binary64`, and `finite`.
use Rattle.std.specs.Prelude.{ℕ, ◌+◌, ◌-◌, ◌*◌, ◌/◌, Bool, true, false, ℤ, from_bits, Float}
use Rattle.std.specs.Float.{nan, inf, fin, binary64}
use Rattle.std.specs.Float.Ieee.{up, down, round, sub, of_int, to_signed}

-- a / c to a whole number: to the one below, to the one above, and to the nearest, a half up
abbrev pub whole_below : ℕ → ℕ → ℕ
whole_below a c = a / c

abbrev pub whole_above : ℕ → ℕ → ℕ
whole_above a c = (a + (c - 1)) / c

abbrev pub whole_nearest : ℕ → ℕ → ℕ
whole_nearest a c = (2 * a + c) / (2 * c)

-- The whole number k with the sign s. At each k below it is a value of the format (proofs/Rounding.antt), so that `round` changes nothing.
abbrev pub signed : Bool → ℕ → Float
signed s k = round binary64 s k 1

unfoldable pub round_of : Float → Float
round_of nan = nan
round_of (inf s) = inf s
round_of (fin s m e) = signed s (whole_nearest (m * up e) (down e))

unfoldable pub floor_of : Float → Float
floor_of nan = nan
floor_of (inf s) = inf s
floor_of (fin false m e) = signed false (whole_below (m * up e) (down e))
floor_of (fin true m e) = signed true (whole_above (m * up e) (down e))

unfoldable pub ceil_of : Float → Float
ceil_of nan = nan
ceil_of (inf s) = inf s
ceil_of (fin false m e) = signed false (whole_above (m * up e) (down e))
ceil_of (fin true m e) = signed true (whole_below (m * up e) (down e))

unfoldable pub abs_of : Float → Float
abs_of nan = nan
abs_of (inf s) = inf false
abs_of (fin s m e) = fin false m e

unfoldable pub nint_of : Float → ℤ
nint_of x = to_signed 63 (round_of x)

-- how far q lies from its nearest whole number, as it is computed; and 1e-5, up to which it counts as whole
abbrev pub offset : Float → Float
offset q = abs_of (sub binary64 (of_int binary64 (nint_of q)) q)

abbrev pub tolerance : Float
tolerance = from_bits binary64 0x3ee4f8b588e368f1
