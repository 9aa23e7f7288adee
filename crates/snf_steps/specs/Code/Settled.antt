-- A diagonal in order, each number dividing the next: `finalize` changes only signs of it.
use Rattle.std.specs.Prelude.{Bool, ◌&&◌, ℤ}
use Rattle.std.specs.Int.Signed.{le_z, rem_z}
use Rattle.integer.specs.Checked.{is_zero}
use Rattle.common.specs.Matrix.{Mat}
use Rattle.snf_steps.specs.Elementary.{quotient_fits}

abbrev pub divides : (x y : ℤ) → Bool
divides x y = quotient_fits y x && is_zero (rem_z y x)

abbrev pub in_order : (x y z : ℤ) → Bool
in_order x y z = (le_z x y && le_z y z) && (divides x y && divides y z)

abbrev pub off_diagonal_zero : Mat ℤ → Bool
off_diagonal_zero m = (is_zero m.b && is_zero m.c) && ((is_zero m.d && is_zero m.g) && (is_zero m.f && is_zero m.h))

abbrev pub settled : Mat ℤ → Bool
settled m = off_diagonal_zero m && in_order m.a m.e m.i
