-- What the accepted tests of `rotate_in` say of its input, and its answer from what was read.
use mathlib.Core.Path.{◌≡◌, ap}
use mathlib.Core.Bool.{◌&&◌}
use mathlib.Core.List.{List}
use lib.Dec.{T}
use lib.IntN.{ℤ}
use Rattle.std.specs.Prelude.{Result, Ok}
use Rattle.integer.proofs.Test.{holds, and_l, and_r}
use Rattle.common.specs.Tested.{◌then◌}
use Rattle.common.specs.Array.{matrix_of}
use Rattle.common.specs.Limits.{matrix_within, diagonal_fits, shift_fits}
use Rattle.common.specs.declared.Refusal.{Refusal}
use Rattle.common.specs.declared.Refusal.TheVariants.{OutsideLimits, WrongLength}
use Rattle.bzgrid.specs.declared.GridType.{GridType}
use Rattle.bzgrid.proofs.Accepted.{passes}
use Rattle.bztable.specs.Reading.{whole_addresses}
use Rattle.bztable.specs.Rotate.{rotate_tests, rotate_read, rotate_in}

-- ---- the call
module _ (rotation : List (List ℤ)) (l d ps : List ℤ) where
  pub record RotateAccepted : Type 0 where
    pub grid : T (diagonal_fits d)
    pub shift : T (shift_fits ps)
    pub entries : T (matrix_within 100000 (matrix_of rotation))

  pub rotate-accepted : (k : Result GridType Refusal) {t : GridType} → rotate_tests rotation l d ps k ≡ Ok t → RotateAccepted
  unfolding rotate_tests
  rotate-accepted k e =
      let f = shift_fits ps && matrix_within 100000 (matrix_of rotation) in
      let h = holds (passes (diagonal_fits d && f) OutsideLimits _ (passes (whole_addresses l) WrongLength _ e).1).0 in
      let g = and_r (diagonal_fits d) f h in
      record { grid = and_l (diagonal_fits d) f h; shift = and_l (shift_fits ps) (matrix_within 100000 (matrix_of rotation)) g; entries = and_r (shift_fits ps) (matrix_within 100000 (matrix_of rotation)) g }

  pub rotate-answered : (i : ℤ) (m : List ℤ) (k : Result GridType Refusal) {r : Result GridType Refusal} → r ≡ rotate_tests rotation l d ps k → (r then rotate_read i rotation l m d ps) ≡ rotate_in k i rotation l m d ps
  unfolding rotate_in
  rotate-answered i m k e = ap (λ r. r then rotate_read i rotation l m d ps) e
