-- What accepted tests say of d, ps, a point, the rotations and the length of the output.
use mathlib.Core.Path.{◌≡◌}
use mathlib.Core.Bool.{◌&&◌}
use mathlib.Core.List.{List}
use Prim.Native.Nat.{ℕ, ◌*◌, ◌<◌, ◌≤◌}
use native.Mathlib.Nat.{le_trans}
use lib.Dec.{T, leb, eqb, leb→le, ltb→lt, lit≤}
use lib.IntN.{ℤ, pos, negsuc, nat_abs}
use lib.ListN.{length, get_or}
use lib.Signed.{non_neg, le_z, lt_z}
use borrow.Author.Tests.{eqb-true}
use Rattle.common.specs.Tested.{Accepted}
use Rattle.integer.proofs.Test.{holds, and_l, and_r}
use Rattle.common.specs.Matrix.{Axis, X, Y, Z, side}
use Rattle.common.specs.Array.{sides_of}
use Rattle.common.specs.Limits.{all_within, side_fits, diagonal_fits, shift_fits, point_fits, rotations_fit, whole_matrices}
use Rattle.common.specs.declared.Refusal.TheVariants.{OutsideLimits, WrongLength}
use Rattle.common.proofs.Bounds.{side-positive, side-size}
use Rattle.common.proofs.Tests.{passed}
use Rattle.grgrid.specs.Grid.{size}
use Rattle.grgrid.specs.Sides.{GridFits}
use Rattle.grgrid.specs.IrGridMap.{map_tests}
use Rattle.grgrid.specs.Addresses.{address_tests}

-- ---- the diagonal numbers
module _ (d : List ℤ) (t : T (diagonal_fits d)) where
  abbrev at : ℕ → ℤ
  at n = get_or d n (pos 0)

  three : T (side_fits (at 0) && (side_fits (at 1) && side_fits (at 2)))
  three = and_l (side_fits (at 0) && (side_fits (at 1) && side_fits (at 2))) (leb (size (sides_of d)) 65536) t

  pub side-0 : T (side_fits (at 0))
  side-0 = and_l (side_fits (at 0)) (side_fits (at 1) && side_fits (at 2)) three

  pub side-1 : T (side_fits (at 1))
  side-1 = and_l (side_fits (at 1)) (side_fits (at 2)) (and_r (side_fits (at 0)) (side_fits (at 1) && side_fits (at 2)) three)

  pub side-2 : T (side_fits (at 2))
  side-2 = and_r (side_fits (at 1)) (side_fits (at 2)) (and_r (side_fits (at 0)) (side_fits (at 1) && side_fits (at 2)) three)

  -- at most 256 along each axis, and at most 65,536 points
  pub side-small : (k : Axis) → side (sides_of d) k ≤ 256
  side-small X = side-size (at 0) side-0
  side-small Y = side-size (at 1) side-1
  side-small Z = side-size (at 2) side-2

  pub few-points : size (sides_of d) ≤ 65536
  few-points = leb→le (size (sides_of d)) 65536 (and_r (side_fits (at 0) && (side_fits (at 1) && side_fits (at 2))) (leb (size (sides_of d)) 65536) t)

  pub grid-fits : GridFits (sides_of d)
  grid-fits = record { positive = above; small = λ k. le_trans (side-small k) (lit≤ tt); few = le_trans few-points (lit≤ tt) }
    where
      above : (k : Axis) → 0 < side (sides_of d) k
      above X = side-positive (at 0) side-0
      above Y = side-positive (at 1) side-1
      above Z = side-positive (at 2) side-2

-- ---- a point
pub point-inside : (q : ℤ) (n : ℕ) → T (point_fits q (pos n)) → T (non_neg q) × (nat_abs q < n)
point-inside (pos p) n t = (tt, ltb→lt p n (and_r (le_z (pos 0) (pos p)) (lt_z (pos p) (pos n)) t))
point-inside (negsuc p) n t = absurd t

-- ---- the tests
pub record MapAccepted (rotations d ps : List ℤ) (n : ℕ) : Type 0 where
  pub grid : T (diagonal_fits d)
  pub places : n ≡ size (sides_of d)
  pub shift : T (shift_fits ps)
  pub entries : T (all_within 100000 rotations)

pub map-accepted : (rotations d ps : List ℤ) (n : ℕ) → map_tests rotations d ps n ≡ Accepted → MapAccepted rotations d ps n
unfolding map_tests
map-accepted rotations d ps n e =
    let a = passed (whole_matrices rotations) WrongLength _ e in
    let b = passed (diagonal_fits d) OutsideLimits _ a.1 in
    let c = passed (eqb n (size (sides_of d))) WrongLength _ b.1 in
    let f = passed (shift_fits ps) OutsideLimits _ c.1 in
    let g = passed (rotations_fit 100000 rotations) OutsideLimits _ f.1 in
    record { grid = holds b.0; places = eqb-true n (size (sides_of d)) c.0; shift = holds f.0; entries = and_r (leb (length rotations) 1728) (all_within 100000 rotations) (holds g.0) }

pub record AddressesAccepted (d : List ℤ) (n : ℕ) : Type 0 where
  pub grid : T (diagonal_fits d)
  pub places : n ≡ size (sides_of d) * 3

pub addresses-accepted : (d : List ℤ) (n : ℕ) → address_tests d n ≡ Accepted → AddressesAccepted d n
unfolding address_tests
addresses-accepted d n e =
    let a = passed (diagonal_fits d) OutsideLimits _ e in
    let b = passed (eqb n (size (sides_of d) * 3)) WrongLength _ a.1 in
    record { grid = holds a.0; places = eqb-true n (size (sides_of d) * 3) b.0 }
