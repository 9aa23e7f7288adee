-- Sizes of addresses and rotations, so that no step of a rotation leaves 64 bits.
use mathlib.Core.List.{List}
use Prim.Native.Nat.{ℕ, ◌*◌, ◌-◌, ◌/◌, ◌<◌, ◌≤◌}
use native.Mathlib.Nat.{div-le_self, mod-le, mul-le-mul_left, mul-le-mul_right}
use native.Mathlib.Omega.{arith}
use lib.IntN.{ℤ, pos, nat_abs, ◌+ℤ◌, ◌*ℤ◌}
use lib.ListN.{get_or}
use Rattle.integer.proofs.Plain.{plain, p_atom, plain-within}
use Rattle.common.specs.Matrix.{Axis, X, Y, Z, side}
use Rattle.common.proofs.Sized.{sized-items}
use Rattle.common.specs.Array.{vector_of, items, Sized}
use Rattle.grgrid.specs.Grid.{size, address, double}
use Rattle.grgrid.specs.declared.grid.Grid.{Grid}
use Rattle.grgrid.specs.Sides.{sides}
use Rattle.grgrid.proofs.Folding.{Sides}

-- ---- a grid
pub grid-few : (g : Grid) → size (sides g) ≤ 134217728
grid-few g = le_mul (g.x * g.y) g.z (le_mul g.x g.y g.fits.1 g.fits.3) g.fits.5
  where
    le_mul : {k : ℕ} (a b : ℕ) → a ≤ k → b ≤ 512 → a * b ≤ k * 512
    le_mul {k} a b h l = omega (arith, mul-le-mul_right b h, mul-le-mul_left k l)

pub sides-small : (g : Grid) (k : Axis) → side (sides g) k ≤ 512
sides-small g X = g.fits.1
sides-small g Y = g.fits.3
sides-small g Z = g.fits.5

pub grid-sides : (g : Grid) → Sides (sides g)
grid-sides g = record { positive = λ k. elim k as (λ k. 0 < side (sides g) k) [ X ↦ g.fits.0 | Y ↦ g.fits.2 | Z ↦ g.fits.4 ] }

module _ (g : Grid) (p : ℕ) (h : p < size (sides g)) where
  pub address-sized : Sized 10000000000000 (items (address (sides g) p))
  unfolding address
  address-sized =
      sized-items (address (sides g) p)
      (omega (arith, mod-le p g.x, grid-few g))
      (omega (arith, div-le_self (p - p / (g.x * g.y) * (g.x * g.y)) g.x, grid-few g))
      (omega (arith, div-le_self p (g.x * g.y), grid-few g))

-- a doubled address
pub double-sized : {a s : List ℤ} → Sized 10000000000000 a → Sized 1 s → Sized 20000000000001 (items (double (vector_of a) (vector_of s)))
double-sized {a} {s} f g = sized-items (double (vector_of a) (vector_of s)) (at 0) (at 1) (at 2)
  where
    at : (n : ℕ) → nat_abs (get_or a n (pos 0) *ℤ pos 2 +ℤ get_or s n (pos 0)) ≤ 20000000000001
    at n = twice (get_or a n (pos 0)) (get_or s n (pos 0)) (f.each n) (g.each n)
      where
        twice : (x y : ℤ) → nat_abs x ≤ 10000000000000 → nat_abs y ≤ 1 → nat_abs (x *ℤ pos 2 +ℤ y) ≤ 20000000000001
        twice x y h k = plain-within {v = x *ℤ pos 2 +ℤ y} (search (plain, p_atom) depth 12) tt

pub point-sized : (g : Grid) {s : List ℤ} → Sized 1 s → (p : ℕ) → p < size (sides g) → Sized 20000000000001 (items (double (address (sides g) p) (vector_of s)))
point-sized g t p h = double-sized {a = items (address (sides g) p)} (address-sized g p h) t
