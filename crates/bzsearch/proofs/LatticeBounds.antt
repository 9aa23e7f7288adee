-- Lengths in a lattice within the limits are finite numbers and not below zero: its determinant, the tolerance, and the squared length of a candidate.
use mathlib.Core.Path.{◌≡◌, refl, ◌∙◌, ap}
use mathlib.Core.Bool.{Bool, true, false, not, ◌||◌}
use Prim.Native.Nat.{ℕ, suc, ◌+◌, ◌*◌, ◌^◌, ◌≤◌, ◌<◌}
use native.Mathlib.Nat.{le_trans, mul-pos, mul-le-mul, mul-le-mul_right}
use native.Mathlib.Omega.{arith}
use lib.Dec.{T, lit≤}
use lib.IntN.{ℤ, pos, nat_abs}
use lib.Ieee.{Float, Format, binary64, add, sub, mul, div, le, lt, eq, of_int, of_bits}
use lib.Ieee.Scale.{finite}
use lib.Pow.{pow_mono}
use lib.Ieee.Positive.{den, den_pos}
use Rattle.integer.proofs.Test.{is_true, pick-cases}
use Rattle.float.specs.Value.{plus, less, Bounded, zero_f}
use Rattle.float.specs.Rounding.{abs_of, nint_of}
use Rattle.float.proofs.Order.{le→cross, finite_number}
use Rattle.float.proofs.Operations.{mul-rounds, div-rounds, square-nonneg, sum_nonneg, rounds-nonneg}
use Rattle.float.proofs.Whole.{of_int-whole, whole-positive}
use Rattle.float.proofs.Bounds.{bounded-up, whole-bounded, abs-bounded, add-bounded, sub-bounded, mul-bounded, div-bounded, whole-at-least}
use Rattle.float.proofs.Cast.{nint-bounded}
use Rattle.common.specs.Matrix.{Axis, X, Y, Z, Vec, Mat, side, entry, all_axes, cross, dot, expand, minors, apply_over}
use Rattle.common.specs.FloatMatrix.{floats}
use Rattle.common.proofs.Matrix.{axes-of, side-vector}
use Rattle.grgrid.specs.Sides.{GridFits}
use Rattle.bzsearch.specs.Lattice.{zero_d, squared, squares_from0, step_squared, larger, bz_tolerance, tolerance_factor, lattice_det, singular, lattice_fits}
use Rattle.bzsearch.specs.Search.{Search, reduced, split_reduced, moved, distance}
use Rattle.bzsearch.proofs.Coordinates.{reduced-fits}

-- ---- quotients and products that are not below zero
above : (x : Float) → T (finite x) → T (le zero_f x) → less x ≤ plus x
above x t h = let g = le→cross zero_f x tt t h in omega arith

div-nonneg : (f : Format) (x y : Float) → T (finite x) → T (le zero_f x) → 0 < plus y → T (le zero_f (div f x y))
div-nonneg f x y t h p = rounds-nonneg (div-rounds f x y t p) (mul-pos p (den_pos x)) (mul-le-mul_right (den y) (above x t h))

mul-nonneg : (f : Format) (x y : Float) → T (finite x) → T (finite y) → T (le zero_f x) → less y ≡ 0 → T (le zero_f (mul f x y))
mul-nonneg f x y t u h e =
    let g = mul-le-mul_right (plus y) (above x t h) in
    let z = ap (λ (n : ℕ). plus x * n) e in
    rounds-nonneg (mul-rounds f x y t u) (mul-pos (den_pos x) (den_pos y)) (omega arith)

-- ---- sums of products
module _ (u v : Axis → Float) (j k : ℕ) (h : suc (suc (j + k)) ≤ 1023) (f : (a : Axis) → Bounded j (u a)) (g : (a : Axis) → Bounded k (v a)) where
  term : (a : Axis) → Bounded (j + k) (mul binary64 (u a) (v a))
  term a = mul-bounded binary64 j k (u a) (v a) (omega arith) (f a) (g a)

  last : Bounded (suc (j + k)) (mul binary64 (u Z) (v Z))
  last = bounded-up (j + k) (suc (j + k)) (mul binary64 (u Z) (v Z)) (omega arith) (term Z)

  pub dot-bounded : Bounded (suc (suc (j + k))) (dot floats u v)
  dot-bounded =
      add-bounded binary64 (suc (j + k)) (add binary64 (mul binary64 (u X) (v X)) (mul binary64 (u Y) (v Y))) (mul binary64 (u Z) (v Z)) h
      (add-bounded binary64 (j + k) (mul binary64 (u X) (v X)) (mul binary64 (u Y) (v Y)) (omega arith) (term X) (term Y)) last

  expand-bounded : Bounded (suc (suc (j + k))) (expand floats u v)
  expand-bounded =
      add-bounded binary64 (suc (j + k)) (sub binary64 (mul binary64 (u X) (v X)) (mul binary64 (u Y) (v Y))) (mul binary64 (u Z) (v Z)) h
      (sub-bounded binary64 (j + k) (mul binary64 (u X) (v X)) (mul binary64 (u Y) (v Y)) (omega arith) (term X) (term Y)) last

-- ---- the lattice
module _ (m : Mat Float) (t : T (lattice_fits m)) where
  pub entry-bounded : (j k : Axis) → Bounded 20 (entry m j k)
  entry-bounded j k =
      abs-bounded 20 (entry m j k) (of_int binary64 (pos 1000000))
      (axes-of (λ k. le (abs_of (entry m j k)) (of_int binary64 (pos 1000000))) (axes-of (λ j. all_axes (λ k. le (abs_of (entry m j k)) (of_int binary64 (pos 1000000)))) t j) k)
      (whole-bounded 20 (of_int binary64 (pos 1000000)) (pos 1000000) (of_int-whole binary64 (pos 1000000) (lit≤ tt)) (lit≤ tt))

  cross-bounded : (a b c d : Axis) → Bounded 41 (cross floats (entry m Y a) (entry m Y b) (entry m Z c) (entry m Z d))
  cross-bounded a b c d =
      sub-bounded binary64 40 (mul binary64 (entry m Y a) (entry m Z d)) (mul binary64 (entry m Y b) (entry m Z c)) (lit≤ tt)
      (mul-bounded binary64 20 20 (entry m Y a) (entry m Z d) (lit≤ tt) (entry-bounded Y a) (entry-bounded Z d))
      (mul-bounded binary64 20 20 (entry m Y b) (entry m Z c) (lit≤ tt) (entry-bounded Y b) (entry-bounded Z c))

  pub det-bounded : Bounded 63 (lattice_det m)
  unfolding lattice_det
  det-bounded = expand-bounded (entry m X) (minors floats (entry m Y) (entry m Z)) 20 41 (lit≤ tt) (entry-bounded X) minor
    where
      minor : (a : Axis) → Bounded 41 (minors floats (entry m Y) (entry m Z) a)
      minor X = cross-bounded Y Z Y Z
      minor Y = cross-bounded X Z X Z
      minor Z = cross-bounded X Y X Y

  -- refusal 11 is given exactly if the determinant is 0
  pub singular-is : singular m ≡ eq (lattice_det m) zero_d
  unfolding singular
  singular-is = ap (λ f. eq (lattice_det m) zero_d || not f) (is_true (finite (lattice_det m)) det-bounded.number) ∙ none (eq (lattice_det m) zero_d)
    where
      none : (b : Bool) → b || false ≡ b
      none true = refl
      none false = refl

-- ---- the tolerance
abbrev Length : ℕ → Float → Type 0
Length k x = Bounded k x × T (le zero_f x)

zero-length : (k : ℕ) → Length k zero_d
unfolding of_int le lt eq
zero-length k = (record { number = tt; within = omega arith }, tt)

square-length : (k : ℕ) (x : Float) → k + k ≤ 1023 → Bounded k x → Length (k + k) (squared x)
square-length k x h b = (mul-bounded binary64 k k x x h b b, square-nonneg binary64 x (finite_number x b.number))

sum-length : (k : ℕ) (x y : Float) → suc k ≤ 1023 → Length k x → Length k y → Length (suc k) (add binary64 x y)
sum-length k x y h a b = (add-bounded binary64 k x y h a.0 b.0, sum_nonneg binary64 x y a.1 b.1)

length_up : (j k : ℕ) (x : Float) → j ≤ k → Length j x → Length k x
length_up j k x h a = (bounded-up j k x h a.0, a.1)

larger-length : (k : ℕ) (x y : Float) → Length k x → Length k y → Length k (larger x y)
larger-length k x y a b = pick-cases (lt x y) y x (Length k) (λ _. b) (λ _. a)

squares-length : (x y z : Float) → Bounded 20 x → Bounded 20 y → Bounded 20 z → Length 43 (squares_from0 x y z)
squares-length x y z a b c =
    sum-length 42 (add binary64 (add binary64 zero_d (squared x)) (squared y)) (squared z) (lit≤ tt)
    (sum-length 41 (add binary64 zero_d (squared x)) (squared y) (lit≤ tt)
    (sum-length 40 zero_d (squared x) (lit≤ tt) (zero-length 40) (square-length 20 x (lit≤ tt) a))
    (length_up 40 41 (squared y) (lit≤ tt) (square-length 20 y (lit≤ tt) b))) (length_up 40 42 (squared z) (lit≤ tt) (square-length 20 z (lit≤ tt) c))

-- by the square of a diagonal number
step-length : (x : Float) (n : ℕ) → 0 < n → n ≤ 512 → Length 43 x → Length 43 (div binary64 x (of_int binary64 (pos (n * n))))
step-length x n N h a =
    let w = of_int-whole binary64 (pos (n * n)) (le_trans (mul-le-mul h h) (lit≤ tt)) in (
      div-bounded binary64 0 43 x (of_int binary64 (pos (n * n))) (lit≤ tt) a.0 (whole-at-least (of_int binary64 (pos (n * n))) (n * n) (mul-pos N N) w),
      div-nonneg binary64 x (of_int binary64 (pos (n * n))) a.0.number a.1 (whole-positive (of_int binary64 (pos (n * n))) (n * n) (mul-pos N N) w).0,
    )

factor-bounded : Bounded 0 tolerance_factor × (less tolerance_factor ≡ 0)
unfolding of_bits
factor-bounded = (record { number = tt; within = lit≤ tt }, refl)

module _ (m : Mat Float) (t : T (lattice_fits m)) (d : Vec ℕ) (f : GridFits d) where
  pub tolerance-length : Bounded 43 (bz_tolerance m d) × T (le zero_f (bz_tolerance m d))
  unfolding bz_tolerance
  tolerance-length =
      (mul-bounded binary64 43 0 most tolerance_factor (lit≤ tt) all.0 factor-bounded.0, mul-nonneg binary64 most tolerance_factor all.0.number factor-bounded.0.number all.1 factor-bounded.1)
    where
      step : (k : Axis) → Length 43 (step_squared m d k)
      step k = step-length (squares_from0 (entry m X k) (entry m Y k) (entry m Z k)) (side d k) (f.positive k) (f.small k) (squares-length (entry m X k) (entry m Y k) (entry m Z k) (entry-bounded m t X k) (entry-bounded m t Y k) (entry-bounded m t Z k))

      most : Float
      most = larger (larger (larger zero_d (step_squared m d X)) (step_squared m d Y)) (step_squared m d Z)

      all : Length 43 most
      all =
          larger-length 43 (larger (larger zero_d (step_squared m d X)) (step_squared m d Y)) (step_squared m d Z)
          (larger-length 43 (larger zero_d (step_squared m d X)) (step_squared m d Y) (larger-length 43 zero_d (step_squared m d X) (zero-length 43) (step X)) (step Y)) (step Z)

-- ---- the squared length of a candidate
squares-nonneg : (u : Axis → Float) → ((k : Axis) → T (finite (u k))) → T (le zero_f (dot floats u u))
squares-nonneg u h =
    sum_nonneg binary64 (add binary64 (squared (u X)) (squared (u Y))) (squared (u Z)) (sum_nonneg binary64 (squared (u X)) (squared (u Y)) (square X) (square Y)) (square Z)
  where
    square : (k : Axis) → T (le zero_f (squared (u k)))
    square k = square-nonneg binary64 (u k) (finite_number (u k) (h k))

pub whole-small : (k : ℕ) (z : ℤ) → nat_abs z ≤ 2 ^ k → k ≤ 53 → Bounded k (of_int binary64 z)
whole-small k z h l = whole-bounded k (of_int binary64 z) z (of_int-whole binary64 z (le_trans h (pow_mono l))) h

module _ (s : Search) (t : T (lattice_fits s.lattice)) (s0 : Vec Float) (b : (k : Axis) → Bounded 13 (side s0 k)) (m : Vec ℤ) (h : (k : Axis) → nat_abs (side m k) ≤ 16) where
  moved-bounded : (k : Axis) → Bounded 14 (side (moved s0 m) k)
  moved-bounded k =
      rw (side-vector (λ k. add binary64 (side s0 k) (of_int binary64 (side m k))) k)
      (add-bounded binary64 13 (side s0 k) (of_int binary64 (side m k)) (lit≤ tt) (b k) (whole-small 13 (side m k) (le_trans (h k) (lit≤ tt)) (lit≤ tt)))

  carried-bounded : (k : Axis) → Bounded 36 (side (apply_over floats s.lattice (moved s0 m)) k)
  carried-bounded k =
      rw (side-vector (λ j. dot floats (entry s.lattice j) (side (moved s0 m))) k)
      (dot-bounded (entry s.lattice k) (side (moved s0 m)) 20 14 (lit≤ tt) (entry-bounded s.lattice t k) moved-bounded)

  pub distance-length : Bounded 74 (distance s s0 m) × T (le zero_f (distance s s0 m))
  unfolding distance
  distance-length =
      let v = side (apply_over floats s.lattice (moved s0 m)) in
      (dot-bounded v v 36 36 (lit≤ tt) carried-bounded carried-bounded, squares-nonneg v (λ k. (carried-bounded k).number))

-- ---- what is left of coordinates of at most 4096
module _ (s : Search) (a : Vec ℤ) where
  pub s0-bounded : ((k : Axis) → Bounded 12 (side (reduced s a) k)) → (k : Axis) → Bounded 13 (side (split_reduced s a).s0 k)
  unfolding split_reduced
  s0-bounded r k =
      rw (side-vector (λ k. sub binary64 (side (reduced s a) k) (of_int binary64 (nint_of (side (reduced s a) k)))) k)
      (sub-bounded binary64 12 (side (reduced s a) k) (of_int binary64 (nint_of (side (reduced s a) k))) (lit≤ tt) (r k)
      (whole-small 12 (nint_of (side (reduced s a) k)) (nint-bounded (side (reduced s a) k) 12 (reduced-fits s a k) (lit≤ tt) (r k)) (lit≤ tt)))
