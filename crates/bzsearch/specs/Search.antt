-- The images of a grid point: of the candidates in the Rust's range those under the least squared length found plus the tolerance. All fold to the point.
use Rattle.std.specs.Prelude.{Bool, true, false, ◌&&◌, ◌||◌, ℕ, zero, suc, ◌+◌, ◌-◌, ltb, eqb, ℤ, pos, negsuc, ◌<◌, ◌≤◌}
use Rattle.std.specs.Prelude.{nat_abs, neg_ℤ, ◌+ℤ◌, ◌*ℤ◌, ◌-ℤ◌, Float, cond}
use mathlib.Core.List.{List, [], ◌∷◌, ◌++◌, foldl}
use Rattle.std.specs.Int.Signed.{le_z, lt_z}
use Rattle.std.specs.Float.{binary64}
use Rattle.std.specs.Float.Ieee.{add, sub, mul, div, neg, of_int, of_bits, to_signed, lt}
use Rattle.float.specs.Rounding.{nint_of, floor_of, ceil_of}
use Rattle.float.specs.Sqrt.{sqrt_of}
use Rattle.common.specs.Matrix.{Axis, Vec, Mat, side, vector, map_mat, all_axes, dot, apply_over, ◌▹◌, det, inverse, origin}
use Rattle.common.specs.FloatMatrix.{floats}
use Rattle.grgrid.specs.Build.{concat}
use Rattle.grgrid.specs.Grid.{address, double}
use Rattle.bzsearch.specs.Lattice.{bz_tolerance, dual_lengths_of}

-- what the search goes by: d, the shift, Q and its inverse, the lattice, the tolerance and the lengths of the dual vectors
pub record Search : Type 0 where
  pub d : Vec ℕ
  pub ps : Vec ℤ
  pub q : Mat ℤ
  pub q_inv : Mat ℤ
  pub lattice : Mat Float
  pub tolerance : Float
  pub dual : Vec Float

abbrev pub new_search : Vec ℕ → Vec ℤ → Mat ℤ → Mat Float → Search
new_search d ps q lattice = record {
  d = d;
  ps = ps;
  q = q;
  q_inv = inverse q;
  lattice = lattice;
  tolerance = bz_tolerance lattice d;
  dual = dual_lengths_of lattice;
}

abbrev pub unimodular : Mat ℤ → Bool
unimodular q = eqb (nat_abs (det q)) 1

-- ---- the reduced coordinates of an address, split into a whole part and what is left
abbrev pub grid_coordinate : Search → Vec ℤ → Axis → Float
grid_coordinate s a k = div binary64 (of_int binary64 (side (double a s.ps) k)) (mul binary64 (of_int binary64 (pos 2)) (of_int binary64 (pos (side s.d k))))

unfoldable pub reduced : Search → Vec ℤ → Vec Float
reduced s a = apply_over floats (map_mat (of_int binary64) s.q) (vector (grid_coordinate s a))

pub record Split : Type 0 where
  pub s0 : Vec Float
  pub nint : Vec ℤ

abbrev pub split_of : Vec Float → Split
split_of v = record { s0 = vector (λ k. sub binary64 (side v k) (of_int binary64 (nint_of (side v k)))); nint = vector (λ k. nint_of (side v k)) }

unfoldable pub split_reduced : Search → Vec ℤ → Split
unfolding reduced
split_reduced s a = split_of (reduced s a)

-- ---- the squared length of lattice (s0 + m)
abbrev pub moved : Vec Float → Vec ℤ → Vec Float
moved s0 m = vector (λ k. add binary64 (side s0 k) (of_int binary64 (side m k)))

abbrev pub length_squared : Vec Float → Float
length_squared v = dot floats (side v) (side v)

unfoldable pub distance : Search → Vec Float → Vec ℤ → Float
distance s s0 m = length_squared (apply_over floats s.lattice (moved s0 m))

-- ---- the Rust's range of m along an axis: in f64 it may miss a candidate that would be kept (docs/DIFFERENCES.md)
pub record Span : Type 0 where
  pub lo : ℤ
  pub hi : ℤ

-- 1e-8
abbrev pub search_margin : Float
search_margin = of_bits binary64 0x3e45798ee2308c3a

abbrev pub span : Float → Float → Span
span s0 half_width = record { lo = to_signed 63 (ceil_of (sub binary64 (neg s0) half_width)); hi = to_signed 63 (floor_of (add binary64 (neg s0) half_width)) }

abbrev pub radius : Search → Vec Float → Float
radius s s0 = sqrt_of (add binary64 (distance s s0 origin) s.tolerance)

unfoldable pub search_range : Search → Vec Float → Vec Span
unfolding distance
search_range s s0 = vector (λ k. span (side s0 k) (add binary64 (mul binary64 (radius s s0) (side s.dual k)) search_margin))

abbrev pub within : ℤ → Span → Bool
within most r = le_z (neg_ℤ most) r.lo && le_z r.hi most

-- within -16..16
abbrev pub span_fits : Span → Bool
span_fits r = le_z (negsuc 15) r.lo && le_z r.hi (pos 16)

abbrev pub range_fits : Vec Span → Bool
range_fits r = all_axes (λ k. span_fits (side r k))

-- ---- the candidates, in the order of `for_each_candidate`
-- numbers along an axis: `low` of them from a, then from b on, n in all
pub record Numbers : Type 0 where
  pub a : ℤ
  pub low : ℕ
  pub b : ℤ
  pub n : ℕ

abbrev pub number_at : Numbers → ℕ → ℤ
number_at x k = cond (ltb k x.low) (x.a +ℤ pos k) (x.b +ℤ pos (k - x.low))

-- at most 33 numbers, each within -16..16
pub record Room (x : Numbers) : Type 0 where
  pub each : (k : ℕ) → k < x.n → nat_abs (number_at x k) ≤ 16
  pub few : x.n ≤ 33

abbrev pub max_z : ℤ → ℤ → ℤ
max_z a b = cond (lt_z a b) b a

abbrev pub min_z : ℤ → ℤ → ℤ
min_z a b = cond (lt_z b a) b a

abbrev pub to_nat : ℤ → ℕ
to_nat (pos n) = n
to_nat (negsuc n) = 0

-- how many whole numbers there are from lo to hi
abbrev pub count : ℤ → ℤ → ℕ
count lo hi = to_nat (hi +ℤ pos 1 -ℤ lo)

abbrev pub count_of : Span → ℕ
count_of r = count r.lo r.hi

abbrev pub upwards : Span → Numbers
upwards r = record { a = r.lo; low = count_of r; b = pos 0; n = count_of r }

abbrev pub from_zero : Span → Span
from_zero r = record { lo = max_z r.lo (pos 0); hi = r.hi }

abbrev pub below_zero : Span → Span
below_zero r = record { lo = r.lo; hi = min_z r.hi (negsuc 0) }

-- from 0 on, then those below 0: 0, 1, 2, -2, -1
abbrev pub fft_order : Span → Numbers
fft_order r = record { a = (from_zero r).lo; low = count_of (from_zero r); b = r.lo; n = count_of (from_zero r) + count_of (below_zero r) }

-- -2..2
abbrev pub nearby : Span
nearby = record { lo = negsuc 1; hi = pos 2 }

-- clipped to it
abbrev pub clipped : Span → Span
clipped r = record { lo = max_z r.lo nearby.lo; hi = min_z r.hi nearby.hi }

-- g i, g (i + 1), .. , n of them
abbrev pub numbers_from : {A : Type 0} → (ℕ → A) → ℕ → ℕ → List A
numbers_from g i zero = []
numbers_from g i (suc n) = g i ∷ numbers_from g (suc i) n

abbrev pub far : ℤ → Bool
far z = lt_z z (negsuc 1) || lt_z (pos 2) z

-- some number lies outside -2..2
unfoldable pub outside : Vec ℤ → Bool
outside m = far m.x || (far m.y || far m.z)

-- of the rest, only those outside
abbrev pub chosen : Bool → Vec ℤ → List (Vec ℤ)
chosen rest m = cond rest (cond (outside m) (m ∷ []) []) (m ∷ [])

abbrev pub line_at : Bool → Numbers → ℤ → ℤ → ℕ → List (Vec ℤ)
line_at rest z x y k = chosen rest (record { x = x; y = y; z = number_at z k })

abbrev pub plane_at : Bool → Numbers → Numbers → ℤ → ℕ → List (Vec ℤ)
plane_at rest y z x j = concat (line_at rest z x (number_at y j)) z.n

abbrev pub box_at : Bool → Vec Numbers → ℕ → List (Vec ℤ)
box_at rest v i = concat (plane_at rest v.y v.z (number_at v.x i)) v.y.n

abbrev pub box : Bool → Vec Numbers → List (Vec ℤ)
box rest v = concat (box_at rest v) v.x.n

abbrev pub first_box : Vec Span → Vec Numbers
first_box r = vector (λ k. fft_order (clipped (side r k)))

abbrev pub whole_box : Vec Span → Vec Numbers
whole_box r = vector (λ k. upwards (side r k))

-- there is no rest
abbrev pub near : Vec Span → Bool
near r = all_axes (λ k. le_z nearby.lo (side r k).lo && le_z (side r k).hi nearby.hi)

unfoldable pub candidates : Vec Span → List (Vec ℤ)
unfolding outside
candidates r = box false (first_box r) ++ cond (near r) [] (box true (whole_box r))

-- ---- the least length, which falls only by more than the tolerance, and the candidates that lie under it plus the tolerance
abbrev pub lower : Search → Vec Float → Float → Vec ℤ → Float
lower s s0 least m = cond (lt (distance s s0 m) (sub binary64 least s.tolerance)) (distance s s0 m) least

abbrev pub least_of : Search → Vec Float → Float → List (Vec ℤ) → Float
least_of s s0 least ms = foldl (lower s s0) least ms

unfoldable pub bound : Search → Vec Float → List (Vec ℤ) → Float
unfolding distance
bound s s0 ms = add binary64 (least_of s s0 (distance s s0 origin) ms) s.tolerance

abbrev pub set_bz_address : Search → Vec ℤ → Vec ℤ → Vec ℤ → Vec ℤ
set_bz_address s a nint m = vector (λ k. side a k +ℤ side (s.q_inv ▹ vector (λ j. side m j -ℤ side nint j)) k *ℤ pos (side s.d k))

-- what is kept of a list, each as h makes it
abbrev pub kept_by : {A B : Type 0} → (A → Bool) → (A → B) → List A → List B
kept_by q h [] = []
kept_by q h (m ∷ ms) = cond (q m) (h m ∷ kept_by q h ms) (kept_by q h ms)

abbrev pub images_from : Search → Vec ℤ → Split → List (Vec ℤ) → List (Vec ℤ)
images_from s a p ms = kept_by (λ m. lt (distance s p.s0 m) (bound s p.s0 ms)) (set_bz_address s a p.nint) ms

abbrev pub images_of : Search → Vec ℤ → Split → List (Vec ℤ)
images_of s a p = let r = search_range s p.s0 in cond (range_fits r) (images_from s a p (candidates r)) []

-- a point whose search range leaves -16..16 has none
unfoldable pub images : Search → ℕ → List (Vec ℤ)
unfolding address split_reduced distance search_range candidates bound
images s p = images_of s (address s.d p) (split_reduced s (address s.d p))
