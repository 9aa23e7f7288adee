-- What the tests of a product and of a determinant say of each number.
use mathlib.Core.Bool.{Bool, ◌&&◌}
use Prim.Native.Nat.{ℕ, ◌+◌, ◌*◌, ◌≤◌, max}
use native.Mathlib.Nat.{le_of_eq, le-max_left, le-max_right, le_trans, add-le-add, mul-le-mul, lt_of_le_of_lt}
use lib.Dec.{T, lit<}
use lib.IntN.{ℤ, nat_abs, neg_ℤ, ◌+ℤ◌, ◌*ℤ◌, ◌-ℤ◌}
use Rattle.integer.specs.Checked.{fits64}
use Rattle.integer.proofs.Test.{and_l, and_r, and_in}
use Rattle.integer.proofs.Size.{abs_neg, abs-mul, abs-add}
use Rattle.integer.proofs.Fits.{size_fits}
use Rattle.common.specs.Matrix.{Axis, X, Y, Z, all_axes, Mat, entry, Ops, cross, dot, expand, minors, integers, det}
use Rattle.common.specs.Fitting.{dot_fits_over, product_fits_over}
use Rattle.common.specs.IntegerMatrix.{products_fit, dot_fits, product_fits, cross_fits, minors_fit, expand_fits, det_fits, largest_of, largest}
use Rattle.common.proofs.Matrix.{axes-of, all-axes}

-- three products, the sum of two, and that of all
pub record DotFits (u v : Axis → ℤ) : Type 0 where
  pub product : (k : Axis) → T (fits64 (u k *ℤ v k))
  pub two : T (fits64 (u X *ℤ v X +ℤ u Y *ℤ v Y))
  pub whole : T (fits64 (dot integers u v))

pub dot-fits : (u v : Axis → ℤ) → T (dot_fits u v) → DotFits u v
dot-fits u v t =
    let two = fits64 (u X *ℤ v X +ℤ u Y *ℤ v Y) in
    let all = fits64 (dot integers u v) in
    let rest = and_r (products_fit u v) (two && all) t in
    record {
      product = axes-of (λ k. fits64 (u k *ℤ v k)) (and_l (products_fit u v) (two && all) t);
      two = and_l two all rest;
      whole = and_r two all rest;
    }

-- the tests of the minor without column k
abbrev minor_fits : (y z : Axis → ℤ) → Axis → Bool
minor_fits y z X = cross_fits (y Y) (y Z) (z Y) (z Z)
minor_fits y z Y = cross_fits (y X) (y Z) (z X) (z Z)
minor_fits y z Z = cross_fits (y X) (y Y) (z X) (z Y)

-- ---- by sizes: three products of numbers up to x and y
module _ (x y : ℤ) {m n : ℕ} (h : nat_abs x ≤ m) (k : nat_abs y ≤ n) where
  pub sum-size : nat_abs (x +ℤ y) ≤ m + n
  sum-size = le_trans (abs-add x y) (add-le-add h k)

  pub difference-size : nat_abs (x -ℤ y) ≤ m + n
  difference-size = le_trans (abs-add x (neg_ℤ y)) (add-le-add h (le_trans (le_of_eq (abs_neg y)) k))

  pub product-size : nat_abs (x *ℤ y) ≤ m * n
  product-size = le_trans (le_of_eq (abs-mul x y)) (mul-le-mul h k)

pub sized-dot : (u v : Axis → ℤ) (x y : ℕ) → ((k : Axis) → nat_abs (u k) ≤ x) → ((k : Axis) → nat_abs (v k) ≤ y) → x * y ≤ 3074457345618258602 → T (dot_fits u v)
sized-dot u v x y f g h =
    and_in (products_fit u v) (fits64 (u X *ℤ v X +ℤ u Y *ℤ v Y) && fits64 (dot integers u v))
    (all-axes (λ k. fits64 (u k *ℤ v k)) (λ k. size_fits (u k *ℤ v k) (lt_of_le_of_lt (size k) (lit< tt))))
    (and_in (fits64 (u X *ℤ v X +ℤ u Y *ℤ v Y)) (fits64 (dot integers u v))
    (size_fits (u X *ℤ v X +ℤ u Y *ℤ v Y) (lt_of_le_of_lt two (lit< tt)))
    (size_fits (dot integers u v) (lt_of_le_of_lt (sum-size (u X *ℤ v X +ℤ u Y *ℤ v Y) (u Z *ℤ v Z) two (size Z)) (lit< tt))))
  where
    size : (k : Axis) → nat_abs (u k *ℤ v k) ≤ 3074457345618258602
    size k = le_trans (product-size (u k) (v k) (f k) (g k)) h

    two : nat_abs (u X *ℤ v X +ℤ u Y *ℤ v Y) ≤ 6148914691236517204
    two = sum-size (u X *ℤ v X) (u Y *ℤ v Y) (size X) (size Y)

-- ---- a determinant of entries up to 1,000,000
module _ (j k m n : ℤ) (p : nat_abs j ≤ 1000000) (q : nat_abs k ≤ 1000000) (r : nat_abs m ≤ 1000000) (s : nat_abs n ≤ 1000000) where
  cross-size : nat_abs (cross integers j k m n) ≤ 2000000000000
  cross-size = difference-size (j *ℤ n) (k *ℤ m) (product-size j n p s) (product-size k m q r)

  sized-cross : T (cross_fits j k m n)
  sized-cross =
      and_in (fits64 (j *ℤ n)) (fits64 (k *ℤ m) && fits64 (cross integers j k m n)) (size_fits (j *ℤ n) (lt_of_le_of_lt (product-size j n p s) (lit< tt)))
      (and_in (fits64 (k *ℤ m)) (fits64 (cross integers j k m n)) (size_fits (k *ℤ m) (lt_of_le_of_lt (product-size k m q r) (lit< tt)))
      (size_fits (cross integers j k m n) (lt_of_le_of_lt cross-size (lit< tt))))

module _ (m : Mat ℤ) (h : (j k : Axis) → nat_abs (entry m j k) ≤ 1000000) where
  minor-size : (k : Axis) → nat_abs (minors integers (entry m Y) (entry m Z) k) ≤ 2000000000000
  minor-size X = cross-size m.e m.f m.h m.i (h Y Y) (h Y Z) (h Z Y) (h Z Z)
  minor-size Y = cross-size m.d m.f m.g m.i (h Y X) (h Y Z) (h Z X) (h Z Z)
  minor-size Z = cross-size m.d m.e m.g m.h (h Y X) (h Y Y) (h Z X) (h Z Y)

  sized-minor : (k : Axis) → T (minor_fits (entry m Y) (entry m Z) k)
  sized-minor X = sized-cross m.e m.f m.h m.i (h Y Y) (h Y Z) (h Z Y) (h Z Z)
  sized-minor Y = sized-cross m.d m.f m.g m.i (h Y X) (h Y Z) (h Z X) (h Z Z)
  sized-minor Z = sized-cross m.d m.e m.g m.h (h Y X) (h Y Y) (h Z X) (h Z Y)

  abbrev u : Axis → ℤ
  u = entry m X

  abbrev v : Axis → ℤ
  v = minors integers (entry m Y) (entry m Z)

  term-size : (k : Axis) → nat_abs (u k *ℤ v k) ≤ 2000000000000000000
  term-size k = product-size (u k) (v k) (h X k) (minor-size k)

  two-terms-size : nat_abs (u X *ℤ v X -ℤ u Y *ℤ v Y) ≤ 4000000000000000000
  two-terms-size = difference-size (u X *ℤ v X) (u Y *ℤ v Y) (term-size X) (term-size Y)

  pub det-size : nat_abs (det m) ≤ 6000000000000000000
  det-size = sum-size (u X *ℤ v X -ℤ u Y *ℤ v Y) (u Z *ℤ v Z) two-terms-size (term-size Z)

  pub sized-det : T (det_fits m)
  unfolding det_fits
  sized-det =
      and_in (minors_fit (entry m Y) (entry m Z)) (expand_fits u v) (all-axes (minor_fits (entry m Y) (entry m Z)) sized-minor)
      (and_in (products_fit u v) (fits64 (u X *ℤ v X -ℤ u Y *ℤ v Y) && fits64 (expand integers u v))
      (all-axes (λ k. fits64 (u k *ℤ v k)) (λ k. size_fits (u k *ℤ v k) (lt_of_le_of_lt (term-size k) (lit< tt))))
      (and_in (fits64 (u X *ℤ v X -ℤ u Y *ℤ v Y)) (fits64 (expand integers u v))
      (size_fits (u X *ℤ v X -ℤ u Y *ℤ v Y) (lt_of_le_of_lt two-terms-size (lit< tt)))
      (size_fits (expand integers u v) (lt_of_le_of_lt det-size (lit< tt)))))

-- ---- the largest size
largest-of : (u : Axis → ℤ) (k : Axis) → nat_abs (u k) ≤ largest_of u
largest-of u X = le_trans (le-max_left (nat_abs (u X)) (nat_abs (u Y))) (le-max_left (max (nat_abs (u X)) (nat_abs (u Y))) (nat_abs (u Z)))
largest-of u Y = le_trans (le-max_right (nat_abs (u X)) (nat_abs (u Y))) (le-max_left (max (nat_abs (u X)) (nat_abs (u Y))) (nat_abs (u Z)))
largest-of u Z = le-max_right (max (nat_abs (u X)) (nat_abs (u Y))) (nat_abs (u Z))

pub entry-size : (m : Mat ℤ) (j k : Axis) → nat_abs (entry m j k) ≤ largest m
unfolding largest
entry-size m j k = le_trans (largest-of (entry m j) k) (of j)
  where
    of : (j : Axis) → largest_of (entry m j) ≤ max (max (largest_of (entry m X)) (largest_of (entry m Y))) (largest_of (entry m Z))
    of X = le_trans (le-max_left (largest_of (entry m X)) (largest_of (entry m Y))) (le-max_left (max (largest_of (entry m X)) (largest_of (entry m Y))) (largest_of (entry m Z)))
    of Y = le_trans (le-max_right (largest_of (entry m X)) (largest_of (entry m Y))) (le-max_left (max (largest_of (entry m X)) (largest_of (entry m Y))) (largest_of (entry m Z)))
    of Z = le-max_right (max (largest_of (entry m X)) (largest_of (entry m Y))) (largest_of (entry m Z))

-- of entries up to x and y
pub sized-product : (l m : Mat ℤ) (x y : ℕ) → ((j k : Axis) → nat_abs (entry l j k) ≤ x) → ((j k : Axis) → nat_abs (entry m j k) ≤ y) → x * y ≤ 3074457345618258602 → T (product_fits l m)
unfolding product_fits
sized-product l m x y f g h =
    all-axes (λ j. all_axes (λ k. dot_fits (entry l j) (λ n. entry m n k))) (λ j. all-axes (λ k. dot_fits (entry l j) (λ n. entry m n k)) (λ k.
    sized-dot (entry l j) (λ n. entry m n k) x y (f j) (λ n. g n k) h))

pub sized-products : (l a b : Mat ℤ) → largest l * max (largest a) (largest b) ≤ 3074457345618258602 → T (product_fits l a && product_fits l b)
sized-products l a b h =
    and_in (product_fits l a) (product_fits l b)
    (sized-product l a (largest l) (max (largest a) (largest b)) (entry-size l) (λ j k. le_trans (entry-size a j k) (le-max_left (largest a) (largest b))) h)
    (sized-product l b (largest l) (max (largest a) (largest b)) (entry-size l) (λ j k. le_trans (entry-size b j k) (le-max_right (largest a) (largest b))) h)

-- ---- each row with each column
module _ {R : Type 0} (o : Ops R) (fits : R → Bool) (l m : Mat R) (t : T (product_fits_over o fits l m)) where
  each-row : (j : Axis) → T (all_axes (λ k. dot_fits_over o fits (entry l j) (λ n. entry m n k)))
  each-row = axes-of (λ j. all_axes (λ k. dot_fits_over o fits (entry l j) (λ n. entry m n k))) t

  pub each-dot : (j k : Axis) → T (dot_fits_over o fits (entry l j) (λ n. entry m n k))
  each-dot j = axes-of (λ k. dot_fits_over o fits (entry l j) (λ n. entry m n k)) (each-row j)

pub row_fits : (l m : Mat ℤ) → T (product_fits l m) → (j : Axis) → T (all_axes (λ k. dot_fits (entry l j) (λ n. entry m n k)))
unfolding product_fits
row_fits l m t = each-row integers fits64 l m t
