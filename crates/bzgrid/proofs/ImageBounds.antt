-- Images with their point, and sizes: the numbers of an image, and how many images there are.
use mathlib.Core.Path.{◌≡◌, refl, sym, ◌∙◌, ap, subst}
use mathlib.Core.List.{List, map, map-map, map-id}
use Prim.Native.Nat.{ℕ, zero, suc, ◌+◌, ◌≤◌, ◌<◌}
use native.Mathlib.Nat.{le_trans, le_of_lt, le_of_eq, mul-le-mul_right}
use native.Mathlib.Omega.{arith}
use lib.Dec.{lit≤}
use lib.IntN.{ℤ, pos, nat_abs, ◌+ℤ◌, ◌*ℤ◌, ◌-ℤ◌}
use lib.ListN.{length, length-append, length-map, take-append-drop}
use Rattle.integer.proofs.Plain.{plain, p_atom, plain-within}
use Rattle.common.specs.Matrix.{Axis, X, Y, Z, Vec, side, vector, entry, dot, integers, ◌▹◌}
use Rattle.common.proofs.Matrix.{side-vector}
use Rattle.grgrid.specs.Grid.{size, digits, address}
use Rattle.grgrid.proofs.Lists.{◌∈◌}
use Rattle.grgrid.proofs.Folding.{Sides, digits-within}
use Rattle.bzgrid.specs.declared.GridType.{GridType}
use Rattle.bzgrid.specs.declared.GridType.TheVariants.{Sparse, Dense}
use Rattle.grgrid.specs.Build.{concat}
use Rattle.bzsearch.specs.Search.{Search, set_bz_address, images}
use Rattle.bzgrid.specs.Table.{Image, image_of, images_at, first, others, sparse}
use Rattle.bzgrid.specs.BzGridAddresses.{table_of}
use Rattle.bzsearch.proofs.Listing.{length-rows, rows_few}
use Rattle.bzsearch.proofs.CandidateSet.{candidate-size}
use Rattle.bzsearch.proofs.Images.{split_at, range_at, image-made, images-few}

-- ---- images with their point
module _ (s : Search) (p : ℕ) where
  pub images-addresses : map (λ x. x.address) (images_at s p) ≡ images s p
  unfolding images_at
  images-addresses = map-map (λ x. x.address) (image_of p) (images s p) ∙ map-id (images s p)

  pub images-points : map (λ x. x.point) (images_at s p) ≡ map (λ a. p) (images s p)
  unfolding images_at
  images-points = map-map (λ x. x.point) (image_of p) (images s p)

  pub length-images : length (images_at s p) ≡ length (images s p)
  unfolding images_at
  length-images = length-map (images s p) (image_of p)

-- ---- the address of a candidate
row-size : (u v w x y z : ℤ) → nat_abs u ≤ 2000000 → nat_abs v ≤ 2000000 → nat_abs w ≤ 2000000 → nat_abs x ≤ 4112 → nat_abs y ≤ 4112 → nat_abs z ≤ 4112
    → nat_abs (u *ℤ x +ℤ v *ℤ y +ℤ w *ℤ z) ≤ 24672000000
row-size u v w x y z a b c d e f = plain-within {v = u *ℤ x +ℤ v *ℤ y +ℤ w *ℤ z} (search (plain, p_atom) depth 14) tt

away-size : (x y : ℤ) → nat_abs x ≤ 16 → nat_abs y ≤ 4096 → nat_abs (x -ℤ y) ≤ 4112
away-size x y a b = plain-within {v = x -ℤ y} (search (plain, p_atom) depth 12) tt

moved-size : (x y z : ℤ) → nat_abs x ≤ 256 → nat_abs y ≤ 24672000000 → nat_abs z ≤ 256 → nat_abs (x +ℤ y *ℤ z) ≤ 10000000000000
moved-size x y z a b c = le_trans (plain-within {v = x +ℤ y *ℤ z} (search (plain, p_atom) depth 12) tt) (lit≤ tt)

module _ (s : Search) (q : (j k : Axis) → nat_abs (entry s.q_inv j k) ≤ 2000000) (small : (k : Axis) → side s.d k ≤ 256) where
  pub set-size : (a n m : Vec ℤ) → ((k : Axis) → nat_abs (side a k) ≤ 256) → ((k : Axis) → nat_abs (side n k) ≤ 4096) → ((k : Axis) → nat_abs (side m k) ≤ 16)
      → (k : Axis) → nat_abs (side (set_bz_address s a n m) k) ≤ 10000000000000
  set-size a n m f g h k =
      rw (side-vector (λ k. side a k +ℤ side (s.q_inv ▹ away) k *ℤ pos (side s.d k)) k) (moved-size (side a k) (side (s.q_inv ▹ away) k) (pos (side s.d k)) (f k) (turned k) (small k))
    where
      away : Vec ℤ
      away = vector (λ k. side m k -ℤ side n k)

      apart : (k : Axis) → nat_abs (side away k) ≤ 4112
      apart k = rw (side-vector (λ k. side m k -ℤ side n k) k) (away-size (side m k) (side n k) (h k) (g k))

      turned : (k : Axis) → nat_abs (side (s.q_inv ▹ away) k) ≤ 24672000000
      turned k =
          rw (side-vector (λ j. dot integers (entry s.q_inv j) (side away)) k)
          (row-size (entry s.q_inv k X) (entry s.q_inv k Y) (entry s.q_inv k Z) away.x away.y away.z (q k X) (q k Y) (q k Z) (apart X) (apart Y) (apart Z))

  -- of an image, where the nearest whole numbers of the point's coordinates are at most 4096
  pub image-size : Sides s.d → (p : ℕ) → p < size s.d → ((k : Axis) → nat_abs (side (split_at s p).nint k) ≤ 4096)
      → {a : Vec ℤ} → a ∈ images s p → (k : Axis) → nat_abs (side a k) ≤ 10000000000000
  unfolding address
  image-size e p h g {a} i k =
      let r = image-made s p i in
      subst (λ (a : Vec ℤ). nat_abs (side a k) ≤ 10000000000000) r.is
      (set-size (address s.d p) (split_at s p).nint r.from at g (candidate-size (range_at s p) r.fits r.from r.among) k)
    where
      at : (k : Axis) → nat_abs (side (address s.d p) k) ≤ 256
      at k = rw (side-vector (λ k. pos (side (digits s.d p) k)) k) (le_trans (le_of_lt ((digits-within s.d e p h).inside k)) (small k))

-- ---- how many there are: the same in either table
pub sparse-length : (g : ℕ → List Image) (n : ℕ) → length (sparse g n) ≡ length (concat g n)
sparse-length g n = length-append (concat (first g) n) (concat (others g) n) ∙ parts n
  where
    row : (n : ℕ) → length (first g n) + length (others g n) ≡ length (g n)
    row n = sym (length-append (first g n) (others g n)) ∙ ap length (take-append-drop 1 (g n))

    parts : (n : ℕ) → length (concat (first g) n) + length (concat (others g) n) ≡ length (concat g n)
    parts zero = refl
    parts (suc n) = omega (arith, length-rows (first g) n, length-rows (others g) n, length-rows g n, row n, parts n)

module _ (s : Search) (n : ℕ) (h : n ≤ 65536) where
  rows-total : length (concat (images_at s) n) ≤ 2363359232
  rows-total = le_trans (rows_few (images_at s) 36062 n (λ i l. le_trans (le_of_eq (length-images s i)) (images-few s i))) (mul-le-mul_right 36062 h)

  -- below 2 ^ 40
  pub images-total : (t : GridType) → length (table_of t (images_at s) n) ≤ 2363359232
  images-total Sparse = le_trans (le_of_eq (sparse-length (images_at s) n)) rows-total
  images-total Dense = rows-total
