-- Places of images of three points, each of which has one.
use mathlib.Core.Path.{◌≡◌, subst}
use mathlib.Core.List.{List}
use Prim.Native.Nat.{ℕ, ◌<◌}
use lib.IntN.{ℤ}
use lib.ListN.{length, get_or}
use Rattle.common.specs.Matrix.{Axis, X, Y, Z, Vec, side, vector, map_vec}
use Rattle.common.proofs.Matrix.{side-vector}
use Rattle.grgrid.proofs.Lists.{◌∈◌, item_in}
use Rattle.bzgrid.specs.declared.GridType.{GridType}
use Rattle.bztable.specs.Access.{image_places}
use Rattle.bztable.specs.Reading.{got}
use Rattle.bztable.proofs.ImageTable.{Stands, some-place}
use Rattle.bz_triplets.proofs.Choosing.{Picks}

module _ {t : GridType} {n : ℕ} {g : ℕ → List (Vec ℤ)} {addresses map points : List ℤ} {m : ℕ} (w : Stands t n g addresses map points m)
    (some : (p : ℕ) → p < n → 0 < length (g p)) (v : Vec ℕ) (inside : (k : Axis) → side v k < n) where
  abbrev pub lists : Vec (List ℕ)
  lists = map_vec w.places v

  pub told : (k : Axis) → image_places t map n (side v k) ≡ got (side lists k)
  told k = rw (side-vector (λ k. w.places (side v k)) k) (w.counted (side v k) (inside k))

  pub pick-in : (i : Vec ℕ) → Picks lists i → (k : Axis) → side i k ∈ w.places (side v k)
  pick-in i p k = subst (λ l. side i k ∈ l) (side-vector (λ k. w.places (side v k)) k) (p k)

  pub some-pick : (i : Vec ℕ) × Picks lists i
  some-pick = (vector (λ k. get_or (side lists k) 0 0), picks)
    where
      one : (k : Axis) → get_or (w.places (side v k)) 0 0 ∈ w.places (side v k)
      one k = item_in 0 (w.places (side v k)) 0 (some-place w (side v k) (inside k) (some (side v k) (inside k)))

      picks : Picks lists (vector (λ k. get_or (side lists k) 0 0))
      picks X = one X
      picks Y = one Y
      picks Z = one Z
