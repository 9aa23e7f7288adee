-- The walk over the points by their remainders, and the addresses that it writes.
use mathlib.Core.Path.{◌≡◌, refl, sym, ◌∙◌, ap, ap₂}
use mathlib.Core.List.{List, ◌++◌, append-nil}
use Prim.Native.Nat.{ℕ, zero, suc, ◌+◌, ◌*◌, ◌<◌, ◌≤◌}
use native.Mathlib.Nat.{mul-le-mul_left, lt_of_not-le, le_of_eq}
use native.Mathlib.Numerals.{add-one, add-two}
use native.Mathlib.Omega.{arith}
use lib.IntN.{ℤ, pos}
use lib.ListN.{length, set, take, drop, length-append, length-drop, drop_of_length-le}
use lib.Seq.{sets-eq, take_at, drop-append-add, drop-drop}
use Rattle.common.specs.Matrix.{Vec, map_vec}
use Rattle.common.specs.Array.{items}
use Rattle.grgrid.specs.Grid.{size, place, digits, address}
use Rattle.grgrid.specs.Addresses.{addresses}

pub layer-inside : (d r : Vec ℕ) → place d r < size d → r.z < d.z
layer-inside d r h = lt_of_not-le (λ k. omega (arith, mul-le-mul_left (d.x * d.y) k))

-- ---- the output: the addresses of the points below p, the rest as it was
module _ (d : Vec ℕ) where
  length-addresses : (p : ℕ) → length (addresses d p) ≡ p * 3
  length-addresses zero = refl
  length-addresses (suc p) = length-append (addresses d p) (items (address d p)) ∙ ap (λ n. n + 3) (length-addresses p) ∙ more p
    where
      more : (p : ℕ) → p * 3 + 3 ≡ suc p * 3
      more p = omega arith

  abbrev pub listed : ℕ → List ℤ → List ℤ
  listed p out = addresses d p ++ drop (p * 3) out

  pub listed_more : (p : ℕ) (before out : List ℤ) (r : Vec ℕ) → out ≡ listed p before → p * 3 + 3 ≤ length before → r ≡ digits d p
      → {x y z : ℤ} → x ≡ pos r.x → y ≡ pos r.y → z ≡ pos r.z → set (set (set out (p * 3) x) (p * 3 + 1) y) (p * 3 + 2) z ≡ listed (p + 1) before
  unfolding address
  listed_more p before out r inv h e ex ey ez =
      (λ i. set (set (set (inv i) (p * 3) (ex i)) (add-one (p * 3) i) (ey i)) (add-two (p * 3) i) (ez i))
      ∙ sets-eq (items (map_vec pos r)) (listed p before) (p * 3) room
      ∙ ap (λ v. take (p * 3) (listed p before) ++ items (map_vec pos v) ++ drop (p * 3 + 3) (listed p before)) e
      ∙ ap₂ (λ a b. a ++ items (address d p) ++ b) (take_at (addresses d p) (drop (p * 3) before) (p * 3) (length-addresses p)) rest
      ∙ ap₂ (λ m n. addresses d m ++ drop n before) (sym (add-one p)) (three p)
    where
      room : p * 3 + 3 ≤ length (listed p before)
      room = omega (arith, h, length-append (addresses d p) (drop (p * 3) before), length-addresses p, length-drop (p * 3) before)

      rest : drop (p * 3 + 3) (listed p before) ≡ drop (p * 3 + 3) before
      rest = ap (λ n. drop (n + 3) (listed p before)) (sym (length-addresses p)) ∙ drop-append-add (addresses d p) (drop (p * 3) before) 3 ∙ drop-drop 3 (p * 3) before

      three : (p : ℕ) → p * 3 + 3 ≡ (p + 1) * 3
      three p = omega arith

  pub listed-end : (p : ℕ) (before : List ℤ) → length before ≡ p * 3 → listed p before ≡ addresses d p
  listed-end p before h = ap (λ l. addresses d p ++ l) (drop_of_length-le before (le_of_eq h)) ∙ append-nil (addresses d p)
