-- Index and address: they are inverse on the points of the grid, and two addresses have one index exactly if they agree modulo d.
use mathlib.Core.Path.{◌≡◌, refl, sym, ◌∙◌, ap, ap₂, subst}
use mathlib.Core.Bool.{Bool, true, false, cond}
use mathlib.Core.List.{[], ◌∷◌}
use lib.IntN.{ℤ, pos, negsuc, nat_abs, ◌+ℤ◌, ◌*ℤ◌}
use Prim.Native.Nat.{ℕ, zero, ◌+◌, ◌*◌, ◌-◌, ◌/◌, ◌%◌, ◌<◌}
use native.Mathlib.Nat.{mod-lt, mod-eq_of_lt, div-add-mod', add-mul-mod_self_right, mul-add-mod_self_right, div-eq_of_lt-le, div-lt_iff_lt-mul, mul-le-mul_right, mul-pos}
use native.Mathlib.Omega.{arith}
use Rattle.integer.specs.Division.{div_euclid, rem_euclid}
use Rattle.integer.specs.Divides.{Congruent}
use Rattle.integer.proofs.Division.{rem-euclid-lt, div-rem-euclid, euclid-unique}
use Rattle.integer.proofs.Order.{nonneg-dn, nonneg_of}
use Rattle.integer.proofs.Size.{abs-parts}
use Rattle.integer.proofs.Parts.{ints}
use lib.Signed.{◌≤ℤ◌, ◌<ℤ◌}
use Rattle.integer.proofs.Reify.{ring, reify}
use Rattle.integer.proofs.Congruence.{congruent-sym, congruent-trans, rem-congruent, same-rem}
use Rattle.common.specs.Matrix.{Axis, X, Y, Z, Vec, side, vector, map_vec, origin}
use Rattle.common.specs.Array.{along, items}
use Rattle.common.proofs.Matrix.{same-vector, side-vector}
use Rattle.grgrid.specs.Grid.{size, fold, folded, place, index, cell, digits, address}
use Rattle.grgrid.specs.Folding.{Exact}
use Rattle.grgrid.specs.declared.Folded.{Folded}

-- ---- the remainder that is never negative
fold_is : (a : ℤ) (n : ℕ) → rem_euclid a (pos n) ≡ pos (fold a n)
fold_is (pos a) n = refl
fold_is (negsuc a) n = refl

fold-congruent : (a : ℤ) (n : ℕ) → zero < n → Congruent (pos n) (pos (fold a n)) a
fold-congruent a n h = subst (λ r. Congruent (pos n) r a) (fold_is a n) (rem-congruent (pos n) h a)

part : (a : ℤ) (n : ℕ) → zero < n → a ≡ div_euclid a (pos n) *ℤ pos n +ℤ pos (fold a n)
part a n h = sym (div-rem-euclid a (pos n) h) ∙ ap (λ r. div_euclid a (pos n) *ℤ pos n +ℤ r) (fold_is a n)

-- in the first cell or in the one before it
pub near_cell-is : (b : Bool) (a : ℤ) (n : ℕ) {r q : ℤ} → r ≡ cond b (a +ℤ pos n) a → q ≡ cond b (negsuc 0) (pos 0) → pos 0 ≤ℤ r → r <ℤ pos n
    → q ≡ div_euclid a (pos n)
near_cell-is b a n {r} {q} e f s h =
    let g = nonneg_of s in
    (euclid-unique a (pos n) q r (ap₂ (λ q r. q *ℤ pos n +ℤ r) f e ∙ whole b) g (omega (arith, ints, abs-parts r, nonneg-dn g))).0
  where
    whole : (b : Bool) → cond b (negsuc 0) (pos 0) *ℤ pos n +ℤ cond b (a +ℤ pos n) a ≡ a
    whole true = ring (a ∷ pos n ∷ []) (search reify depth 40) tt
    whole false = ring (a ∷ pos n ∷ []) (search reify depth 40) tt

plus-zero : (z : ℤ) → z +ℤ pos 0 ≡ z
plus-zero z = ring (z ∷ []) (search reify depth 40) tt

-- of a multiple nothing is left
none : (a : ℤ) (n : ℕ) → zero < n → {z : ℤ} → z ≡ pos 0 → Congruent (pos n) a z → a ≡ div_euclid a (pos n) *ℤ pos n
none a n h e c = sym (div-rem-euclid a (pos n) h) ∙ ap (λ r. div_euclid a (pos n) *ℤ pos n +ℤ r) (same-rem (pos n) h c ∙ ap (λ z. rem_euclid z (pos n)) e ∙ ap pos (mod-eq_of_lt h)) ∙ plus-zero (div_euclid a (pos n) *ℤ pos n)

-- ---- remainders and their place
pub record Sides (d : Vec ℕ) : Type 0 where
  pub positive : (k : Axis) → zero < side d k

pub record Within (d r : Vec ℕ) : Type 0 where
  pub inside : (k : Axis) → side r k < side d k

row_lt : (a b x y : ℕ) → x < a → y < b → y * a + x < a * b
row_lt a b x y h k = omega (arith, mul-le-mul_right a k)

pub place-lt : (d r : Vec ℕ) → Within d r → place d r < size d
place-lt d r w = omega (arith, row_lt d.x d.y r.x r.y (w.inside X) (w.inside Y), mul-le-mul_right (d.x * d.y) (w.inside Z))

pub place-digits : (d : Vec ℕ) (p : ℕ) → place d (digits d p) ≡ p
place-digits d p =
    let m = d.x * d.y in
    let less : p - p / m * m ≡ p % m = omega (arith, div-add-mod' p m) in
    let whole : p ≡ p % m + p / m * d.y * d.x = omega (arith, div-add-mod' p m) in
    omega (arith, div-add-mod' p m, ap (λ (n : ℕ). n / d.x * d.x) less, ap (λ (n : ℕ). n % d.x) whole ∙ add-mul-mod_self_right (p % m) (p / m * d.y) d.x, div-add-mod' (p % m) d.x)

module _ (d r : Vec ℕ) (hx : r.x < d.x) (hy : r.y < d.y) where
  layer : r.y * d.x + r.x < d.x * d.y
  layer = row_lt d.x d.y r.x r.y hx hy

  high : place d r / (d.x * d.y) ≡ r.z
  high = div-eq_of_lt-le (d.x * d.y) (omega (arith, layer)) (omega (arith, layer))

  low : place d r % d.x ≡ r.x
  low = ap (λ n. n % d.x) split ∙ mul-add-mod_self_right (r.z * d.y + r.y) d.x r.x ∙ mod-eq_of_lt hx
    where
      split : place d r ≡ (r.z * d.y + r.y) * d.x + r.x
      split = omega arith

  middle : (place d r - r.z * (d.x * d.y)) / d.x ≡ r.y
  middle = ap (λ n. n / d.x) rest ∙ div-eq_of_lt-le d.x (omega arith) (omega arith)
    where
      rest : place d r - r.z * (d.x * d.y) ≡ r.y * d.x + r.x
      rest = omega arith

  pub digits-place : digits d (place d r) ≡ r
  digits-place = λ i. record { x = low i; y = (ap (λ q. (place d r - q * (d.x * d.y)) / d.x) high ∙ middle) i; z = high i }

module _ (d : Vec ℕ) (s : Sides d) where
  area : zero < d.x * d.y
  area = mul-pos (s.positive X) (s.positive Y)

  pub digits-within : (p : ℕ) → p < size d → Within d (digits d p)
  digits-within p h = record {
    inside = λ k. elim k as (λ k. side (digits d p) k < side d k) [
      | X ↦ mod-lt p (s.positive X)
      | Y ↦ (div-lt_iff_lt-mul (s.positive X)).1 (omega (arith, div-add-mod' p (d.x * d.y), mod-lt p area))
      | Z ↦ (div-lt_iff_lt-mul area).1 (omega arith)
    ];
  }

-- ---- addresses that agree modulo d
pub record Agree (d : Vec ℕ) (u v : Vec ℤ) : Type 0 where
  pub at : (k : Axis) → Congruent (pos (side d k)) (side u k) (side v k)

pub agree-by : {d : Vec ℕ} (f g : Axis → ℤ) → ((k : Axis) → Congruent (pos (side d k)) (f k) (g k)) → Agree d (vector f) (vector g)
agree-by {d} f g h = record { at = λ k. elim k as (λ k. Congruent (pos (side d k)) (side (vector f) k) (side (vector g) k)) [ X ↦ h X | Y ↦ h Y | Z ↦ h Z ] }

agree-sym : {d : Vec ℕ} {u v : Vec ℤ} → Agree d u v → Agree d v u
agree-sym a = record { at = λ k. congruent-sym (a.at k) }

agree_trans : {d : Vec ℕ} {u v w : Vec ℤ} → Agree d u v → Agree d v w → Agree d u w
agree_trans a b = record { at = λ k. congruent-trans (a.at k) (b.at k) }

-- ---- index and address
module _ (d : Vec ℕ) (s : Sides d) where
  folded-within : (a : Vec ℤ) → Within d (folded d a)
  folded-within a = record { inside = λ k. rw (side-vector (λ k. fold (side a k) (side d k)) k) (rem-euclid-lt (side a k) (pos (side d k)) (s.positive k)) }

  pub index-lt : (a : Vec ℤ) → index d a < size d
  unfolding index
  index-lt a = place-lt d (folded d a) (folded-within a)

  pub index-address : (p : ℕ) → p < size d → index d (address d p) ≡ p
  unfolding index address
  index-address p h = ap (place d) (same-vector {f = λ k. side (digits d p) k % side d k} {g = side (digits d p)} (λ k. mod-eq_of_lt ((digits-within d s p h).inside k))) ∙ place-digits d p

  -- the address of an index has the remainders
  pub address-index : (a : Vec ℤ) → address d (index d a) ≡ map_vec pos (folded d a)
  unfolding index address
  address-index a = let w = folded-within a in ap (map_vec pos) (digits-place d (folded d a) (w.inside X) (w.inside Y))

  pub folded-agree : (a : Vec ℤ) → Agree d (map_vec pos (folded d a)) a
  folded-agree a = agree-by (λ k. pos (fold (side a k) (side d k))) (side a) (λ k. fold-congruent (side a k) (side d k) (s.positive k))

  pub address-agree : (a : Vec ℤ) → Agree d (address d (index d a)) a
  address-agree a = subst (λ v. Agree d v a) (sym (address-index a)) (folded-agree a)

  pub same_index : {u v : Vec ℤ} → Agree d u v → index d u ≡ index d v
  unfolding index
  same_index a = ap (place d) (same-vector (λ k. ap nat_abs (same-rem (pos (side d k)) (s.positive k) (a.at k))))

  pub index_same : (u v : Vec ℤ) → index d u ≡ index d v → Agree d u v
  index_same u v e = agree_trans (agree-sym (address-agree u)) (subst (λ (p : ℕ). Agree d (address d p) v) (sym e) (address-agree v))

  pub index-folded : (a : Vec ℤ) → index d (map_vec pos (folded d a)) ≡ index d a
  index-folded a = same_index (folded-agree a)

  -- the cell and the index make the address
  pub exact : (a : Vec ℤ) (k : Axis) → side a k ≡ along (items (cell d a)) k *ℤ pos (side d k) +ℤ side (address d (index d a)) k
  unfolding cell
  exact a X = rw (address-index a) (part a.x d.x (s.positive X))
  exact a Y = rw (address-index a) (part a.y d.y (s.positive Y))
  exact a Z = rw (address-index a) (part a.z d.z (s.positive Z))

  -- an address that agrees with 0 is its cell times the diagonal
  pub whole : (a : Vec ℤ) → Agree d a origin → (k : Axis) → side a k ≡ side (cell d a) k *ℤ pos (side d k)
  unfolding cell
  whole a h k = rw (side-vector (λ k. div_euclid (side a k) (pos (side d k))) k) (none (side a k) (side d k) (s.positive k) (side-vector (λ k. pos 0) k) (h.at k))

  -- as the code tells it
  pub exact-told : (a : Vec ℤ) {f : Folded} → f.index ≡ index d a → f.cell ≡ items (cell d a) → Exact d a f
  exact-told a e g k = rw (e, g) (exact a k)

-- 0 lies in the first cell
pub origin-cell : (d : Vec ℕ) → Sides d → {a : Vec ℤ} → a ≡ origin → items (cell d a) ≡ pos 0 ∷ pos 0 ∷ pos 0 ∷ []
unfolding cell
origin-cell d s {a} e = ap (λ a. items (cell d a)) e ∙ (λ i. pos (none d.x (s.positive X) i) ∷ pos (none d.y (s.positive Y) i) ∷ pos (none d.z (s.positive Z) i) ∷ [])
  where
    none : (n : ℕ) → zero < n → 0 / n ≡ 0
    none n h = div-eq_of_lt-le n (omega (arith, h)) (omega (arith, h))
