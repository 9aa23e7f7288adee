-- Linear facts of ℤ by `omega`, which reads only ℕ: each number is its positive part less its negative part.
-- `omega (arith, ints)` reads and proves x ≤ℤ y, x <ℤ y and x ≡ y between atoms. Of a sum, a difference, a negative or a multiple by a literal in a fact or in the
-- goal, list what its parts are: `omega (arith, ints, sum x y, difference z w)`.
use mathlib.Core.Path.{◌≡◌, refl, sym, ◌∙◌, ap, ap₂, subst}
use mathlib.Core.List.{[], ◌∷◌}
use lib.IntN.{ℤ, pos, negsuc, neg_ℤ, nat_abs, ◌+ℤ◌, ◌*ℤ◌, ◌-ℤ◌, +ℤ_idr, +ℤ_invl}
use lib.Signed.{◌≤ℤ◌, ◌<ℤ◌, le_z_yes, lt_z_yes}
use lib.Dec.{leb→le, le→leb, ltb→lt, lt→ltb}
use Prim.Native.Nat.{ℕ, zero, suc, ◌+◌, ◌*◌, ◌≤◌, ◌<◌}
use native.Mathlib.Omega.{arith}
use Rattle.integer.specs.Parts.{up, dn}
use Rattle.integer.proofs.Ring.{+ℤ-swap}
use Rattle.integer.proofs.Reify.{ring, reify}

-- ---- what omega reads off a fact between two numbers, and what it has to prove of a goal
pub le_parts : {x y : ℤ} → x ≤ℤ y → up x + dn y ≤ up y + dn x
le_parts {x = pos a} {y = pos b} h = omega (arith, leb→le a b h.le)
le_parts {x = pos a} {y = negsuc b} h = absurd h.le
le_parts {x = negsuc a} {y = pos b} h = omega arith
le_parts {x = negsuc a} {y = negsuc b} h = omega (arith, leb→le b a h.le)

pub lt-parts : {x y : ℤ} → x <ℤ y → up x + dn y < up y + dn x
lt-parts {x = pos a} {y = pos b} h = omega (arith, ltb→lt a b h.lt)
lt-parts {x = pos a} {y = negsuc b} h = absurd h.lt
lt-parts {x = negsuc a} {y = pos b} h = omega arith
lt-parts {x = negsuc a} {y = negsuc b} h = omega (arith, ltb→lt b a h.lt)

pub eq-parts : {x y : ℤ} → x ≡ y → up x + dn y ≡ up y + dn x
eq-parts {x} {y} e = subst (λ (z : ℤ). up x + dn z ≡ up z + dn x) e refl

pub parts-le : {x y : ℤ} → up x + dn y ≤ up y + dn x → x ≤ℤ y
parts-le {x = pos a} {y = pos b} h = le_z_yes (le→leb a b (omega arith))
parts-le {x = pos a} {y = negsuc b} h = absurd (never a b h)
  where
    never : (a b : ℕ) → a + suc b ≤ 0 + 0 → ⊥
    never a b h = omega arith
parts-le {x = negsuc a} {y = pos b} h = le_z_yes tt
parts-le {x = negsuc a} {y = negsuc b} h = le_z_yes (le→leb b a (omega arith))

pub parts-lt : {x y : ℤ} → up x + dn y < up y + dn x → x <ℤ y
parts-lt {x = pos a} {y = pos b} h = lt_z_yes (lt→ltb a b (omega arith))
parts-lt {x = pos a} {y = negsuc b} h = absurd (never a b h)
  where
    never : (a b : ℕ) → a + suc b < 0 + 0 → ⊥
    never a b h = omega arith
parts-lt {x = negsuc a} {y = pos b} h = lt_z_yes tt
parts-lt {x = negsuc a} {y = negsuc b} h = lt_z_yes (lt→ltb b a (omega arith))

pub parts-eq : {x y : ℤ} → up x + dn y ≡ up y + dn x → x ≡ y
parts-eq {x = pos a} {y = pos b} h = ap pos (omega arith)
parts-eq {x = pos a} {y = negsuc b} h = absurd (never a b h)
  where
    never : (a b : ℕ) → a + suc b ≡ 0 + 0 → ⊥
    never a b h = omega arith
parts-eq {x = negsuc a} {y = pos b} h = absurd (never a b h)
  where
    never : (a b : ℕ) → 0 + 0 ≡ b + suc a → ⊥
    never a b h = omega arith
parts-eq {x = negsuc a} {y = negsuc b} h = ap negsuc (omega arith)

pub ruleset ints = (le_parts, lt-parts, eq-parts, parts-le, parts-lt, parts-eq)

-- ---- the parts of a sum, a difference, a negative, a product and a multiple
pub split : (z : ℤ) → z +ℤ pos (dn z) ≡ pos (up z)
split (pos n) = +ℤ_idr (pos n)
split (negsuc n) = +ℤ_invl (pos (suc n))

-- any other splitting, z = u - d
resplit : (z : ℤ) (u d : ℕ) → z +ℤ pos d ≡ pos u → up z + d ≡ dn z + u
resplit z u d e =
    ap nat_abs
    (ap (λ t. t +ℤ pos d) (sym (split z)) ∙ swapped z (pos (dn z)) (pos d) ∙ ap (λ t. pos (dn z) +ℤ t) e)
  where
    swapped : (z a b : ℤ) → (z +ℤ a) +ℤ b ≡ a +ℤ (z +ℤ b)
    swapped z a b = ring (z ∷ a ∷ b ∷ []) (search reify depth 40) tt

pub sum : (x y : ℤ) → up (x +ℤ y) + (dn x + dn y) ≡ dn (x +ℤ y) + (up x + up y)
sum x y = resplit (x +ℤ y) (up x + up y) (dn x + dn y) (+ℤ-swap x y (pos (dn x)) (pos (dn y)) ∙ ap₂ ◌+ℤ◌ (split x) (split y))

pub negative : (x : ℤ) → (up (neg_ℤ x) ≡ dn x) × (dn (neg_ℤ x) ≡ up x)
negative (pos zero) = (refl, refl)
negative (pos (suc n)) = (refl, refl)
negative (negsuc n) = (refl, refl)

pub difference : (x y : ℤ) → up (x -ℤ y) + (dn x + up y) ≡ dn (x -ℤ y) + (up x + dn y)
difference x y = omega (arith, sum x (neg_ℤ y), (negative y).0, (negative y).1)

pub product : (x y : ℤ) → up (x *ℤ y) + (up x * dn y + dn x * up y) ≡ dn (x *ℤ y) + (up x * up y + dn x * dn y)
product (pos a) (pos b) = omega arith
product (pos a) (negsuc b) = omega (arith, negative (pos (a * suc b)))
product (negsuc a) (pos b) = omega (arith, negative (pos (suc a * b)))
product (negsuc a) (negsuc b) = omega arith

pub multiple : (k : ℕ) (x : ℤ) → up (pos k *ℤ x) + k * dn x ≡ dn (pos k *ℤ x) + k * up x
multiple k x = resplit (pos k *ℤ x) (k * up x) (k * dn x) (law (pos k) x (pos (dn x)) ∙ ap (λ t. pos k *ℤ t) (split x))
  where
    law : (k x d : ℤ) → k *ℤ x +ℤ k *ℤ d ≡ k *ℤ (x +ℤ d)
    law k x d = ring (k ∷ x ∷ d ∷ []) (search reify depth 40) tt
