-- Order on ℤ where products occur: a fact x ≤ℤ y is that y - x is not negative; what is not negative is closed under sum and product; and the ring solver says
-- that what was summed up is the goal's difference: `le-by (slack h ⊠ slack k ⊞ slack< l) (ring ..)`.
use mathlib.Core.Path.{◌≡◌, refl, subst}
use lib.IntN.{ℤ, pos, negsuc, ◌+ℤ◌, ◌*ℤ◌, ◌-ℤ◌}
use lib.Signed.{◌≤ℤ◌, ◌<ℤ◌, non_neg}
use lib.Dec.{T, ltb→lt}
use Prim.Native.Nat.{ℕ, suc, ◌≤◌, ◌<◌}
use native.Mathlib.Omega.{arith}
use Rattle.integer.specs.Parts.{up, dn}
use Rattle.integer.proofs.Parts.{ints, difference}

-- 0 ≤ z
pub record NonNeg (z : ℤ) : Type 0 where
  pub sign : T (non_neg z)

pub nonneg_pos : (n : ℕ) → NonNeg (pos n)
nonneg_pos n = record { sign = tt }

pub nonneg-square : (a : ℤ) → NonNeg (a *ℤ a)
nonneg-square (pos a) = record { sign = tt }
nonneg-square (negsuc a) = record { sign = tt }

infixl 6 ◌⊞◌
infixl 7 ◌⊠◌
pub ◌⊞◌ : {a b : ℤ} → NonNeg a → NonNeg b → NonNeg (a +ℤ b)
◌⊞◌ {a = pos a} {b = pos b} s t = record { sign = tt }
◌⊞◌ {a = pos a} {b = negsuc b} s t = absurd t.sign
◌⊞◌ {a = negsuc a} s t = absurd s.sign

pub ◌⊠◌ : {a b : ℤ} → NonNeg a → NonNeg b → NonNeg (a *ℤ b)
◌⊠◌ {a = pos a} {b = pos b} s t = record { sign = tt }
◌⊠◌ {a = pos a} {b = negsuc b} s t = absurd t.sign
◌⊠◌ {a = negsuc a} s t = absurd s.sign

-- ---- by the parts that omega reads
pub nonneg-dn : {z : ℤ} → NonNeg z → dn z ≡ 0
nonneg-dn {z = pos n} s = refl
nonneg-dn {z = negsuc n} s = absurd s.sign

pub neg-up : {z : ℤ} → z <ℤ pos 0 → up z ≡ 0
neg-up {z = pos n} h = absurd (never n (ltb→lt n 0 h.lt))
  where
    never : (n : ℕ) → n < 0 → ⊥
    never n h = omega arith
neg-up {z = negsuc n} h = refl

pub pos-dn : {z : ℤ} → pos 0 <ℤ z → dn z ≡ 0
pos-dn {z = pos n} h = refl
pos-dn {z = negsuc n} h = absurd h.lt

pub parts-nonneg : (z : ℤ) → dn z ≤ up z → NonNeg z
parts-nonneg (pos n) h = record { sign = tt }
parts-nonneg (negsuc n) h = absurd (never n h)
  where
    never : (n : ℕ) → suc n ≤ 0 → ⊥
    never n h = omega arith

-- ---- a fact of order as a difference that is not negative
pub slack : {a b : ℤ} → a ≤ℤ b → NonNeg (b -ℤ a)
slack {a} {b} h = parts-nonneg (b -ℤ a) (omega (arith, ints, difference b a))

pub slack< : {a b : ℤ} → a <ℤ b → NonNeg (b -ℤ a -ℤ pos 1)
slack< {a} {b} h = parts-nonneg (b -ℤ a -ℤ pos 1) (omega (arith, ints, difference b a, difference (b -ℤ a) (pos 1)))

pub nonneg_of : {z : ℤ} → pos 0 ≤ℤ z → NonNeg z
nonneg_of {z} h = parts-nonneg z (omega (arith, ints))

-- ---- and back
pub le-by : {a b z : ℤ} → NonNeg z → b -ℤ a ≡ z → a ≤ℤ b
le-by {a} {b} {z} s e = omega (arith, ints, difference b a, nonneg-dn s)

pub lt_by : {a b z : ℤ} → NonNeg z → b -ℤ a -ℤ pos 1 ≡ z → a <ℤ b
lt_by {a} {b} {z} s e = omega (arith, ints, difference b a, difference (b -ℤ a) (pos 1), nonneg-dn s)

pub clash-by : {z : ℤ} (k : ℕ) → NonNeg z → z ≡ negsuc k → ⊥
clash-by k s e = subst (λ z. T (non_neg z)) e s.sign
