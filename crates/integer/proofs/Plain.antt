-- Overflow needs, closed by computation. The goals of a proof of code hold `to_z w (of_z w v)` around each result. `search (plain, p_atom)` reads off such a term
-- the number that it is, a bound on its size, and one test that says that nothing overflowed; `tt` proves the test where the bounds are literals:
-- `fits-plain (search (plain, p_atom)) tt : SFits w v` and `plain-is (search (plain, p_atom)) tt : v ≡ ..`.
use mathlib.Core.Path.{◌≡◌, refl, sym, ◌∙◌, ap, ap₂, subst}
use mathlib.Core.Bool.{Bool, true, ◌&&◌}
use lib.IntN.{ℤ, pos, neg_ℤ, nat_abs, ◌+ℤ◌, ◌*ℤ◌}
use lib.Dec.{T, ltb, ltb→lt}
use Prim.Native.Nat.{ℕ, ◌+◌, ◌*◌, ◌^◌, ◌≤◌}
use native.Mathlib.Nat.{le_refl, le_of_eq, le_trans, add-le-add, mul-le-mul, lt_of_le_of_lt}
use mir.Syntax.{Width, w32, w64}
use mir.Val.{SFits, hbits, to_z, of_z}
use mir.Facts.{to_z-of_z}
use Rattle.integer.proofs.Test.{and_l, and_r}
use Rattle.integer.proofs.Size.{abs_neg, abs-mul, abs-add, sfits-abs}

-- v is the number num, at most bound in size, if ok
pub record Plain (v : ℤ) : Type 0 where
  pub num : ℤ
  pub bound : ℕ
  pub ok : Bool
  pub is : T ok → v ≡ num
  pub within : T ok → nat_abs num ≤ bound

abbrev pub p_atom : {v : ℤ} {k : ℕ} → nat_abs v ≤ k → Plain v
p_atom {v} {k} h = record { num = v; bound = k; ok = true; is = λ _. refl; within = λ _. h }

-- a literal
abbrev pub p-pos : (n : ℕ) → Plain (pos n)
p-pos n = record { num = pos n; bound = n; ok = true; is = λ _. refl; within = λ _. le_refl n }

pub add_is : {u v x y : ℤ} (a b : Bool) → (T a → u ≡ x) → (T b → v ≡ y) → T (a && b) → u +ℤ v ≡ x +ℤ y
add_is a b p q t = ap₂ ◌+ℤ◌ (p (and_l a b t)) (q (and_r a b t))

pub mul_is : {u v x y : ℤ} (a b : Bool) → (T a → u ≡ x) → (T b → v ≡ y) → T (a && b) → u *ℤ v ≡ x *ℤ y
mul_is a b p q t = ap₂ ◌*ℤ◌ (p (and_l a b t)) (q (and_r a b t))

pub add-within : (x y : ℤ) {m n : ℕ} (a b : Bool) → (T a → nat_abs x ≤ m) → (T b → nat_abs y ≤ n) → T (a && b) → nat_abs (x +ℤ y) ≤ m + n
add-within x y a b p q t = le_trans (abs-add x y) (add-le-add (p (and_l a b t)) (q (and_r a b t)))

pub mul-within : (x y : ℤ) {m n : ℕ} (a b : Bool) → (T a → nat_abs x ≤ m) → (T b → nat_abs y ≤ n) → T (a && b) → nat_abs (x *ℤ y) ≤ m * n
mul-within x y a b p q t = le_trans (le_of_eq (abs-mul x y)) (mul-le-mul (p (and_l a b t)) (q (and_r a b t)))

pub neg-within : (x : ℤ) {m : ℕ} (a : Bool) → (T a → nat_abs x ≤ m) → T a → nat_abs (neg_ℤ x) ≤ m
neg-within x a p t = le_trans (le_of_eq (abs_neg x)) (p t)

pub neg_is : {u x : ℤ} (a : Bool) → (T a → u ≡ x) → T a → neg_ℤ u ≡ neg_ℤ x
neg_is a p t = ap neg_ℤ (p t)

pub trip-is : (w : Width) {v x : ℤ} {m : ℕ} (a : Bool) → (T a → v ≡ x) → (T a → nat_abs x ≤ m) → T (a && ltb m (2 ^ hbits w)) → to_z w (of_z w v) ≡ x
trip-is w {v} {x} {m} a p q t =
    ap (λ z. to_z w (of_z w z)) (p (and_l a (ltb m (2 ^ hbits w)) t))
    ∙ to_z-of_z (sfits-abs (lt_of_le_of_lt (q (and_l a (ltb m (2 ^ hbits w)) t)) (ltb→lt m (2 ^ hbits w) (and_r a (ltb m (2 ^ hbits w)) t))))

pub first : {A : Type 0} (a b : Bool) → (T a → A) → T (a && b) → A
first a b f t = f (and_l a b t)

abbrev pub p_add : {u v : ℤ} → Plain u → Plain v → Plain (u +ℤ v)
p_add a b = record { num = a.num +ℤ b.num; bound = a.bound + b.bound; ok = a.ok && b.ok; is = add_is a.ok b.ok a.is b.is; within = add-within a.num b.num a.ok b.ok a.within b.within }

abbrev pub p_mul : {u v : ℤ} → Plain u → Plain v → Plain (u *ℤ v)
p_mul a b = record { num = a.num *ℤ b.num; bound = a.bound * b.bound; ok = a.ok && b.ok; is = mul_is a.ok b.ok a.is b.is; within = mul-within a.num b.num a.ok b.ok a.within b.within }

abbrev pub p-neg : {u : ℤ} → Plain u → Plain (neg_ℤ u)
p-neg a = record { num = neg_ℤ a.num; bound = a.bound; ok = a.ok; is = neg_is a.ok a.is; within = neg-within a.num a.ok a.within }

abbrev pub p-trip : (w : Width) {v : ℤ} → Plain v → Plain (to_z w (of_z w v))
p-trip w a = record { num = a.num; bound = a.bound; ok = a.ok && ltb a.bound (2 ^ hbits w); is = trip-is w a.ok a.is a.within; within = first a.ok (ltb a.bound (2 ^ hbits w)) a.within }

-- the width must be a constant here: under `to_z` antt cannot infer it
abbrev pub p-i64 : {v : ℤ} → Plain v → Plain (to_z w64 (of_z w64 v))
p-i64 a = p-trip w64 a

abbrev pub p-i32 : {v : ℤ} → Plain v → Plain (to_z w32 (of_z w32 v))
p-i32 a = p-trip w32 a

pub ruleset plain = (p-pos, p_add, p_mul, p-neg, p-i64, p-i32)

pub fits-plain : {w : Width} {v : ℤ} (p : Plain v) → T (p.ok && ltb p.bound (2 ^ hbits w)) → SFits w v
fits-plain {w} {v} p t = subst (SFits w) (sym (p.is (and_l p.ok (ltb p.bound (2 ^ hbits w)) t))) (sfits-abs (lt_of_le_of_lt (p.within (and_l p.ok (ltb p.bound (2 ^ hbits w)) t)) (ltb→lt p.bound (2 ^ hbits w) (and_r p.ok (ltb p.bound (2 ^ hbits w)) t))))

pub plain-is : {v : ℤ} (p : Plain v) → T p.ok → v ≡ p.num
plain-is p t = p.is t

pub plain-within : {v : ℤ} (p : Plain v) → T p.ok → nat_abs v ≤ p.bound
plain-within p t = rw (p.is t) (p.within t)
