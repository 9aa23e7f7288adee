-- The solver's surface. `ring (x ∷ y ∷ []) (search reify depth 40) tt` proves an equation in the numbers x and y: the search reads both sides as expressions,
-- the list says which terms are atoms, and `tt` is the solver's test. `eq-by` proves an equation from others.
use mathlib.Core.Path.{◌≡◌, refl, sym, ◌∙◌, ap, ap₂}
use mathlib.Core.List.{List, ◌∷◌}
use lib.IntN.{ℤ, pos, negsuc, neg_ℤ, ◌+ℤ◌, ◌*ℤ◌, ◌-ℤ◌, +ℤ_invr, zero-*ℤ}
use Rattle.integer.proofs.Ring.{sub-eq-zero}
use lib.Dec.{T, eqb}
use Prim.Native.Nat.{ℕ, zero, suc, ◌+◌, ◌*◌}
use Rattle.integer.proofs.Polynomial.{Expr, var, con, add, mul, neg, eval, agree, nth, solve}

-- x stands in ρ
pub data At : ℤ → List ℤ → Type 0 where
  here : {x : ℤ} {ρ : List ℤ} → At x (x ∷ ρ)
  there : {x y : ℤ} {ρ : List ℤ} → At x ρ → At x (y ∷ ρ)

abbrev pub place : {x : ℤ} {ρ : List ℤ} → At x ρ → ℕ
place here = zero
place (there a) = suc (place a)

pub place_is : {x : ℤ} {ρ : List ℤ} (a : At x ρ) → nth ρ (place a) ≡ x
place_is here = refl
place_is (there a) = place_is a

-- x is the value of an expression
pub record Is (ρ : List ℤ) (x : ℤ) : Type 0 where
  pub expr : Expr
  pub means : eval expr ρ ≡ x

abbrev pub is-var : {ρ : List ℤ} {x : ℤ} → At x ρ → Is ρ x
is-var a = record { expr = var (place a); means = place_is a }

-- a literal only: at a variable n the test does not compute, and `pos n` has to be an atom
pub literal : Unit {0}
literal = tt

abbrev pub is_pos : {ρ : List ℤ} (n : ℕ) → T (eqb n n) → Is ρ (pos n)
is_pos n t = record { expr = con (pos n); means = refl }

abbrev pub is-negsuc : {ρ : List ℤ} (n : ℕ) → T (eqb n n) → Is ρ (negsuc n)
is-negsuc n t = record { expr = con (negsuc n); means = refl }

abbrev pub is-add : {ρ : List ℤ} {x y : ℤ} → Is ρ x → Is ρ y → Is ρ (x +ℤ y)
is-add a b = record { expr = add a.expr b.expr; means = ap₂ ◌+ℤ◌ a.means b.means }

abbrev pub is_mul : {ρ : List ℤ} {x y : ℤ} → Is ρ x → Is ρ y → Is ρ (x *ℤ y)
is_mul a b = record { expr = mul a.expr b.expr; means = ap₂ ◌*ℤ◌ a.means b.means }

abbrev pub is-neg : {ρ : List ℤ} {x : ℤ} → Is ρ x → Is ρ (neg_ℤ x)
is-neg a = record { expr = neg a.expr; means = ap neg_ℤ a.means }

-- a sum or a product of naturals under `pos`, as ℤ's own clauses leave it
abbrev pub is-pos-add : {ρ : List ℤ} {m n : ℕ} → Is ρ (pos m) → Is ρ (pos n) → Is ρ (pos (m + n))
is-pos-add a b = record { expr = add a.expr b.expr; means = ap₂ ◌+ℤ◌ a.means b.means }

abbrev pub is-pos-mul : {ρ : List ℤ} {m n : ℕ} → Is ρ (pos m) → Is ρ (pos n) → Is ρ (pos (m * n))
is-pos-mul a b = record { expr = mul a.expr b.expr; means = ap₂ ◌*ℤ◌ a.means b.means }

-- both sides of an equation
pub record Both (ρ : List ℤ) (x y : ℤ) : Type 0 where
  pub left : Is ρ x
  pub right : Is ρ y

abbrev pub is-both : {ρ : List ℤ} {x y : ℤ} → Is ρ x → Is ρ y → Both ρ x y
is-both a b = record { left = a; right = b }

pub ruleset reify = (is-both, is-add, is_mul, is-neg, is-var, here, there, is_pos, is-negsuc, literal, is-pos-add, is-pos-mul)

abbrev pub Holds : {ρ : List ℤ} {x y : ℤ} → Both ρ x y → Type 0
Holds b = T (agree b.left.expr b.right.expr)

pub ring : {x y : ℤ} (ρ : List ℤ) (b : Both ρ x y) → Holds b → x ≡ y
ring ρ b t = sym b.left.means ∙ solve ρ b.left.expr b.right.expr t ∙ b.right.means

-- ---- an equation from equations: with h : a ≡ b and k : c ≡ d, `eq-by (zero-by h ∗ m ⊹ zero-by k) (ring ..)` leaves x - y ≡ (a - b) * m + (c - d)
pub record Zero (z : ℤ) : Type 0 where
  pub is-zero : z ≡ pos 0

pub zero-by : {a b : ℤ} → a ≡ b → Zero (a -ℤ b)
zero-by {a} {b} h = record { is-zero = ap (λ t. t -ℤ b) h ∙ +ℤ_invr b }

infixl 6 ◌⊹◌
infixl 7 ◌∗◌
pub ◌⊹◌ : {a b : ℤ} → Zero a → Zero b → Zero (a +ℤ b)
p ⊹ q = record { is-zero = ap₂ ◌+ℤ◌ p.is-zero q.is-zero }

pub ◌∗◌ : {a : ℤ} → Zero a → (k : ℤ) → Zero (a *ℤ k)
p ∗ k = record { is-zero = ap (λ t. t *ℤ k) p.is-zero ∙ zero-*ℤ k }

pub eq-by : {x y z : ℤ} → Zero z → x -ℤ y ≡ z → x ≡ y
eq-by {x} {y} p e = sub-eq-zero x y (e ∙ p.is-zero)
