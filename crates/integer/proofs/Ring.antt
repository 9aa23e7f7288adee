-- The laws of a commutative ring that lib.IntN lacks: distributivity, associativity of the product, signs.
use mathlib.Core.Path.{◌≡◌, sym, ◌∙◌, ap, ap₂}
use lib.IntN.{ℤ, pos, negsuc, one, neg_ℤ, suc_ℤ, pred_ℤ, ◌+ℤ◌, ◌*ℤ◌, ◌-ℤ◌, *ℤ_comm, *ℤ-one, zero-*ℤ, suc_ℤ-*ℤ, pred_ℤ-*ℤ, suc_ℤ-+ℤ, pred_ℤ-+ℤ, +ℤ_assoc, +ℤ_comm, +ℤ_idl, +ℤ_idr, +ℤ_invl, +ℤ_invr}
use Prim.Native.Nat.{zero, suc}

-- ---- sums
pub +ℤ-left-comm : (a b c : ℤ) → a +ℤ (b +ℤ c) ≡ b +ℤ (a +ℤ c)
+ℤ-left-comm a b c = sym (+ℤ_assoc a b c) ∙ ap (λ t. t +ℤ c) (+ℤ_comm a b) ∙ +ℤ_assoc b a c

pub +ℤ-right-comm : (a b c : ℤ) → a +ℤ b +ℤ c ≡ a +ℤ c +ℤ b
+ℤ-right-comm a b c = +ℤ_assoc a b c ∙ ap (λ t. a +ℤ t) (+ℤ_comm b c) ∙ sym (+ℤ_assoc a c b)

pub +ℤ-swap : (a b c d : ℤ) → (a +ℤ b) +ℤ (c +ℤ d) ≡ (a +ℤ c) +ℤ (b +ℤ d)
+ℤ-swap a b c d = +ℤ_assoc a b (c +ℤ d) ∙ ap (λ t. a +ℤ t) (+ℤ-left-comm b c d) ∙ sym (+ℤ_assoc a c (b +ℤ d))

pub neg_unique : (x y : ℤ) → x +ℤ y ≡ pos zero → x ≡ neg_ℤ y
neg_unique x y h = sym (+ℤ_idr x) ∙ ap (λ t. x +ℤ t) (sym (+ℤ_invr y)) ∙ sym (+ℤ_assoc x y (neg_ℤ y)) ∙ ap (λ t. t +ℤ neg_ℤ y) h ∙ +ℤ_idl (neg_ℤ y)

pub sub-eq-zero : (x y : ℤ) → x -ℤ y ≡ pos zero → x ≡ y
sub-eq-zero x y h = sym (+ℤ_idr x) ∙ ap (λ t. x +ℤ t) (sym (+ℤ_invl y)) ∙ sym (+ℤ_assoc x (neg_ℤ y) y) ∙ ap (λ t. t +ℤ y) h ∙ +ℤ_idl y

-- ---- a sum times a number, by steps of one from 0
distrib-zero : (b k : ℤ) → (pos zero +ℤ b) *ℤ k ≡ pos zero *ℤ k +ℤ b *ℤ k
distrib-zero b k = ap (λ t. t *ℤ k) (+ℤ_idl b) ∙ sym (+ℤ_idl (b *ℤ k)) ∙ ap (λ t. t +ℤ b *ℤ k) (sym (zero-*ℤ k))

distrib-suc : (a b k : ℤ) → (a +ℤ b) *ℤ k ≡ a *ℤ k +ℤ b *ℤ k → (suc_ℤ a +ℤ b) *ℤ k ≡ suc_ℤ a *ℤ k +ℤ b *ℤ k
distrib-suc a b k h =
    ap (λ t. t *ℤ k) (suc_ℤ-+ℤ a b) ∙ suc_ℤ-*ℤ (a +ℤ b) k ∙ ap (λ t. t +ℤ k) h ∙ +ℤ-right-comm (a *ℤ k) (b *ℤ k) k
    ∙ ap (λ t. t +ℤ b *ℤ k) (sym (suc_ℤ-*ℤ a k))

distrib-pred : (a b k : ℤ) → (a +ℤ b) *ℤ k ≡ a *ℤ k +ℤ b *ℤ k → (pred_ℤ a +ℤ b) *ℤ k ≡ pred_ℤ a *ℤ k +ℤ b *ℤ k
distrib-pred a b k h =
    ap (λ t. t *ℤ k) (pred_ℤ-+ℤ a b) ∙ pred_ℤ-*ℤ (a +ℤ b) k ∙ ap (λ t. t -ℤ k) h ∙ +ℤ-right-comm (a *ℤ k) (b *ℤ k) (neg_ℤ k)
    ∙ ap (λ t. t +ℤ b *ℤ k) (sym (pred_ℤ-*ℤ a k))

pub add-*ℤ : (a b k : ℤ) → (a +ℤ b) *ℤ k ≡ a *ℤ k +ℤ b *ℤ k
add-*ℤ (pos zero) b k = distrib-zero b k
add-*ℤ (pos (suc n)) b k = distrib-suc (pos n) b k (add-*ℤ (pos n) b k)
add-*ℤ (negsuc zero) b k = distrib-pred (pos zero) b k (distrib-zero b k)
add-*ℤ (negsuc (suc n)) b k = distrib-pred (negsuc n) b k (add-*ℤ (negsuc n) b k)

pub *ℤ-add : (k a b : ℤ) → k *ℤ (a +ℤ b) ≡ k *ℤ a +ℤ k *ℤ b
*ℤ-add k a b = *ℤ_comm k (a +ℤ b) ∙ add-*ℤ a b k ∙ ap₂ ◌+ℤ◌ (*ℤ_comm a k) (*ℤ_comm b k)

-- ---- signs
pub neg-*ℤ : (a b : ℤ) → neg_ℤ a *ℤ b ≡ neg_ℤ (a *ℤ b)
neg-*ℤ a b = neg_unique (neg_ℤ a *ℤ b) (a *ℤ b) (sym (add-*ℤ (neg_ℤ a) a b) ∙ ap (λ t. t *ℤ b) (+ℤ_invl a) ∙ zero-*ℤ b)

pub *ℤ-neg : (a b : ℤ) → a *ℤ neg_ℤ b ≡ neg_ℤ (a *ℤ b)
*ℤ-neg a b = *ℤ_comm a (neg_ℤ b) ∙ neg-*ℤ b a ∙ ap neg_ℤ (*ℤ_comm b a)

pub one-*ℤ : (a : ℤ) → pos 1 *ℤ a ≡ a
unfolding one
one-*ℤ a = *ℤ_comm (pos 1) a ∙ *ℤ-one a

pub *ℤ-1 : (a : ℤ) → a *ℤ pos 1 ≡ a
*ℤ-1 a = *ℤ_comm a (pos 1) ∙ one-*ℤ a

-- ---- products, by the same steps
assoc-zero : (b c : ℤ) → pos zero *ℤ b *ℤ c ≡ pos zero *ℤ (b *ℤ c)
assoc-zero b c = ap (λ t. t *ℤ c) (zero-*ℤ b) ∙ zero-*ℤ c ∙ sym (zero-*ℤ (b *ℤ c))

assoc-suc : (a b c : ℤ) → a *ℤ b *ℤ c ≡ a *ℤ (b *ℤ c) → suc_ℤ a *ℤ b *ℤ c ≡ suc_ℤ a *ℤ (b *ℤ c)
assoc-suc a b c h = ap (λ t. t *ℤ c) (suc_ℤ-*ℤ a b) ∙ add-*ℤ (a *ℤ b) b c ∙ ap (λ t. t +ℤ b *ℤ c) h ∙ sym (suc_ℤ-*ℤ a (b *ℤ c))

assoc-pred : (a b c : ℤ) → a *ℤ b *ℤ c ≡ a *ℤ (b *ℤ c) → pred_ℤ a *ℤ b *ℤ c ≡ pred_ℤ a *ℤ (b *ℤ c)
assoc-pred a b c h = ap (λ t. t *ℤ c) (pred_ℤ-*ℤ a b) ∙ add-*ℤ (a *ℤ b) (neg_ℤ b) c ∙ ap₂ ◌+ℤ◌ h (neg-*ℤ b c) ∙ sym (pred_ℤ-*ℤ a (b *ℤ c))

pub *ℤ-assoc : (a b c : ℤ) → a *ℤ b *ℤ c ≡ a *ℤ (b *ℤ c)
*ℤ-assoc (pos zero) b c = assoc-zero b c
*ℤ-assoc (pos (suc n)) b c = assoc-suc (pos n) b c (*ℤ-assoc (pos n) b c)
*ℤ-assoc (negsuc zero) b c = assoc-pred (pos zero) b c (assoc-zero b c)
*ℤ-assoc (negsuc (suc n)) b c = assoc-pred (negsuc n) b c (*ℤ-assoc (negsuc n) b c)

pub *ℤ-left-comm : (a b c : ℤ) → a *ℤ (b *ℤ c) ≡ b *ℤ (a *ℤ c)
*ℤ-left-comm a b c = sym (*ℤ-assoc a b c) ∙ ap (λ t. t *ℤ c) (*ℤ_comm a b) ∙ *ℤ-assoc b a c

pub *ℤ-swap : (a b c d : ℤ) → (a *ℤ b) *ℤ (c *ℤ d) ≡ (a *ℤ c) *ℤ (b *ℤ d)
*ℤ-swap a b c d = *ℤ-assoc a b (c *ℤ d) ∙ ap (λ t. a *ℤ t) (*ℤ-left-comm b c d) ∙ sym (*ℤ-assoc a c (b *ℤ d))
