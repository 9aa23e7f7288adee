-- A ring solver by reflection: `solve ρ a b tt` proves that two expressions in the numbers ρ are equal, by computing the normal form of their difference.
-- A polynomial is a list of monomials sorted by a key. The key only finds like monomials fast; exponents decide, so that nothing is proved of the keys.
-- Whatever computes is `abbrev`, and branches are `elim`, since `cond` computes both of its arms.
use mathlib.Core.Path.{◌≡◌, refl, sym, ◌∙◌, ap, ap₂}
use mathlib.Core.Bool.{Bool, true, false, ◌&&◌}
use mathlib.Core.List.{List, [], ◌∷◌}
use lib.IntN.{ℤ, pos, negsuc, neg_ℤ, ◌+ℤ◌, ◌*ℤ◌, ◌-ℤ◌, zero-*ℤ, *ℤ-zero, +ℤ_assoc, +ℤ_idl, +ℤ_idr}
use Prim.Native.Nat.{ℕ, zero, suc, ◌+◌, ◌*◌, compare, Ordering}
use lib.Dec.{T, eqb, eqb→eq}
use Rattle.integer.proofs.Ring.{+ℤ-left-comm, +ℤ-swap, add-*ℤ, *ℤ-add, *ℤ-assoc, *ℤ-swap, neg-*ℤ, one-*ℤ, *ℤ-1, sub-eq-zero}

-- ---- expressions over the numbers of a list; past its end stands 0
pub data Expr : Type 0 where
  var : ℕ → Expr
  con : ℤ → Expr
  add : Expr → Expr → Expr
  sub : Expr → Expr → Expr
  mul : Expr → Expr → Expr
  neg : Expr → Expr

abbrev pub nth : List ℤ → ℕ → ℤ
nth [] i = pos zero
nth (x ∷ ρ) zero = x
nth (x ∷ ρ) (suc i) = nth ρ i

abbrev pub eval : Expr → List ℤ → ℤ
eval (var i) ρ = nth ρ i
eval (con k) ρ = k
eval (add a b) ρ = eval a ρ +ℤ eval b ρ
eval (sub a b) ρ = eval a ρ -ℤ eval b ρ
eval (mul a b) ρ = eval a ρ *ℤ eval b ρ
eval (neg a) ρ = neg_ℤ (eval a ρ)

-- ---- a monomial: its exponents, one a place of the list
infixl 6 ◌⊕◌
abbrev pub ◌⊕◌ : List ℕ → List ℕ → List ℕ
[] ⊕ vs = vs
(a ∷ us) ⊕ [] = a ∷ us
(a ∷ us) ⊕ (b ∷ vs) = (a + b) ∷ (us ⊕ vs)

abbrev pub unit : ℕ → List ℕ
unit zero = 1 ∷ []
unit (suc i) = 0 ∷ unit i

abbrev pub same : List ℕ → List ℕ → Bool
same [] [] = true
same [] (b ∷ vs) = false
same (a ∷ us) [] = false
same (a ∷ us) (b ∷ vs) = eqb a b && same us vs

pub power : ℤ → ℕ → ℤ
power x zero = pos 1
power x (suc n) = x *ℤ power x n

pub mon : List ℕ → List ℤ → ℤ
mon [] ρ = pos 1
mon (e ∷ es) [] = power (pos 0) e *ℤ mon es []
mon (e ∷ es) (x ∷ ρ) = power x e *ℤ mon es ρ

-- ---- polynomials: key, exponents and coefficient of each monomial
pub data Poly : Type 0 where
  nil : Poly
  cons : ℕ → List ℕ → ℤ → Poly → Poly

pub sem : Poly → List ℤ → ℤ
sem nil ρ = pos 0
sem (cons k v c p) ρ = c *ℤ mon v ρ +ℤ sem p ρ

-- the merge of P, whose first monomial is (k, v, c), with a second polynomial; r merges the rest of P with what it is given
abbrev pub into : ℕ → List ℕ → ℤ → Poly → (Poly → Poly) → Poly → Poly
into k v c P r nil = P
into k v c P r (cons k' v' c' q) = elim (compare k k') [
  | Ordering.lt ↦ cons k v c (r (cons k' v' c' q))
  | Ordering.gt ↦ cons k' v' c' (into k v c P r q)
  | Ordering.eq ↦ elim (same v v') [ true ↦ cons k v (c +ℤ c') (r q) | false ↦ cons k v c (r (cons k' v' c' q)) ]
]

abbrev pub plus : Poly → Poly → Poly
plus nil q = q
plus (cons k v c p) q = into k v c (cons k v c p) (plus p) q

-- a monomial times a polynomial
abbrev pub times1 : ℕ → List ℕ → ℤ → Poly → Poly
times1 k v c nil = nil
times1 k v c (cons k' v' c' q) = cons (k + k') (v ⊕ v') (c *ℤ c') (times1 k v c q)

abbrev pub times : Poly → Poly → Poly
times nil q = nil
times (cons k v c p) q = plus (times1 k v c q) (times p q)

abbrev pub scale : ℤ → Poly → Poly
scale s nil = nil
scale s (cons k v c p) = cons k v (s *ℤ c) (scale s p)

abbrev pub key_of : ℕ → ℕ
key_of zero = 1
key_of (suc i) = 256 * key_of i

abbrev pub norm : Expr → Poly
norm (var i) = cons (key_of i) (unit i) (pos 1) nil
norm (con k) = cons 0 [] k nil
norm (add a b) = plus (norm a) (norm b)
norm (sub a b) = plus (norm a) (scale (negsuc 0) (norm b))
norm (mul a b) = times (norm a) (norm b)
norm (neg a) = scale (negsuc 0) (norm a)

abbrev pub is_zero : ℤ → Bool
is_zero (pos n) = eqb n 0
is_zero (negsuc n) = false

abbrev pub vanishes : Poly → Bool
vanishes nil = true
vanishes (cons k v c p) = is_zero c && vanishes p

abbrev pub agree : Expr → Expr → Bool
agree a b = vanishes (norm (sub a b))

-- ---- soundness
and_l : (a b : Bool) → T (a && b) → T a
and_l true b t = tt
and_l false b t = t

and_r : (a b : Bool) → T (a && b) → T b
and_r true b t = t
and_r false b t = absurd t

same-eq : (us vs : List ℕ) → T (same us vs) → us ≡ vs
same-eq [] [] t = refl
same-eq [] (b ∷ vs) t = absurd t
same-eq (a ∷ us) [] t = absurd t
same-eq (a ∷ us) (b ∷ vs) t = ap₂ ◌∷◌ (eqb→eq a b (and_l (eqb a b) (same us vs) t)) (same-eq us vs (and_r (eqb a b) (same us vs) t))

power-add : (x : ℤ) (m n : ℕ) → power x (m + n) ≡ power x m *ℤ power x n
unfolding power
power-add x zero n = ap (power x) (Prim.Native.Nat.add.zero n) ∙ sym (one-*ℤ (power x n))
power-add x (suc m) n = ap (power x) (Prim.Native.Nat.add.suc m n) ∙ ap (λ t. x *ℤ t) (power-add x m n) ∙ sym (*ℤ-assoc x (power x m) (power x n))

mon-⊕ : (us vs : List ℕ) (ρ : List ℤ) → mon (us ⊕ vs) ρ ≡ mon us ρ *ℤ mon vs ρ
unfolding mon
mon-⊕ [] vs ρ = sym (one-*ℤ (mon vs ρ))
mon-⊕ (a ∷ us) [] ρ = sym (*ℤ-1 (mon (a ∷ us) ρ))
mon-⊕ (a ∷ us) (b ∷ vs) [] = ap₂ ◌*ℤ◌ (power-add (pos 0) a b) (mon-⊕ us vs []) ∙ *ℤ-swap (power (pos 0) a) (power (pos 0) b) (mon us []) (mon vs [])
mon-⊕ (a ∷ us) (b ∷ vs) (x ∷ ρ) = ap₂ ◌*ℤ◌ (power-add x a b) (mon-⊕ us vs ρ) ∙ *ℤ-swap (power x a) (power x b) (mon us ρ) (mon vs ρ)

unit-mon : (i : ℕ) (ρ : List ℤ) → mon (unit i) ρ ≡ nth ρ i
unfolding mon power
unit-mon zero [] = refl
unit-mon zero (x ∷ ρ) = *ℤ-1 (x *ℤ pos 1) ∙ *ℤ-1 x
unit-mon (suc i) [] = one-*ℤ (mon (unit i) []) ∙ unit-mon i []
unit-mon (suc i) (x ∷ ρ) = one-*ℤ (mon (unit i) ρ) ∙ unit-mon i ρ

-- ---- the sum
module _ (ρ : List ℤ) where
  abbrev Adds : Poly → (Poly → Poly) → Type 0
  Adds p r = (q : Poly) → sem (r q) ρ ≡ sem p ρ +ℤ sem q ρ

  front : (x p q m : ℤ) → m ≡ p +ℤ q → x +ℤ m ≡ (x +ℤ p) +ℤ q
  front x p q m h = ap (λ t. x +ℤ t) h ∙ sym (+ℤ_assoc x p q)

  later : (x y p q m : ℤ) → m ≡ (x +ℤ p) +ℤ q → y +ℤ m ≡ (x +ℤ p) +ℤ (y +ℤ q)
  later x y p q m h = ap (λ t. y +ℤ t) h ∙ +ℤ-left-comm y (x +ℤ p) q

  joined : (v v' : List ℕ) (c c' p q m : ℤ) → v ≡ v' → m ≡ p +ℤ q → (c +ℤ c') *ℤ mon v ρ +ℤ m ≡ (c *ℤ mon v ρ +ℤ p) +ℤ (c' *ℤ mon v' ρ +ℤ q)
  joined v v' c c' p q m e h =
      ap₂ ◌+ℤ◌ (add-*ℤ c c' (mon v ρ)) h ∙ +ℤ-swap (c *ℤ mon v ρ) (c' *ℤ mon v ρ) p q ∙ ap (λ w. (c *ℤ mon v ρ +ℤ p) +ℤ (c' *ℤ mon w ρ +ℤ q)) e

  module _ (k : ℕ) (v : List ℕ) (c : ℤ) (p : Poly) (r : Poly → Poly) (h : Adds p r) where
    sem_same : (k' : ℕ) (v' : List ℕ) (c' : ℤ) (q : Poly) (b : Bool) → (T b → v ≡ v')
        → sem (elim b [ true ↦ cons k v (c +ℤ c') (r q) | false ↦ cons k v c (r (cons k' v' c' q)) ]) ρ ≡ sem (cons k v c p) ρ +ℤ sem (cons k' v' c' q) ρ
    unfolding sem
    sem_same k' v' c' q true e = joined v v' c c' (sem p ρ) (sem q ρ) (sem (r q) ρ) (e tt) (h q)
    sem_same k' v' c' q false e = front (c *ℤ mon v ρ) (sem p ρ) (c' *ℤ mon v' ρ +ℤ sem q ρ) (sem (r (cons k' v' c' q)) ρ) (h (cons k' v' c' q))

    sem-step : (k' : ℕ) (v' : List ℕ) (c' : ℤ) (q s : Poly) → sem s ρ ≡ sem (cons k v c p) ρ +ℤ sem q ρ → (o : Ordering)
        → sem (elim o [ Ordering.lt ↦ cons k v c (r (cons k' v' c' q)) | Ordering.gt ↦ cons k' v' c' s | Ordering.eq ↦ elim (same v v') [ true ↦ cons k v (c +ℤ c') (r q) | false ↦ cons k v c (r (cons k' v' c' q)) ] ]) ρ ≡ sem (cons k v c p) ρ +ℤ sem (cons k' v' c' q) ρ
    unfolding sem
    sem-step k' v' c' q s ih Ordering.lt = front (c *ℤ mon v ρ) (sem p ρ) (c' *ℤ mon v' ρ +ℤ sem q ρ) (sem (r (cons k' v' c' q)) ρ) (h (cons k' v' c' q))
    sem-step k' v' c' q s ih Ordering.gt = later (c *ℤ mon v ρ) (c' *ℤ mon v' ρ) (sem p ρ) (sem q ρ) (sem s ρ) ih
    sem-step k' v' c' q s ih Ordering.eq = sem_same k' v' c' q (same v v') (same-eq v v')

    sem-into : (q : Poly) → sem (into k v c (cons k v c p) r q) ρ ≡ sem (cons k v c p) ρ +ℤ sem q ρ
    unfolding sem
    sem-into nil = sym (+ℤ_idr (c *ℤ mon v ρ +ℤ sem p ρ))
    sem-into (cons k' v' c' q) = sem-step k' v' c' q (into k v c (cons k v c p) r q) (sem-into q) (compare k k')

  plus-sem : (p q : Poly) → sem (plus p q) ρ ≡ sem p ρ +ℤ sem q ρ
  unfolding sem
  plus-sem nil q = sym (+ℤ_idl (sem q ρ))
  plus-sem (cons k v c p) q = sem-into k v c p (plus p) (plus-sem p) q

  -- ---- the product
  times1-sem : (k : ℕ) (v : List ℕ) (c : ℤ) (q : Poly) → sem (times1 k v c q) ρ ≡ (c *ℤ mon v ρ) *ℤ sem q ρ
  unfolding sem
  times1-sem k v c nil = sym (*ℤ-zero (c *ℤ mon v ρ))
  times1-sem k v c (cons k' v' c' q) =
      ap₂ ◌+ℤ◌ (ap (λ t. (c *ℤ c') *ℤ t) (mon-⊕ v v' ρ) ∙ *ℤ-swap c c' (mon v ρ) (mon v' ρ)) (times1-sem k v c q) ∙ sym (*ℤ-add (c *ℤ mon v ρ) (c' *ℤ mon v' ρ) (sem q ρ))

  times-sem : (p q : Poly) → sem (times p q) ρ ≡ sem p ρ *ℤ sem q ρ
  unfolding sem
  times-sem nil q = sym (zero-*ℤ (sem q ρ))
  times-sem (cons k v c p) q =
      plus-sem (times1 k v c q) (times p q) ∙ ap₂ ◌+ℤ◌ (times1-sem k v c q) (times-sem p q) ∙ sym (add-*ℤ (c *ℤ mon v ρ) (sem p ρ) (sem q ρ))

  scale-sem : (s : ℤ) (p : Poly) → sem (scale s p) ρ ≡ s *ℤ sem p ρ
  unfolding sem
  scale-sem s nil = sym (*ℤ-zero s)
  scale-sem s (cons k v c p) = ap₂ ◌+ℤ◌ (*ℤ-assoc s c (mon v ρ)) (scale-sem s p) ∙ sym (*ℤ-add s (c *ℤ mon v ρ) (sem p ρ))

  minus_one : (x : ℤ) → negsuc 0 *ℤ x ≡ neg_ℤ x
  minus_one x = neg-*ℤ (pos 1) x ∙ ap neg_ℤ (one-*ℤ x)

  minus-sem : (p : Poly) → sem (scale (negsuc 0) p) ρ ≡ neg_ℤ (sem p ρ)
  minus-sem p = scale-sem (negsuc 0) p ∙ minus_one (sem p ρ)

  norm-sem : (e : Expr) → sem (norm e) ρ ≡ eval e ρ
  unfolding sem mon
  norm-sem (var i) = +ℤ_idr (pos 1 *ℤ mon (unit i) ρ) ∙ one-*ℤ (mon (unit i) ρ) ∙ unit-mon i ρ
  norm-sem (con k) = +ℤ_idr (k *ℤ pos 1) ∙ *ℤ-1 k
  norm-sem (add a b) = plus-sem (norm a) (norm b) ∙ ap₂ ◌+ℤ◌ (norm-sem a) (norm-sem b)
  norm-sem (sub a b) = plus-sem (norm a) (scale (negsuc 0) (norm b)) ∙ ap₂ ◌+ℤ◌ (norm-sem a) (minus-sem (norm b) ∙ ap neg_ℤ (norm-sem b))
  norm-sem (mul a b) = times-sem (norm a) (norm b) ∙ ap₂ ◌*ℤ◌ (norm-sem a) (norm-sem b)
  norm-sem (neg a) = minus-sem (norm a) ∙ ap neg_ℤ (norm-sem a)

  zero-coeff : (c x y : ℤ) → T (is_zero c) → y ≡ pos 0 → c *ℤ x +ℤ y ≡ pos 0
  zero-coeff (pos n) x y t h = ap₂ ◌+ℤ◌ (ap (λ m. pos m *ℤ x) (eqb→eq n 0 t) ∙ zero-*ℤ x) h
  zero-coeff (negsuc n) x y t h = absurd t

  vanishes-sem : (p : Poly) → T (vanishes p) → sem p ρ ≡ pos 0
  unfolding sem
  vanishes-sem nil t = refl
  vanishes-sem (cons k v c p) t = zero-coeff c (mon v ρ) (sem p ρ) (and_l (is_zero c) (vanishes p) t) (vanishes-sem p (and_r (is_zero c) (vanishes p) t))

-- the same value, if their difference has no coefficient but 0
pub solve : (ρ : List ℤ) (a b : Expr) → T (agree a b) → eval a ρ ≡ eval b ρ
solve ρ a b t = sub-eq-zero (eval a ρ) (eval b ρ) (sym (norm-sem ρ (sub a b)) ∙ vanishes-sem ρ (norm (sub a b)) t)
