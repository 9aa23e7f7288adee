-- Two positive numbers and what `finalize` makes of them: their greatest common divisor g, and l with g·l = x·y, their least common multiple.
use mathlib.Core.Path.{◌≡◌, refl, sym, ◌∙◌, ap, ap₂, subst}
use mathlib.Core.List.{[], ◌∷◌}
use mathlib.Core.Logic.{⊎_elim}
use Prim.Native.Nat.{ℕ, zero, suc, ◌+◌, ◌*◌, ◌≤◌, ◌<◌}
use native.Mathlib.Nat.{mul-pos}
use native.Mathlib.Omega.{arith}
use lib.IntN.{ℤ, pos, negsuc, nat_abs, ◌+ℤ◌, ◌*ℤ◌}
use lib.Signed.{pos-nat_abs}
use Rattle.integer.specs.Parts.{up, dn}
use Rattle.integer.specs.Divides.{Divides, IsGcd}
use Rattle.integer.proofs.Parts.{product}
use Rattle.integer.proofs.Order.{NonNeg, nonneg_pos, ◌⊠◌}
use Rattle.integer.proofs.Reify.{ring, reify, zero-by, ◌∗◌, ◌⊹◌, eq-by}
use Rattle.integer.proofs.Divides.{mul-cancel, divides-refl, divides-trans, divides-comb, divides-mul, divides-le, divides-antisym, gcd-bezout, nonzero-factors}
use Rattle.snf_steps.proofs.Bezout.{Bezout, gcd-on-top}
use Rattle.snf_steps.proofs.Disturbance.{Twice, lower}

pub record Split (x y g l : ℕ) : Type 0 where
  pub left : Divides (pos g) (pos x)
  pub right : Divides (pos g) (pos y)
  pub s : ℤ
  pub t : ℤ
  pub combination : pos g ≡ s *ℤ pos x +ℤ t *ℤ pos y
  pub product : pos g *ℤ pos l ≡ pos x *ℤ pos y
  pub positive : zero < g

-- ---- the least common multiple
module _ {x y g l : ℕ} (k : Split x y g l) where
  pub split-gcd : IsGcd (pos g) (pos x) (pos y)
  split-gcd = gcd-bezout k.s k.t k.left k.right k.combination

  pub split-swap : Split y x g l
  split-swap = record {
    left = k.right;
    right = k.left;
    s = k.t;
    t = k.s;
    combination = k.combination ∙ ring (k.s ∷ k.t ∷ pos x ∷ pos y ∷ []) (search reify depth 40) tt;
    product = k.product ∙ ring (pos x ∷ pos y ∷ []) (search reify depth 40) tt;
    positive = k.positive;
  }

  -- x divides l
  pub first-divides-lcm : Divides (pos x) (pos l)
  first-divides-lcm = record {
    times = k.right.times;
    is = mul-cancel (pos l) (k.right.times *ℤ pos x) (pos g) k.positive (law (pos x) (pos y) (pos g) (pos l) k.right.times k.product k.right.is);
  }
    where
      law : (x y g l v : ℤ) → g *ℤ l ≡ x *ℤ y → y ≡ v *ℤ g → l *ℤ g ≡ v *ℤ x *ℤ g
      law x y g l v p q = eq-by (zero-by p ⊹ zero-by q ∗ x) (ring (x ∷ y ∷ g ∷ l ∷ v ∷ []) (search reify depth 60 fits 100000) tt)

  pub gcd-divides-lcm : Divides (pos g) (pos l)
  gcd-divides-lcm = divides-trans k.left first-divides-lcm

  -- and l divides every common multiple
  pub lcm-divides : {m : ℤ} → Divides (pos x) m → Divides (pos y) m → Divides (pos l) m
  lcm-divides {m} p q = record {
    times = k.s *ℤ q.times +ℤ k.t *ℤ p.times;
    is = mul-cancel m ((k.s *ℤ q.times +ℤ k.t *ℤ p.times) *ℤ pos l) (pos g) k.positive
        (law (pos x) (pos y) (pos g) (pos l) k.s k.t p.times q.times m k.combination k.product p.is q.is);
  }
    where
      law : (x y g l s t i j m : ℤ) → g ≡ s *ℤ x +ℤ t *ℤ y → g *ℤ l ≡ x *ℤ y → m ≡ i *ℤ x → m ≡ j *ℤ y → m *ℤ g ≡ (s *ℤ j +ℤ t *ℤ i) *ℤ l *ℤ g
      law x y g l s t i j m c p e f =
          eq-by (zero-by c ∗ m ⊹ zero-by f ∗ (s *ℤ x) ⊹ zero-by e ∗ (t *ℤ y) ⊹ zero-by p ∗ (negsuc 0 *ℤ (s *ℤ j +ℤ t *ℤ i)))
          (ring (x ∷ y ∷ g ∷ l ∷ s ∷ t ∷ i ∷ j ∷ m ∷ []) (search reify depth 60 fits 1000000) tt)

  -- of a number and its multiple nothing is made
  pub split-kept : Divides (pos x) (pos y) → (g ≡ x) × (l ≡ y)
  split-kept d =
      let same : g ≡ x = divides-antisym k.left (split-gcd.greatest (pos x) (divides-refl (pos x)) d) in
      (same, ap nat_abs (mul-cancel (pos l) (pos y) (pos g) k.positive (law (pos x) (pos y) (pos g) (pos l) k.product (ap pos same))))
    where
      law : (x y g l : ℤ) → g *ℤ l ≡ x *ℤ y → g ≡ x → l *ℤ g ≡ y *ℤ g
      law x y g l p e = eq-by (zero-by p ⊹ zero-by e ∗ (negsuc 0 *ℤ y)) (ring (x ∷ y ∷ g ∷ l ∷ []) (search reify depth 60 fits 100000) tt)

pub second-divides-lcm : {x y g l : ℕ} → Split x y g l → Divides (pos y) (pos l)
second-divides-lcm k = first-divides-lcm (split-swap k)

pub lcm-positive : {x y g l : ℕ} → Split x y g l → zero < x → zero < y → zero < l
lcm-positive {x} {y} {g} {l} k hx hy = (nonzero-factors (pos g) (pos l) (subst (λ (z : ℤ). zero < nat_abs z) (sym k.product) (mul-pos hx hy))).1

-- x divides y
pub split-same : {x y : ℕ} → zero < x → Divides (pos x) (pos y) → Split x y x y
split-same {x} {y} h d = record {
  left = divides-refl (pos x);
  right = d;
  s = pos 1;
  t = pos 0;
  combination = ring (pos x ∷ pos y ∷ []) (search reify depth 40) tt;
  product = refl;
  positive = h;
}

-- ---- the two gcds that a disturbance takes
is-size : {z : ℤ} → NonNeg z → z ≡ pos (nat_abs z)
is-size {z} s = sym (pos-nat_abs z s.sign)

factor-nonneg : (u : ℤ) (c x : ℕ) → zero < c → pos x ≡ u *ℤ pos c → NonNeg u
factor-nonneg (pos n) c x h e = nonneg_pos n
factor-nonneg (negsuc n) c x h e = absurd (never n c x h (subst (λ (z : ℤ). up z + suc n * c ≡ dn z) (sym e) (omega (arith, product (negsuc n) (pos c)))))
  where
    never : (n c x : ℕ) → zero < c → x + suc n * c ≡ zero → ⊥
    never n c x h e = omega arith

pub record Splits (x y : ℕ) (first second : ℤ) : Type 0 where
  pub g : ℕ
  pub l : ℕ
  pub split : Split x y g l
  pub gcd-is : first ≡ pos g
  pub lcm-is : second ≡ pos l

module _ (x y : ℕ) (hx : zero < x) (le : x ≤ y) (odd : Divides (pos x) (pos y) → ⊥) (k : Twice (pos x) (pos y) (pos y)) where
  abbrev q : Bezout (pos x) (pos y)
  q = k.q

  abbrev r : Bezout q.gcd (q.t *ℤ pos y)
  r = k.r

  first-positive : NonNeg q.gcd
  first-positive = ⊎_elim (λ e. absurd (never (ap nat_abs e.0))) (λ s. ⊎_elim (λ e. subst NonNeg (sym e) (nonneg_pos y)) (λ n. n) s) k.sign-q
    where
      never : y ≡ zero → ⊥
      never e = omega arith

  of-x : Divides q.gcd (pos x)
  of-x = record { times = q.u; is = q.first }

  of-y : Divides q.gcd (pos y)
  of-y = record { times = q.v; is = q.second }

  same_size : nat_abs r.gcd ≡ nat_abs q.gcd
  same_size =
      divides-antisym (record { times = r.u; is = r.first })
      (divides-comb r.s r.t (divides-refl q.gcd) (divides-mul q.t of-y) (sym (gcd-on-top r)))

  -- a gcd of the size of y would be y, and divide x
  second-positive : NonNeg r.gcd
  second-positive =
      ⊎_elim (λ e. subst NonNeg (sym e.1) first-positive)
      (λ s. ⊎_elim (λ e. absurd (odd (subst (λ (n : ℕ). Divides (pos x) (pos n)) (same e) (divides-refl (pos x))))) (λ n. n) s) k.sign-r
    where
      same : r.gcd ≡ q.t *ℤ pos y → x ≡ y
      same e = omega (arith, divides-le {d = pos y} {z = r.gcd} (record { times = q.t; is = e }) r.nonzero, divides-le of-x hx, same_size)

  gcds-same : r.gcd ≡ q.gcd
  gcds-same = is-size second-positive ∙ ap pos same_size ∙ sym (is-size first-positive)

  lower-positive : NonNeg (lower k)
  lower-positive =
      factor-nonneg r.u (nat_abs r.gcd) (nat_abs q.gcd) r.nonzero (sym (is-size first-positive) ∙ r.first ∙ ap (λ z. r.u *ℤ z) (is-size second-positive))
      ⊠ (factor-nonneg q.u (nat_abs q.gcd) x q.nonzero (q.first ∙ ap (λ z. q.u *ℤ z) (is-size first-positive)) ⊠ nonneg_pos y)

  pub twice-splits : Splits x y r.gcd (lower k)
  twice-splits = record {
    g = nat_abs r.gcd;
    l = nat_abs (lower k);
    gcd-is = is-size second-positive;
    lcm-is = is-size lower-positive;
    split = record {
      left = subst (λ g. Divides g (pos x)) to of-x;
      right = subst (λ g. Divides g (pos y)) to of-y;
      s = q.s;
      t = q.t;
      combination = sym to ∙ sym (gcd-on-top q);
      product = ap₂ ◌*ℤ◌ (sym (is-size second-positive)) (sym (is-size lower-positive)) ∙ law (pos x) (pos y) q.gcd r.gcd q.u r.u q.first r.first;
      positive = r.nonzero;
    };
  }
    where
      to : q.gcd ≡ pos (nat_abs r.gcd)
      to = sym gcds-same ∙ is-size second-positive

      law : (x y c g u w : ℤ) → x ≡ u *ℤ c → c ≡ w *ℤ g → g *ℤ (w *ℤ (u *ℤ y)) ≡ x *ℤ y
      law x y c g u w p q = eq-by (zero-by p ∗ (negsuc 0 *ℤ y) ⊹ zero-by q ∗ (negsuc 0 *ℤ (u *ℤ y))) (ring (x ∷ y ∷ c ∷ g ∷ u ∷ w ∷ []) (search reify depth 60 fits 100000) tt)
