-- The extended gcd: its divisions come to an end, and the last remainder is a greatest common divisor that is s·a + t·b.
use mathlib.Core.Path.{◌≡◌, refl, sym, ◌∙◌, ap, subst}
use mathlib.Core.Bool.{not}
use mathlib.Core.List.{[], ◌∷◌}
use Prim.Native.Nat.{ℕ, zero, suc, ◌+◌, ◌^◌, ◌≤◌, ◌<◌}
use native.Mathlib.Nat.{le_of_lt, lt_of_lt_of_le, eq-zero-or-pos}
use native.Mathlib.Omega.{arith}
use mathlib.Core.Logic.{⊎_elim}
use lib.Dec.{T, lit≤}
use lib.IntN.{ℤ, pos, negsuc, neg_ℤ, nat_abs, ◌+ℤ◌, ◌*ℤ◌, ◌-ℤ◌, *ℤ-zero}
use Rattle.std.specs.Prelude.{Some}
use Rattle.integer.specs.Checked.{is_zero}
use Rattle.integer.specs.Division.{div_euclid, rem_euclid}
use Rattle.integer.specs.Divides.{Divides, IsGcd}
use Rattle.integer.proofs.Order.{NonNeg}
use Rattle.integer.proofs.Reify.{ring, reify, zero-by, ◌∗◌, ◌⊹◌, eq-by}
use Rattle.integer.proofs.Size.{abs-zero, zero_test, nonzero-test}
use Rattle.integer.proofs.Division.{div-rem-euclid, rem-euclid-nonneg, rem-euclid-lt}
use Rattle.integer.proofs.Divides.{mul-cancel, divides-refl, divides-zero, divides-comb, gcd-bezout}
use Rattle.snf_steps.specs.Then.{◌then◌}
use Rattle.snf_steps.specs.declared.gcd.Euclid.{Euclid}
use Rattle.snf_steps.specs.Gcd.{start, step_fits, next, step, euclid, extended_gcd}
use Rattle.snf_steps.proofs.Accepted.{Accepted, accepted, accepted-bind, accepted-map, accepted-provided, accepted-pick}
use Rattle.snf_steps.proofs.Halving.{rem-less-than-half, halved}

-- one division
abbrev pub divided : Euclid → Euclid
divided e = next (div_euclid e.r e.r1) e

pub step-divides : (e : Euclid) → Accepted (λ f. f ≡ divided e) (step e)
unfolding step
step-divides e = accepted-provided (step_fits (div_euclid e.r e.r1) e) (divided e) (λ _. refl)

module _ (a b : ℤ) where
  -- two remainders on the way: combinations of a and b, with no common divisor that a and b do not have
  pub record Remainders (e : Euclid) : Type 0 where
    pub now : e.r ≡ e.s *ℤ a +ℤ e.t *ℤ b
    pub after : e.r1 ≡ e.s1 *ℤ a +ℤ e.t1 *ℤ b
    pub common : (d : ℤ) → Divides d e.r → Divides d e.r1 → Divides d a × Divides d b

  pub record Ended (e : Euclid) : Type 0 where
    pub remainders : Remainders e
    pub last : e.r1 ≡ pos 0

  -- what is said of an accepted result; that the gcd divides a and b is its `left` and `right`
  pub record ExtendedGcd (e : Euclid) : Type 0 where
    pub combination : e.r ≡ e.s *ℤ a +ℤ e.t *ℤ b
    pub gcd : IsGcd e.r a b
    pub last : e.r1 ≡ pos 0

  -- ---- one division keeps them
  division-combines : (q m r r' s s' t t' : ℤ) → q *ℤ r' +ℤ m ≡ r → r ≡ s *ℤ a +ℤ t *ℤ b → r' ≡ s' *ℤ a +ℤ t' *ℤ b
      → m ≡ (s -ℤ q *ℤ s') *ℤ a +ℤ (t -ℤ q *ℤ t') *ℤ b
  division-combines q m r r' s s' t t' h one two =
      eq-by (zero-by h ⊹ zero-by one ⊹ zero-by two ∗ neg_ℤ q) (ring (q ∷ m ∷ r ∷ r' ∷ s ∷ s' ∷ t ∷ t' ∷ a ∷ b ∷ []) (search reify depth 60 fits 100000) tt)

  pub divided-remainders : (e : Euclid) → zero < nat_abs e.r1 → Remainders e → Remainders (divided e)
  divided-remainders e h g =
      let q = div_euclid e.r e.r1 in
      let m = rem_euclid e.r e.r1 in
      let whole = div-rem-euclid e.r e.r1 h in
      record {
        now = g.after;
        after = division-combines q m e.r e.r1 e.s e.s1 e.t e.t1 whole g.now g.after;
        common = λ d p n. g.common d (divides-comb q (pos 1) p n (sym whole ∙ ring (q ∷ m ∷ e.r1 ∷ []) (search reify depth 40) tt)) p;
      }

  one-division : (n : ℕ) (e : Euclid) → Remainders e → (T (not (is_zero e.r1)) → Remainders (divided e) → Accepted Ended (euclid n (divided e))) → Accepted Ended (euclid (suc n) e)
  unfolding euclid
  one-division n e g k =
      accepted-pick (is_zero e.r1) (Some e) (step e then euclid n)
      (λ t. accepted (record { remainders = g; last = zero_test e.r1 t }))
      (λ t. accepted-bind (euclid n) (step-divides e)
      (λ f p. subst (λ f. Accepted Ended (euclid n f)) (sym p) (k t (divided-remainders e (nonzero-test e.r1 t) g))))

  no-division : (n : ℕ) (e : Euclid) → Remainders e → e.r1 ≡ pos 0 → Accepted Ended (euclid n e)
  unfolding euclid
  no-division zero e g h = accepted (record { remainders = g; last = h })
  no-division (suc n) e g h = one-division n e g (λ t. absurd (subst (λ z. T (not (is_zero z))) h t))

  -- from 0 ≤ r' < 2 ^ k on, 2·k divisions are enough
  pub enough-divisions : (k n : ℕ) (e : Euclid) → k + k ≤ n → Remainders e → NonNeg e.r1 → nat_abs e.r1 < 2 ^ k → Accepted Ended (euclid n e)
  enough-divisions zero n e l g p h = no-division n e g (abs-zero e.r1 (omega arith))
  enough-divisions (suc k) zero e l g p h = absurd (omega arith)
  enough-divisions (suc k) (suc zero) e l g p h = absurd (omega arith)
  enough-divisions (suc k) (suc (suc n)) e l g p h =
      let m = rem_euclid e.r e.r1 in
      one-division (suc n) e g (λ t g1. one-division n (divided e) g1 (λ u g2.
      enough-divisions k n (divided (divided e)) (omega arith) g2 (rem-euclid-nonneg e.r1 m)
      (halved k (nat_abs e.r1) _ (le_of_lt (rem-less-than-half e.r1 m p (nonzero-test m u) (rem-euclid-lt e.r e.r1 (nonzero-test e.r1 t)))) h)))

  start-remainders : Remainders (start a b)
  start-remainders = record { now = ring (a ∷ b ∷ []) (search reify depth 40) tt; after = ring (a ∷ b ∷ []) (search reify depth 40) tt; common = λ d p q. (p, q) }

  -- one division, and then 2·63: b can be negative, the remainders after it not
  pub gcd-ends : (n : ℕ) → 126 ≤ n → nat_abs b ≤ 2 ^ 63 → Accepted Ended (euclid (suc n) (start a b))
  gcd-ends n l h =
      one-division n (start a b) start-remainders (λ t g.
      enough-divisions 63 n (divided (start a b)) l g (rem-euclid-nonneg a b) (lt_of_lt_of_le (rem-euclid-lt a b (nonzero-test b t)) h))

  pub ended-gcd : (e : Euclid) → Ended e → ExtendedGcd e
  ended-gcd e d =
      let g = d.remainders in
      let both = g.common e.r (divides-refl e.r) (subst (λ z. Divides e.r z) (sym d.last) (divides-zero e.r)) in
      record { combination = g.now; gcd = gcd-bezout e.s e.t both.0 both.1 g.now; last = d.last }

  -- for every b of 64 signed bits the 1000 divisions are enough
  pub extended-gcd : nat_abs b ≤ 2 ^ 63 → Accepted ExtendedGcd (extended_gcd a b)
  unfolding extended_gcd
  extended-gcd h = accepted-map (gcd-ends 999 (lit≤ tt) h) ended-gcd

  -- the gcd is not 0 where b is not
  pub gcd-nonzero : (e : Euclid) → zero < nat_abs b → ExtendedGcd e → zero < nat_abs e.r
  gcd-nonzero e h g = ⊎_elim (λ z. absurd (never (abs-zero e.r z))) (λ p. p) (eq-zero-or-pos (nat_abs e.r))
    where
      d : Divides e.r b
      d = g.gcd.right

      never : e.r ≡ pos 0 → ⊥
      never z = no_size (subst (λ (x : ℤ). zero < nat_abs x) (d.is ∙ ap (λ x. d.times *ℤ x) z ∙ *ℤ-zero d.times) h)
        where
          no_size : zero < zero → ⊥
          no_size l = omega arith

-- ---- a and b by their gcd: a = u·gcd, b = v·gcd and s·u + t·v = 1
pub record Bezout (a b : ℤ) : Type 0 where
  pub gcd : ℤ
  pub s : ℤ
  pub t : ℤ
  pub u : ℤ
  pub v : ℤ
  pub first : a ≡ u *ℤ gcd
  pub second : b ≡ v *ℤ gcd
  pub one : s *ℤ u +ℤ t *ℤ v ≡ pos 1
  pub nonzero : zero < nat_abs gcd

pub cofactors : (r s t u v a b : ℤ) → r ≡ s *ℤ a +ℤ t *ℤ b → a ≡ u *ℤ r → b ≡ v *ℤ r → (s *ℤ u +ℤ t *ℤ v) *ℤ r ≡ pos 1 *ℤ r
cofactors r s t u v a b h p q =
    eq-by (zero-by p ∗ neg_ℤ s ⊹ zero-by q ∗ neg_ℤ t ⊹ zero-by h ∗ negsuc 0) (ring (r ∷ s ∷ t ∷ u ∷ v ∷ a ∷ b ∷ []) (search reify depth 60 fits 100000) tt)

unfoldable pub bezout : (a b : ℤ) (e : Euclid) → zero < nat_abs b → ExtendedGcd a b e → Bezout a b
bezout a b e h g =
    let p = g.gcd.left in
    let q = g.gcd.right in
    let n = gcd-nonzero a b e h g in
    record {
      gcd = e.r;
      s = e.s;
      t = e.t;
      u = p.times;
      v = q.times;
      first = p.is;
      second = q.is;
      nonzero = n;
      one = mul-cancel (e.s *ℤ p.times +ℤ e.t *ℤ q.times) (pos 1) e.r n (cofactors e.r e.s e.t p.times q.times a b g.combination p.is q.is);
    }

-- of a and 0
unfoldable pub bezout-zero : (a b : ℤ) → zero < nat_abs a → b ≡ pos 0 → Bezout a b
bezout-zero a b h e = record {
  gcd = a;
  s = pos 1;
  t = pos 0;
  u = pos 1;
  v = pos 0;
  one = refl;
  nonzero = h;
  first = ring (a ∷ []) (search reify depth 40) tt;
  second = e ∙ ring (a ∷ []) (search reify depth 40) tt;
}

-- what the two rows get in the column of a and b: the gcd, and 0
module _ {a b : ℤ} (z : Bezout a b) where
  top-law : (r s t u v : ℤ) → a ≡ u *ℤ r → b ≡ v *ℤ r → s *ℤ u +ℤ t *ℤ v ≡ pos 1 → s *ℤ a +ℤ t *ℤ b ≡ r
  top-law r s t u v p q o = eq-by (zero-by p ∗ s ⊹ zero-by q ∗ t ⊹ zero-by o ∗ r) (ring (r ∷ s ∷ t ∷ u ∷ v ∷ a ∷ b ∷ []) (search reify depth 60 fits 100000) tt)

  pub gcd-on-top : z.s *ℤ a +ℤ z.t *ℤ b ≡ z.gcd
  gcd-on-top = top-law z.gcd z.s z.t z.u z.v z.first z.second z.one

  low-law : (r u v : ℤ) → a ≡ u *ℤ r → b ≡ v *ℤ r → neg_ℤ v *ℤ a +ℤ u *ℤ b ≡ pos 0
  low-law r u v p q = eq-by (zero-by p ∗ neg_ℤ v ⊹ zero-by q ∗ u) (ring (r ∷ u ∷ v ∷ a ∷ b ∷ []) (search reify depth 60 fits 100000) tt)

  pub zero-below : neg_ℤ z.v *ℤ a +ℤ z.u *ℤ b ≡ pos 0
  zero-below = low-law z.gcd z.u z.v z.first z.second
