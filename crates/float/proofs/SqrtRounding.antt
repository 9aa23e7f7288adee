-- The rounding in `sqrt_of`, by whole numbers: the root of N * w ^ 2, with w = 2 ^ k and N of twice the format's digits, rounds to q * w, where q is the whole
-- number nearest to the root of N.
use Rattle.std.proofs.Common.{◌≡◌, ℕ, suc, ◌+◌, ◌-◌, ◌*◌, ◌/◌, ◌%◌, ◌^◌, ◌<◌, ◌≤◌, Bool, true, false, cond, not, T, eqb, sym, ap, ◌∙◌, subst, inl, inr, le_trans, le_of_eq, lt_of_lt_of_le, lt_of_le_of_lt, le_of_lt, lt_irrefl, mul-le-mul_right, zero-lt-suc, mul_assoc, mul_comm, div-lt_iff_lt-mul, mul-le-mul, le_antisymm, lt_of_mul-lt-mul_right, mul-lt-mul_of_pos_right, mul-pos, lt_of_not-le, div-add-mod', le-div_iff_mul-le, not-le_of_lt, arith, lit≤, eqb→eq, leb→le, pow_pos, pow_mono, pow-add}
use Prim.Native.Nat.{compare, Ordering}
use native.Mathlib.Nat.{mul-mul-mul_comm, div-eq_of_lt-le, pow-succ'}
use lib.Dec.{is_le, compare_is_eq, nleb→lt, eqb_refl}
use lib.Arith.{lt_of_le-ne}
use lib.Ieee.{Format, prec, low, size, nearest, units, round}
use lib.Ieee.Digits.{size-lt, size-le}
use lib.Ieee.Fits.{round_is, two, two-le_pos}
use Rattle.float.specs.Sqrt.{beyond}
use Rattle.float.proofs.Order.{by-test}
use Rattle.float.proofs.Root.{NearRoot, IsRoot, root-le, root-lt, near_le, near-ge}

-- ---- `round` of a fraction num / den whose kept digits p are known: in units of 2 ^ -low it lies from p * 2 ^ k on, and below (p + 1) * 2 ^ k
abbrev Cmp : Ordering → ℕ → ℕ → Type 0
Cmp Ordering.lt a b = a < b
Cmp Ordering.eq a b = a ≡ b
Cmp Ordering.gt a b = b < a

cmp : (a b : ℕ) → Cmp (compare a b) a b
cmp a b = go (compare a b) (leb→le a b) (nleb→lt a b) (eqb→eq a b) (λ (e : a ≡ b). subst (λ (x : ℕ). T (eqb a x)) e (eqb_refl a))
  where
    go : (o : Ordering) → (T (is_le o) → a ≤ b) → (T (not (is_le o)) → b < a) → (T (compare_is_eq o) → a ≡ b) → (a ≡ b → T (compare_is_eq o)) → Cmp o a b
    go Ordering.lt h k e n = lt_of_le-ne (h tt) n
    go Ordering.eq h k e n = e tt
    go Ordering.gt h k e n = k tt

nearest-down : (p : ℕ) (o : Ordering) (a b : ℕ) → Cmp o a b → a < b → nearest p o ≡ p
nearest-down p Ordering.lt a b c h = omega arith
nearest-down p Ordering.eq a b c h = absurd (lt_irrefl b (subst (λ (x : ℕ). x < b) c h))
nearest-down p Ordering.gt a b c h = absurd (lt_irrefl b (lt_of_lt_of_le c (le_of_lt h)))

nearest-up : (p : ℕ) (o : Ordering) (a b : ℕ) → Cmp o a b → b < a → nearest p o ≡ suc p
nearest-up p Ordering.lt a b c h = absurd (lt_irrefl b (lt_of_lt_of_le h (le_of_lt c)))
nearest-up p Ordering.eq a b c h = absurd (lt_irrefl b (subst (λ (x : ℕ). b < x) c h))
nearest-up p Ordering.gt a b c h = omega arith

size_is : (n z : ℕ) → 2 ^ z ≤ n → n < 2 ^ suc z → size n ≡ suc z
size_is n z a b = le_antisymm (size-le n (suc z) b) (lt_of_not-le (λ (g : size n ≤ z). not-le_of_lt (lt_of_lt_of_le (size-lt n) (pow_mono g)) a))

module _ (f : Format) (num den p k : ℕ) (D : 0 < den) (lo : 2 ^ (prec f - 1) ≤ p) (hi : p < 2 ^ prec f) (from : p * (den * 2 ^ k) ≤ num * 2 ^ low f) (to : num * 2 ^ low f < suc p * (den * 2 ^ k)) where
  dropped : size (num * 2 ^ low f / den) - prec f ≡ k
  dropped =
      let P : 0 < prec f = two-le_pos (prec f) (two f) in
      let a : 2 ^ (prec f - 1 + k) ≤ num * 2 ^ low f / den =
      (le-div_iff_mul-le D).1
      (le_trans (le_of_eq (ap (λ (x : ℕ). x * den) (pow-add 2 (prec f - 1) k) ∙ mul_assoc (2 ^ (prec f - 1)) (2 ^ k) den ∙ ap (λ (x : ℕ). 2 ^ (prec f - 1) * x) (mul_comm (2 ^ k) den)))
      (le_trans (mul-le-mul_right (den * 2 ^ k) lo) from)) in
      let b : num * 2 ^ low f / den < 2 ^ suc (prec f - 1 + k) =
      (div-lt_iff_lt-mul D).1
      (lt_of_lt_of_le to
      (le_trans (mul-le-mul_right (den * 2 ^ k) hi)
      (le_of_eq (ap (λ (x : ℕ). 2 ^ prec f * x) (mul_comm den (2 ^ k)) ∙ sym (mul_assoc (2 ^ prec f) (2 ^ k) den) ∙ ap (λ (x : ℕ). x * den) (sym (pow-add 2 (prec f) k) ∙ ap (λ (x : ℕ). 2 ^ x) (more (prec f) k P)))))) in
      less (prec f) k (size (num * 2 ^ low f / den)) P (size_is (num * 2 ^ low f / den) (prec f - 1 + k) a b)
    where
      more : (p k : ℕ) → 0 < p → p + k ≡ suc (p - 1 + k)
      more p k h = omega arith

      less : (p k z : ℕ) → 0 < p → z ≡ suc (p - 1 + k) → z - p ≡ k
      less p k z h e = omega arith

  kept : num * 2 ^ low f / (den * 2 ^ k) ≡ p
  kept = div-eq_of_lt-le (den * 2 ^ k) from (lt_of_lt_of_le to (le_of_eq (step p (den * 2 ^ k))))
    where
      step : (p u : ℕ) → suc p * u ≡ (p + 1) * u
      step p u = omega arith

  left : num * 2 ^ low f % (den * 2 ^ k) ≡ num * 2 ^ low f - p * (den * 2 ^ k)
  left = let e = div-add-mod' (num * 2 ^ low f) (den * 2 ^ k) in let w = ap (λ (x : ℕ). x * (den * 2 ^ k)) kept in omega arith

  at : round f false num den ≡ units f false (nearest p (compare ((num * 2 ^ low f - p * (den * 2 ^ k)) * 2) (den * 2 ^ k))) k
  at =
      round_is f false num den
      ∙ ap (λ (j : ℕ). units f false (nearest (num * 2 ^ low f / (den * 2 ^ j)) (compare (num * 2 ^ low f % (den * 2 ^ j) * 2) (den * 2 ^ j))) j) dropped
      ∙ ap (λ (x : ℕ). units f false (nearest x (compare (num * 2 ^ low f % (den * 2 ^ k) * 2) (den * 2 ^ k))) k) kept
      ∙ ap (λ (x : ℕ). units f false (nearest p (compare (x * 2) (den * 2 ^ k))) k) left

  pub round-down : (num * 2 ^ low f) * 2 < p * (den * 2 ^ k) * 2 + den * 2 ^ k → round f false num den ≡ units f false p k
  round-down h =
      let r = (num * 2 ^ low f - p * (den * 2 ^ k)) * 2 in
      at ∙ ap (λ (x : ℕ). units f false x k) (nearest-down p (compare r (den * 2 ^ k)) r (den * 2 ^ k) (cmp r (den * 2 ^ k)) (let g = from in omega arith))

  pub round_up : p * (den * 2 ^ k) * 2 + den * 2 ^ k < (num * 2 ^ low f) * 2 → round f false num den ≡ units f false (suc p) k
  round_up h =
      let r = (num * 2 ^ low f - p * (den * 2 ^ k)) * 2 in
      at ∙ ap (λ (x : ℕ). units f false x k) (nearest-up p (compare r (den * 2 ^ k)) r (den * 2 ^ k) (cmp r (den * 2 ^ k)) (let g = from in omega arith))

-- ---- s, the whole part of the root of N * w ^ 2, against the middles (q - 1/2) * w and (q + 1/2) * w, where w = 2 * v
square : (a v : ℕ) → a * v * (a * v) ≡ a * a * (v * v)
square a v = mul-mul-mul_comm a v a v

scaled : (b v w : ℕ) → w ≡ 2 * v → b * (w * w) ≡ 4 * b * (v * v)
scaled b v w e = ap (λ (x : ℕ). b * (x * x)) e ∙ omega arith

module _ (N q v w s : ℕ) (W : w ≡ 2 * v) (vp : 0 < v) (near : NearRoot N q) (r : IsRoot (N * (w * w)) s) where
  below-mid : s < (2 * q + 1) * v
  below-mid =
      let g : 4 * N < (2 * q + 1) * (2 * q + 1) = let h = near.high in omega arith in
      root-lt (N * (w * w)) ((2 * q + 1) * v) s
      (lt_of_le_of_lt (le_of_eq (scaled N v w W)) (lt_of_lt_of_le (mul-lt-mul_of_pos_right g (mul-pos vp vp)) (le_of_eq (sym (square (2 * q + 1) v))))) r

  mid-below : (p : ℕ) → q ≡ suc p → (2 * p + 1) * v * ((2 * p + 1) * v) < N * (w * w)
  mid-below p e =
      let g : (2 * p + 1) * (2 * p + 1) < 4 * N = let h = near.low in let e' = ap (λ (x : ℕ). x * x) e in omega arith in
      lt_of_le_of_lt (le_of_eq (square (2 * p + 1) v)) (lt_of_lt_of_le (mul-lt-mul_of_pos_right g (mul-pos vp vp)) (le_of_eq (sym (scaled N v w W))))

  above-mid : (p : ℕ) → q ≡ suc p → (2 * p + 1) * v ≤ s
  above-mid p e = root-le (N * (w * w)) ((2 * p + 1) * v) s (le_of_lt (mid-below p e)) r

  -- and strictly, with what lies beyond s
  beyond-mid : (p : ℕ) → q ≡ suc p → (2 * p + 1) * v * 2 < 2 * s + beyond s (N * (w * w))
  beyond-mid p e = go (eqb (s * s) (N * (w * w))) (eqb→eq (s * s) (N * (w * w)))
    where
      go : (t : Bool) → (T t → s * s ≡ N * (w * w)) → (2 * p + 1) * v * 2 < 2 * s + cond t 0 1
      go false k = let a = above-mid p e in omega arith
      go true k = elim (by-test s ((2 * p + 1) * v)) [
        | inl a ↦ absurd (lt_irrefl (s * s) (lt_of_le_of_lt (mul-le-mul a a) (lt_of_lt_of_le (mid-below p e) (le_of_eq (sym (k tt))))))
        | inr b ↦ omega arith
      ]

beyond-le : (s n : ℕ) → beyond s n ≤ 1
beyond-le s n = go (eqb (s * s) n)
  where
    go : (t : Bool) → cond t 0 1 ≤ 1
    go true = lit≤ tt
    go false = lit≤ tt

-- ---- the fraction (2 * s + σ) / (2 * L), with L = 2 ^ low, against the values beside it
module _ (p w s σ L : ℕ) where
  end-from : p * w ≤ s → p * (2 * L * w) ≤ (2 * s + σ) * L
  end-from h = let g = mul-le-mul_right L h in omega arith

  end-to : 0 < L → 2 * s + σ < 2 * (suc p * w) → (2 * s + σ) * L < suc p * (2 * L * w)
  end-to l h = lt_of_lt_of_le (mul-lt-mul_of_pos_right h l) (omega arith)

  end-down : 0 < L → 2 * s + σ < 2 * (p * w) + w → (2 * s + σ) * L * 2 < p * (2 * L * w) * 2 + 2 * L * w
  end-down l h = let g = mul-lt-mul_of_pos_right h l in omega arith

  end-up : 0 < L → 2 * (p * w) + w < 2 * s + σ → p * (2 * L * w) * 2 + 2 * L * w < (2 * s + σ) * L * 2
  end-up l h = let g = mul-lt-mul_of_pos_right h l in omega arith

module _ (f : Format) (N q j s : ℕ) (lo : 2 ^ (prec f - 1) * 2 ^ (prec f - 1) ≤ N) (hi : N < 2 ^ prec f * 2 ^ prec f) (near : NearRoot N q) (r : IsRoot (N * (2 ^ suc j * 2 ^ suc j)) s) where
  -- s is from 2 ^ (prec - 1) * w on, and below 2 ^ prec * w
  s-ge : 2 ^ (prec f - 1) * 2 ^ suc j ≤ s
  s-ge = root-le (N * (2 ^ suc j * 2 ^ suc j)) (2 ^ (prec f - 1) * 2 ^ suc j) s (le_trans (le_of_eq (square (2 ^ (prec f - 1)) (2 ^ suc j))) (mul-le-mul_right (2 ^ suc j * 2 ^ suc j) lo)) r

  s-lt : s < 2 ^ prec f * 2 ^ suc j
  s-lt = root-lt (N * (2 ^ suc j * 2 ^ suc j)) (2 ^ prec f * 2 ^ suc j) s
      (lt_of_lt_of_le (mul-lt-mul_of_pos_right hi (mul-pos (pow_pos (suc j)) (pow_pos (suc j)))) (le_of_eq (sym (square (2 ^ prec f) (2 ^ suc j))))) r

  -- q * w is at most s
  at-or-below : q * 2 ^ suc j ≤ s → round f false (2 * s + beyond s (N * (2 ^ suc j * 2 ^ suc j))) (2 * 2 ^ low f) ≡ units f false q (suc j)
  at-or-below a =
      let w = 2 ^ suc j in
      let σ : ℕ = beyond s (N * (w * w)) in
      let W : w ≡ 2 * 2 ^ j = pow-succ' 2 j in
      let e = ap (λ (x : ℕ). q * x) W in
      let m = below-mid N q (2 ^ j) w s W (pow_pos j) near r in
      let b = beyond-le s (N * (w * w)) in
      let d : 2 * s + σ < 2 * (q * w) + w = omega arith in
      let p = pow_pos (suc j) in
      round-down f (2 * s + σ) (2 * 2 ^ low f) q (suc j) (mul-pos (zero-lt-suc 1) (pow_pos (low f))) (near_le (2 ^ (prec f - 1)) N q lo near)
      (lt_of_mul-lt-mul_right w (lt_of_le_of_lt a s-lt))
      (end-from q w s σ (2 ^ low f) a)
      (end-to q w s σ (2 ^ low f) (pow_pos (low f)) (lt_of_lt_of_le d (omega arith)))
      (end-down q w s σ (2 ^ low f) (pow_pos (low f)) d)

  -- q * w is above s, and p = q - 1
  just-above : (p : ℕ) → q ≡ suc p → s < q * 2 ^ suc j → round f false (2 * s + beyond s (N * (2 ^ suc j * 2 ^ suc j))) (2 * 2 ^ low f) ≡ units f false q (suc j)
  just-above p qe a =
      let w = 2 ^ suc j in
      let σ : ℕ = beyond s (N * (w * w)) in
      let W : w ≡ 2 * 2 ^ j = pow-succ' 2 j in
      let e = ap (λ (x : ℕ). p * x) W in
      let m = above-mid N q (2 ^ j) w s W (pow_pos j) near r p qe in
      let n = beyond-mid N q (2 ^ j) w s W (pow_pos j) near r p qe in
      let b = beyond-le s (N * (w * w)) in
      let a' : s < suc p * w = subst (λ (x : ℕ). s < x * w) qe a in
      let d : 2 * (p * w) + w < 2 * s + σ = omega arith in
      let qs : 2 ^ (prec f - 1) < q = lt_of_mul-lt-mul_right w (lt_of_le_of_lt s-ge a) in
      let qh : q ≤ 2 ^ prec f = near-ge (2 ^ prec f) N q hi near in
      round_up f (2 * s + σ) (2 * 2 ^ low f) p (suc j) (mul-pos (zero-lt-suc 1) (pow_pos (low f))) (omega arith) (omega arith)
      (end-from p w s σ (2 ^ low f) (omega arith))
      (end-to p w s σ (2 ^ low f) (pow_pos (low f)) (omega arith))
      (end-up p w s σ (2 ^ low f) (pow_pos (low f)) d)
      ∙ ap (λ (x : ℕ). units f false x (suc j)) (sym qe)

  pub sqrt-at : round f false (2 * s + beyond s (N * (2 ^ suc j * 2 ^ suc j))) (2 * 2 ^ low f) ≡ units f false q (suc j)
  sqrt-at = elim (by-test (q * 2 ^ suc j) s) [
    | inl a ↦ at-or-below a
    | inr b ↦ let h = near_le (2 ^ (prec f - 1)) N q lo near in let p = pow_pos (prec f - 1) in just-above (q - 1) (omega arith) b
  ]
