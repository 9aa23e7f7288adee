-- No answer takes more than 82 rounds, and refusal 2 is never given.
use mathlib.Core.Path.{◌≡◌, refl, sym, ◌∙◌, ap, subst}
use mathlib.Core.Bool.{not}
use mathlib.Core.Logic.{⊎_elim, inl, inr}
use Prim.Native.Nat.{ℕ, zero, suc, ◌+◌, ◌^◌, ◌≤◌, ◌<◌}
use native.Mathlib.Nat.{le_trans, lt_of_le_of_lt}
use native.Mathlib.Omega.{arith}
use lib.Dec.{T, lit≤, lit<, le→leb}
use lib.IntN.{ℤ, nat_abs, ◌*ℤ◌}
use Rattle.std.specs.Prelude.{Option, Some, None, Result, Ok, Err}
use Rattle.integer.specs.Checked.{is_zero}
use Rattle.integer.specs.Divides.{Divides}
use Rattle.integer.proofs.Ring.{*ℤ-1, *ℤ-assoc}
use Rattle.integer.proofs.Test.{pick-cases}
use Rattle.integer.proofs.Size.{zero_test, nonzero-test}
use Rattle.integer.proofs.Fits.{fits-size}
use Rattle.integer.proofs.Divides.{divides-le, unit-square}
use Rattle.common.specs.Refusal.{number_of}
use Rattle.common.specs.declared.Refusal.{Refusal}
use Rattle.common.specs.declared.Refusal.TheVariants.{Singular, NotConverged, OutsideLimits, Overflow}
use Rattle.common.specs.Limits.{matrix_within}
use Rattle.common.specs.Matrix.{Axis, X, Y, Z, Mat, entry, det}
use Rattle.common.proofs.Bounds.{matrix-sizes}
use Rattle.common.proofs.Unimodular.{Regular}
use Rattle.common.proofs.Whole.{det-size}
use Rattle.snf_steps.specs.Stages.{Triple, Outcome}
use Rattle.snf_steps.specs.Finalize.{finalize}
use Rattle.snf_steps.proofs.Accepted.{Accepted, accepted, overflowed, accepted-both}
use Rattle.snf_steps.proofs.FittingEntries.{given-fits}
use Rattle.snf_steps.proofs.Halving.{halved}
use Rattle.snf_steps.proofs.Clearing.{first-not-zero}
use Rattle.snf_steps.proofs.Divisions.{few-steps}
use Rattle.snf_steps.proofs.Keeping.{Sound, kept-regular, second-pivot-divides}
use Rattle.snf_steps.proofs.Falling.{FirstFalls, first-proper, second-proper, proper-half}
use Rattle.snf3x3.specs.declared.Snf.{Snf}
use Rattle.snf3x3.specs.Snf3x3.{Answer, refused, diagonalised, answer, round, after, rounds, begun, diagonalise, snf3x3}
use Rattle.snf3x3.specs.Written.{written}
use Rattle.snf3x3.specs.FewRounds.{RoundsWithin, Given, FewRounds}
use Rattle.snf3x3.proofs.Diagonal.{begun-sound}
use Rattle.snf3x3.proofs.FailedRound.{by-test, FirstFailed, SecondFailed, Left, by-stage, round-left, round-falls, block_falls, pivot-falls}

-- ---- an answer of at most N rounds, or refusal 1, 3 or 4
abbrev pub Within : ℕ → Answer → Type 0
Within N (refused r) = Given r
Within N (diagonalised d p q n) = n ≤ N

by-overflow : Given Overflow
by-overflow = inr (inr refl)

-- none of these is 2
never-two : {r : Refusal} → Given r → r ≡ NotConverged → ⊥
never-two {r} g e =
    ⊎_elim (λ s. apart 1 (ap number_of s) (λ f. omega arith)) (λ h. ⊎_elim (λ s. apart 3 (ap number_of s) (λ f. omega arith)) (λ s. apart 4 (ap number_of s) (λ f. omega arith)) h) g
  where
    apart : (n : ℕ) → number_of r ≡ n → (2 ≡ n → ⊥) → ⊥
    apart n s f = f (sym (ap number_of e) ∙ s)

-- 1 and -1 divide everything
unit-divides : (d z : ℤ) → nat_abs d < 2 → zero < nat_abs d → Divides d z
unit-divides d z h l = let e : nat_abs d ≡ 1 = omega arith in record { times = z *ℤ d; is = sym (*ℤ-assoc z d d ∙ ap (λ x. z *ℤ x) (unit-square d e) ∙ *ℤ-1 z) }

-- ---- rounds without an answer
answer-within : (n N : ℕ) (m : Option Triple) → n ≤ N → Within N (answer n m)
answer-within n N (Some s) h = h
answer-within n N None h = by-overflow

within_more : {M N : ℕ} (a : Answer) → M ≤ N → Within M a → Within N a
within_more (refused x) h w = w
within_more (diagonalised d p q n) h w = le_trans w h

after-within : {P : Outcome → Type 0} (n N : ℕ) (more : Triple → Answer) {m : Option Outcome} → n ≤ N → Accepted P m
    → ((o : Outcome) → T (not o.done) → P o → Within N (more o.left)) → Within N (after n more m)
after-within n N more l overflowed f = by-overflow
after-within n N more l (accepted {x = o} p) f =
    pick-cases o.done (answer n (finalize o.left)) (more o.left) (Within N) (λ _. answer-within n N (finalize o.left) l) (λ u. f o u p)

module _ (A : Mat ℤ) (r : Regular A) (D : nat_abs (det A) < 2 ^ 63) where
  -- ---- the second stage
  second-ends : (k m n : ℕ) (s : Triple) → SecondFailed A s → nat_abs s.a.e < 2 ^ suc k → k ≤ m → Within (n + k) (rounds m n s)
  unfolding rounds
  second-ends zero m n s p h l = absurd (p.uneven (unit-divides s.a.e s.a.h h p.pivot.nonzero))
  second-ends (suc k) zero n s p h l = absurd (omega arith)
  second-ends (suc k) (suc m) n s p h l =
      subst (λ (N : ℕ). Within N (after (suc n) (rounds m (suc n)) (round s))) (shift n k)
      (after-within (suc n) (suc n + k) (rounds m (suc n)) (omega arith) (block_falls A r s p.pivot.sound p.pivot.block) (λ o u q.
      second-ends k m (suc n) o.left (record { pivot = q.0.pivot; uneven = q.0.uneven u })
      (halved (suc k) (nat_abs s.a.e) (nat_abs o.left.a.e) (proper-half (second-proper q.1 p.pivot.nonzero p.uneven)) h) (omega arith)))
    where
      shift : (n k : ℕ) → suc n + k ≡ n + suc k
      shift n k = omega arith

  second-size : (s : Triple) → SecondFailed A s → nat_abs s.a.e < 2 ^ 63
  second-size s p = lt_of_le_of_lt (divides-le (second-pivot-divides A p.pivot) r.nonzero) D

  -- from a failed second stage on, at most 62 rounds more
  second-rest : (m n N : ℕ) (s : Triple) → SecondFailed A s → 62 ≤ m → n + 62 ≤ N → Within N (rounds m n s)
  second-rest m n N s p l h = within_more (rounds m n s) h (second-ends 62 m n s p (second-size s p) l)

  -- ---- the first stage
  both : (s : Triple) → Sound A s → Accepted (λ o. Left A o × FirstFalls s o.left) (round s)
  both s v = accepted-both (round-left A r s v) (round-falls A r s v)

  first_ends : (k m n : ℕ) (s : Triple) → FirstFailed A s → nat_abs s.a.a < 2 ^ suc k → k + 62 ≤ m → Within (n + k + 62) (rounds m n s)
  unfolding rounds
  first_ends zero m n s p h l = absurd (p.uneven (unit-divides s.a.a s.a.d h p.pivot.nonzero) (unit-divides s.a.a s.a.g h p.pivot.nonzero))
  first_ends (suc k) zero n s p h l = absurd (omega arith)
  first_ends (suc k) (suc m) n s p h l =
      subst (λ (N : ℕ). Within N (after (suc n) (rounds m (suc n)) (round s))) (shift n k)
      (after-within (suc n) (suc n + k + 62) (rounds m (suc n)) (omega arith) (both s p.pivot.sound) (λ o u q. by-stage A o q.0 u
      (λ x. first_ends k m (suc n) o.left x (halved (suc k) (nat_abs s.a.a) (nat_abs o.left.a.a) (proper-half (first-proper q.1 p.pivot.nonzero p.uneven)) h) (omega arith))
      (λ x. second-rest m (suc n) (suc n + k + 62) o.left x (omega arith) (omega arith))))
    where
      shift : (n k : ℕ) → suc n + k + 62 ≡ n + suc k + 62
      shift n k = omega arith

  -- ---- the first round: its pivot divides the first column, of which one number is not 0
  first-size : (s t : Triple) → Sound A s → ((j k : Axis) → nat_abs (entry s.a j k) ≤ 1000000) → FirstFalls s t → nat_abs t.a.a < 2 ^ 20
  first-size s t v h f =
      let m = s.a in
      let of : (z : ℤ) → nat_abs z ≤ 1000000 → Divides t.a.a z → zero < nat_abs z → nat_abs t.a.a < 2 ^ 20 = λ z l d n. lt_of_le_of_lt (le_trans (divides-le d n) l) (lit< tt) in
      by-test (is_zero m.a)
      (λ x. by-test (is_zero m.d)
      (λ y. by-test (is_zero m.g)
      (λ z. absurd (first-not-zero m (kept-regular A r v.kept) (zero_test m.a x) (zero_test m.d y) (zero_test m.g z)))
      (λ z. of m.g (h Z X) f.bottom (nonzero-test m.g z)))
      (λ y. of m.d (h Y X) f.middle (nonzero-test m.d y)))
      (λ x. of m.a (h X X) f.top (nonzero-test m.a x))

  walk-within : (s : Triple) → Sound A s → ((j k : Axis) → nat_abs (entry s.a j k) ≤ 1000000) → Within 82 (rounds 100 0 s)
  unfolding rounds
  walk-within s v h =
      after-within 1 82 (rounds 99 1) (lit≤ tt) (both s v) (λ o u q. by-stage A o q.0 u
      (λ x. first_ends 19 99 1 o.left x (first-size s o.left v h q.1) (lit≤ tt))
      (λ x. second-rest 99 1 82 o.left x (lit≤ tt) (lit≤ tt)))

-- ---- the theorem
pub rounds-within : (A : Mat ℤ) → Within 82 (snf3x3 A)
unfolding snf3x3
rounds-within A =
    pick-cases (matrix_within 1000000 A) (diagonalise A) (refused OutsideLimits) (Within 82)
    (λ t. pick-cases (is_zero (det A)) (refused Singular) (rounds 100 0 (begun A)) (Within 82)
    (λ _. inl refl)
    (λ u. walk-within A (record { nonzero = nonzero-test (det A) u }) (lt_of_le_of_lt (det-size A (matrix-sizes 1000000 A t)) (lit< tt)) (begun A) (begun-sound A (given-fits A t)) (matrix-sizes 1000000 A t)))
    (λ _. inr (inl refl))

pub few-rounds : FewRounds
few-rounds = record {
  at-most-82 = λ A d P Q n e. subst (Within 82) e (rounds-within A);
  never-two = λ A e. never-two (subst (Within 82) e (rounds-within A)) refl;
  at-most-127 = λ a b f g. let l = few-steps a b (fits-size b g) in omega arith;
  pivot-falls = pivot-falls;
}

-- ---- of what the call returns
written-within : (w : Answer) → Within 82 w → RoundsWithin 82 (written w)
written-within (refused x) h = record { rounds = tt; converges = λ e. never-two h cc }
written-within (diagonalised d P Q n) h = record { rounds = le→leb n 82 h; converges = λ e. subst refusal (sym e) tt }
  where
    refusal : Result Snf Refusal → Type 0
    refusal (Ok s) = ⊥
    refusal (Err r) = Unit {0}

pub call_within : (A : Mat ℤ) → RoundsWithin 82 (written (snf3x3 A))
call_within A = written-within (snf3x3 A) (rounds-within A)
