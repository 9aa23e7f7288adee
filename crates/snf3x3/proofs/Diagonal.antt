-- The theorem: an accepted answer of snf3x3 is as `Diagonalises` says.
use mathlib.Core.Path.{◌≡◌, refl, sym, ◌∙◌, ap, subst}
use Prim.Native.Nat.{ℕ, zero, suc, ◌<◌}
use lib.Dec.{T, T_not}
use lib.IntN.{ℤ, pos, nat_abs}
use lib.Signed.{◌<ℤ◌}
use Rattle.std.specs.Prelude.{Option, Some, Result, IfOk, cond}
use Rattle.integer.specs.Checked.{is_zero}
use Rattle.integer.proofs.Test.{pick-cases}
use Rattle.integer.proofs.Size.{nonzero-test}
use Rattle.common.specs.declared.Refusal.{Refusal}
use Rattle.common.specs.declared.Refusal.TheVariants.{Singular, NotConverged, OutsideLimits, Overflow}
use Rattle.common.specs.Matrix.{Axis, X, Y, Z, Vec, Mat, side, entry, ◌·◌, det, diagonal, identity, transpose, Unimodular}
use Rattle.common.specs.Array.{vector_of, matrix_at}
use Rattle.common.specs.IntegerMatrix.{det_fits}
use Rattle.common.proofs.Matrix.{identity-product, product-identity}
use Rattle.common.proofs.Unimodular.{Regular, unimodular-transpose}
use Rattle.snf_steps.specs.Stages.{Triple, Outcome, second}
use Rattle.snf_steps.specs.Finalize.{finalize}
use Rattle.common.specs.Limits.{matrix_within}
use Rattle.snf3x3.specs.Snf3x3.{Answer, refused, diagonalised, answer, round, after, rounds, begun, diagonalise, snf3x3, snf3x3_unlimited}
use Rattle.snf3x3.specs.declared.Snf.{Snf}
use Rattle.snf3x3.specs.Written.{written}
use Rattle.snf3x3.specs.Diagonalises.{Diagonalises}
use Rattle.snf_steps.proofs.Accepted.{Accepted, accepted, overflowed, accepted-bind, accepted-map, accepted-pick, accepted-both}
use Rattle.snf_steps.proofs.FittingEntries.{Fits, given-fits}
use Rattle.snf_steps.proofs.Keeping.{IsDiagonal, Sound, first-leaves, second-leaves}
use Rattle.snf_steps.proofs.Disturbance.{SoundDiagonal}
use Rattle.snf_steps.proofs.Ending.{Finalized, finalize-ends, diagonal-nonzero}
use Rattle.snf_steps.proofs.Ordering.{Numbers}
use Rattle.snf_steps.proofs.FinalNumbers.{Under, finalize-under}
use Rattle.snf3x3.proofs.Signs.{naturals-positive, det-q-sign}

-- nothing is said of a refusal
abbrev pub Right : Mat ℤ → Answer → Type 0
Right A (refused r) = Unit {0}
Right A (diagonalised d P Q n) = Diagonalises A d P Q

pub begun-sound : (A : Mat ℤ) → Fits A → Sound A (begun A)
begun-sound A f = record {
  kept = record { product = sym (product-identity (identity · A) ∙ identity-product A); unimodular-p = record { unit = refl }; unimodular-q = record { unit = refl } };
  fits = f;
}

-- what a round leaves
pub record RoundLeft (A : Mat ℤ) (o : Outcome) : Type 0 where
  pub sound : Sound A o.left
  pub diagonal : T o.done → IsDiagonal o.left.a

pub round-leaves : (A : Mat ℤ) → Regular A → (s : Triple) → Sound A s → Accepted (RoundLeft A) (round s)
unfolding round
round-leaves A r s v =
    accepted-bind (λ o. cond o.done (second o.left) (Some o)) (first-leaves A r s v) (λ o w.
    accepted-pick o.done (second o.left) (Some o)
    (λ t. accepted-map (second-leaves A r o.left w.pivot.sound (w.block t)) (λ u x. record { sound = x.pivot.sound; diagonal = x.diagonal }))
    (λ n. accepted (record { sound = w.pivot.sound; diagonal = λ t. absurd (T_not o.done n t) })))

-- what holds of every refusal and of every diagonal that is finalized holds of the walk's answer
module _ (A : Mat ℤ) (R : Answer → Type 0) (refusal : (r : Refusal) → R (refused r))
    (ended : Regular A → (n : ℕ) (s : Triple) → SoundDiagonal A s → R (answer n (finalize s))) where
  after-by : Regular A → (n : ℕ) (more : Triple → Answer) {m : Option Outcome} → ((s : Triple) → Sound A s → R (more s)) → Accepted (RoundLeft A) m → R (after n more m)
  after-by r n more f overflowed = refusal Overflow
  after-by r n more f (accepted {x = o} v) =
      pick-cases o.done (answer n (finalize o.left)) (more o.left) R
      (λ t. ended r n o.left (record { sound = v.sound; diagonal = v.diagonal t }))
      (λ _. f o.left v.sound)

  rounds-by : Regular A → (m n : ℕ) (s : Triple) → Sound A s → R (rounds m n s)
  unfolding rounds
  rounds-by r zero n s v = refusal NotConverged
  rounds-by r (suc m) n s v = after-by r (suc n) (rounds m (suc n)) (rounds-by r m (suc n)) (round-leaves A r s v)

  pub diagonalise-by : Fits A → R (diagonalise A)
  diagonalise-by f =
      pick-cases (is_zero (det A)) (refused Singular) (rounds 100 0 (begun A)) R
      (λ _. refusal Singular)
      (λ u. rounds-by (record { nonzero = nonzero-test (det A) u }) 100 0 (begun A) (begun-sound A f))

  pub snf3x3-by : R (snf3x3 A)
  unfolding snf3x3
  snf3x3-by = pick-cases (matrix_within 1000000 A) (diagonalise A) (refused OutsideLimits) R (λ t. diagonalise-by (given-fits A t)) (λ _. refusal OutsideLimits)

  pub unlimited-by : Fits A → R (snf3x3_unlimited A)
  unfolding snf3x3_unlimited
  unlimited-by f = pick-cases (det_fits A) (diagonalise A) (refused Overflow) R (λ _. diagonalise-by f) (λ _. refusal Overflow)

-- ---- the theorem
module _ (A : Mat ℤ) where
  -- the numbers that `finalize` leaves: positive, and the last is a multiple of both others
  pub finalize-numbers : Regular A → (s : Triple) → SoundDiagonal A s → Accepted (Numbers Under) (finalize s)
  finalize-numbers r s v = finalize-under v.diagonal.numbers s (nonzero X) (nonzero Y) (nonzero Z) (record { is = v.diagonal.is; fits = v.sound.fits })
    where
      nonzero : (k : Axis) → zero < nat_abs (entry (diagonal v.diagonal.numbers) k k)
      nonzero k = subst (λ (m : Mat ℤ). zero < nat_abs (entry m k k)) v.diagonal.is (diagonal-nonzero A r v k)

  answer-right : (n : ℕ) {m : Option Triple} → Accepted (λ s. Finalized A s × Numbers Under s) m → Right A (answer n m)
  answer-right n overflowed = tt
  answer-right n (accepted {x = s} w) = record { product = product; det-p = f.det-p; unimodular-q = unimodular; det-q = det-q-sign A s.p (transpose s.q) product f.det-p unimodular.unit positive; positive = positive }
    where
      f : Finalized A s
      f = w.0

      k : Numbers Under s
      k = w.1

      d : Mat ℤ → Vec ℤ
      d m = record { x = m.a; y = m.e; z = m.i }

      product : s.p · A · transpose s.q ≡ diagonal (d s.a)
      product = sym f.product ∙ f.diagonal.is ∙ sym (ap (λ m. diagonal (d m)) f.diagonal.is)

      unimodular : Unimodular (transpose s.q)
      unimodular = unimodular-transpose f.unimodular-q

      positive : (j : Axis) → pos 0 <ℤ side (d s.a) j
      positive = subst (λ (m : Mat ℤ). (j : Axis) → pos 0 <ℤ side (d m) j) (sym k.shows.is) (naturals-positive k.so.positive-x k.so.positive-y k.so.positive-z)

  finalize-right : Regular A → (n : ℕ) (s : Triple) → SoundDiagonal A s → Right A (answer n (finalize s))
  finalize-right r n s v = answer-right n (accepted-both (finalize-ends A r s v) (finalize-numbers r s v))

  pub answers-right : Right A (snf3x3 A)
  answers-right = snf3x3-by A (Right A) (λ _. tt) finalize-right

  pub diagonalised-right : (d : Vec ℤ) (P Q : Mat ℤ) (n : ℕ) → snf3x3 A ≡ diagonalised d P Q n → Diagonalises A d P Q
  diagonalised-right d P Q n e = subst (Right A) e answers-right

  -- of what the call returns
  abbrev pub Returned : Result Snf Refusal → Type 0
  Returned r = IfOk r (λ s. Diagonalises A (vector_of s.d_diag) (matrix_at s.p 0) (matrix_at s.q 0))

  pub returned : Returned (written (snf3x3 A))
  returned = by (snf3x3 A) answers-right
    where
      by : (w : Answer) → Right A w → Returned (written w)
      by (refused x) h = tt
      by (diagonalised d P Q n) h = h

  pub unlimited-answers-right : Fits A → Right A (snf3x3_unlimited A)
  unlimited-answers-right f = unlimited-by A (Right A) (λ _. tt) finalize-right f
