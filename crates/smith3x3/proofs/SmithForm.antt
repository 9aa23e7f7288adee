-- The theorem: an accepted answer of smith3x3 is the Smith form, its diagonal is the only one, and a refusal is 1, 3 or 4.
use mathlib.Core.Path.{◌≡◌, refl, sym, ◌∙◌, ap, ap₂, subst}
use mathlib.Core.Bool.{◌&&◌, cond}
use mathlib.Core.Logic.{inr}
use Prim.Native.Nat.{ℕ, zero, ◌<◌}
use native.Mathlib.Nat.{mul-pos}
use lib.Dec.{T_not}
use lib.IntN.{ℤ, pos, nat_abs, ◌*ℤ◌}
use Rattle.std.specs.Prelude.{Option, Some, Result}
use Rattle.integer.specs.Checked.{is_zero}
use Rattle.integer.proofs.Test.{pick-cases}
use Rattle.integer.proofs.Size.{test-nonzero}
use Rattle.common.specs.declared.Refusal.{Refusal}
use Rattle.common.specs.declared.Refusal.TheVariants.{Singular, Overflow}
use Rattle.common.specs.Matrix.{Vec, Mat, side, ◌·◌, det, diagonal}
use Rattle.common.specs.IntegerMatrix.{product_fits, det_fits}
use Rattle.common.proofs.Matrix.{product-assoc, det-product, det-diagonal}
use Rattle.common.proofs.Unimodular.{unimodular-product}
use Rattle.snf_steps.specs.Then.{◌then◌}
use Rattle.snf_steps.specs.Stages.{Triple, through, second}
use Rattle.snf_steps.specs.Finalize.{finalize}
use Rattle.snf_steps.proofs.Accepted as steps
use Rattle.snf_steps.proofs.Accepted.{accepted, overflowed}
use Rattle.snf_steps.proofs.FittingEntries.{Fits}
use Rattle.snf_steps.proofs.Settled.{first-kept, second-kept}
use Rattle.snf_steps.proofs.Ordering.{naturals, Numbers}
use Rattle.snf_steps.proofs.FinalNumbers.{Under, Chain, finalize-chain}
use Rattle.snf3x3.specs.Snf3x3 as first
use Rattle.snf3x3.specs.Snf3x3.{answer, round, after, rounds, begun, diagonalise, snf3x3, snf3x3_unlimited}
use Rattle.snf3x3.proofs.Diagonal as diagonal
use Rattle.snf3x3.specs.Diagonalises.{Diagonalises}
use Rattle.snf3x3.proofs.Signs.{naturals-positive, det-q-sign}
use Rattle.snf3x3.proofs.Diagonal.{answers-right, unlimited-answers-right, snf3x3-by, finalize-numbers}
use Rattle.snf3x3.specs.FewRounds.{Given}
use Rattle.snf3x3.proofs.FewRounds.{Within, rounds-within}
use Rattle.smith3x3.specs.Smith3x3.{Answer, refused, divided, joined, again, smith3x3}
use Rattle.smith3x3.specs.declared.Smith.{Smith}
use Rattle.smith3x3.specs.Written.{written, Promised}
use Rattle.smith3x3.specs.Factors.{Factors, Brings, SmithForm}
use Rattle.smith3x3.proofs.Unique.{factors-unique}

-- ---- the numbers of an answer of snf3x3
pub record Told (R : (x y z : ℕ) → Type 0) (d : Vec ℤ) : Type 0 where
  pub x : ℕ
  pub y : ℕ
  pub z : ℕ
  pub so : R x y z
  pub is : d ≡ naturals x y z
  pub fits : Fits (diagonal d)

-- S says what is refused
abbrev pub Tells : (S : Refusal → Type 0) (R : (x y z : ℕ) → Type 0) → first.Answer → Type 0
Tells S R (first.refused r) = S r
Tells S R (first.diagonalised d p q n) = Told R d

answer-tells : (S : Refusal → Type 0) {R : (x y z : ℕ) → Type 0} (n : ℕ) {m : Option Triple} → S Overflow → steps.Accepted (Numbers R) m → Tells S R (answer n m)
answer-tells S n o overflowed = o
answer-tells S n o (accepted {x = s} k) =
    let e = k.shows.is in
    let same = ap {B = Vec ℤ} (λ (m : Mat ℤ). record { x = m.a; y = m.e; z = m.i }) e in
    record { x = k.x; y = k.y; z = k.z; so = k.so; is = same; fits = subst Fits (e ∙ sym (ap diagonal same)) k.shows.fits }

-- the first call: the last number is a multiple of both others
pub first-tells : (A : Mat ℤ) → Tells (λ _. Unit {0}) Under (snf3x3 A)
first-tells A = snf3x3-by A (Tells (λ _. Unit {0}) Under) (λ _. tt) (λ r n s v. answer-tells (λ _. Unit {0}) n tt (finalize-numbers A r s v))

-- ---- the second call is through in one round
diagonal-round : (d : Vec ℤ) → round (begun (diagonal d)) ≡ through (begun (diagonal d))
unfolding round
diagonal-round d =
    let s = begun (diagonal d) in
    ap (λ r. r then λ o. cond o.done (second o.left) (Some o)) (first-kept s refl refl refl refl) ∙ second-kept s refl refl

diagonal-rounds : (d : Vec ℤ) → rounds 100 0 (begun (diagonal d)) ≡ answer 1 (finalize (begun (diagonal d)))
unfolding rounds
diagonal-rounds d = ap (after 1 (rounds 99 1)) (diagonal-round d)

module _ (d : Vec ℤ) (k : Told Under d) where
  second-by : (R : first.Answer → Type 0) → R (first.refused Overflow) → R (answer 1 (finalize (begun (diagonal d)))) → R (snf3x3_unlimited (diagonal d))
  unfolding snf3x3_unlimited
  second-by R o h =
      let m = diagonal d in
      pick-cases (det_fits m) (diagonalise m) (first.refused Overflow) R
      (λ _. pick-cases (is_zero (det m)) (first.refused Singular) (rounds 100 0 (begun m)) R
      (λ t. absurd (T_not (is_zero (det m)) (test-nonzero (det m) regular) t))
      (λ _. subst R (sym (diagonal-rounds d)) h))
      (λ _. o)
    where
      regular : zero < nat_abs (det (diagonal d))
      regular =
          subst (λ (v : Vec ℤ). zero < nat_abs (det (diagonal v))) (sym k.is)
          (subst (λ (z : ℤ). zero < nat_abs z) (sym (det-diagonal (side (naturals k.x k.y k.z)))) (mul-pos (mul-pos k.so.positive-x k.so.positive-y) k.so.positive-z))

  -- each number divides the next, and the only refusal is 4
  second-tells : Tells (λ r. r ≡ Overflow) Chain (snf3x3_unlimited (diagonal d))
  second-tells =
      second-by (Tells (λ r. r ≡ Overflow) Chain) refl
      (answer-tells (λ r. r ≡ Overflow) 1 refl (finalize-chain (begun (diagonal d)) (record { x = k.x; y = k.y; z = k.z; so = k.so; shows = record { is = ap diagonal k.is; fits = k.fits } })))

-- ---- the join
chain-factors : {d : Vec ℤ} → Told Chain d → Factors d
chain-factors k =
    let c = k.so in
    subst Factors (sym k.is) (record { positive = naturals-positive c.positive-x c.positive-y c.positive-z; first = c.first; second = c.second })

abbrev Right : Mat ℤ → Answer → Type 0
Right A (refused r) = Given r
Right A (divided d P Q) = SmithForm A d P Q

module _ (A : Mat ℤ) where
  form : {d e : Vec ℤ} {P Q P' Q' : Mat ℤ} → Diagonalises A d P Q → Diagonalises (diagonal d) e P' Q' → Told Chain e → SmithForm A e (P' · P) (Q · Q')
  form {d} {e} {P} {Q} {P'} {Q'} f s c = record { brings = brings; det-p = one; det-q = det-q-sign A (P' · P) (Q · Q') brings.product one brings.unit-q factors.positive; factors = factors; only = λ d' P' Q' b g. factors-unique b brings g factors }
    where
      one : det (P' · P) ≡ pos 1
      one = det-product P' P ∙ ap₂ ◌*ℤ◌ s.det-p f.det-p

      factors : Factors e
      factors = chain-factors c

      brings : Brings A (P' · P) (Q · Q') (diagonal e)
      brings = record {
        product = ap (λ m. m · (Q · Q')) (product-assoc P' P A) ∙ sym (product-assoc (P' · (P · A)) Q Q')
            ∙ ap (λ m. m · Q') (product-assoc P' (P · A) Q ∙ ap (λ m. P' · m) f.product) ∙ s.product;
        unit-p = ap nat_abs one;
        unit-q = (unimodular-product f.unimodular-q s.unimodular-q).unit;
      }

  joined-right : {d : Vec ℤ} {P Q : Mat ℤ} → Diagonalises A d P Q → (w : first.Answer) → diagonal.Right (diagonal d) w → Tells (λ r. r ≡ Overflow) Chain w → Right A (joined P Q w)
  joined-right f (first.refused r) s c = inr (inr c)
  joined-right {P = P} {Q = Q} f (first.diagonalised e P' Q' n) s c =
      pick-cases (product_fits P' P && product_fits Q Q') (divided e (P' · P) (Q · Q')) (refused Overflow) (Right A) (λ _. form f s c) (λ _. inr (inr refl))

  again-right : (w : first.Answer) → diagonal.Right A w → Tells (λ _. Unit {0}) Under w → Within 82 w → Right A (again w)
  again-right (first.refused r) f k g = g
  again-right (first.diagonalised d P Q n) f k g = joined-right f (snf3x3_unlimited (diagonal d)) (unlimited-answers-right (diagonal d) k.fits) (second-tells d k)

  answer-right : Right A (smith3x3 A)
  unfolding smith3x3
  answer-right = again-right (snf3x3 A) (answers-right A) (first-tells A) (rounds-within A)

  -- the theorem, of what the call returns
  returned : (w : Answer) → Right A w → Promised A (written w)
  returned (refused r) f = record { form = tt; refusals = f }
  returned (divided d P Q) f = record { form = f; refusals = tt }

  pub promised : (r : Result Smith Refusal) → r ≡ written (smith3x3 A) → Promised A r
  promised r e = subst (Promised A) (sym e) (returned (smith3x3 A) answer-right)
