-- From the outcome of `group_of` to the answer and the output of `get_reciprocal_point_group`; n is the output's length.
use mathlib.Core.Path.{◌≡◌, refl, sym, ◌∙◌, ap, subst}
use mathlib.Core.Bool.{Bool}
use mathlib.Core.List.{List}
use Prim.Native.Nat.{ℕ, ◌≤◌}
use lib.Dec.{T, leb, leb→le, eqb}
use lib.IntN.{ℤ, negsuc}
use lib.ListN.{length, replicate}
use borrow.Author.Tests.{eqb-true}
use Rattle.std.specs.Prelude.{Result, Ok, Err}
use Rattle.integer.proofs.Test.{holds, and_l, and_r}
use Rattle.common.specs.Matrix.{Mat}
use Rattle.common.specs.Array.{matrices}
use Rattle.common.specs.Limits.{all_within, whole_matrices, rotations_fit}
use Rattle.common.specs.Tested.{after, output_of, Tested, Accepted, giving}
use Rattle.common.specs.declared.Refusal.{Refusal}
use Rattle.common.specs.declared.Refusal.TheVariants.{OutsideLimits, WrongLength}
use Rattle.common.proofs.Tests.{passed}
use Rattle.recip_rotations.specs.Flat.{laid}
use Rattle.recip_rotations.specs.PointGroup.{room_tests, input_tests, group_tests, group_outcome}
use Rattle.recip_rotations.specs.Code.Steps.{Grouped}
use Rattle.recip_rotations.proofs.Outcomes.{refused}

-- the tests, from the answer
pub was-accepted : (t : Tested) (m k : ℕ) → Ok k ≡ giving t m → t ≡ Accepted
was-accepted (Ok _) m k e = refl
was-accepted (Err r) m k e = cc

pub was-refused : (t : Tested) (m : ℕ) {r : Refusal} → Err r ≡ giving t m → t ≡ Err r
was-refused (Ok _) m e = cc
was-refused (Err x) m e = cc

-- what accepted input is
pub input-accepted : (s : List ℤ) (n : ℕ) → input_tests s n ≡ Accepted → (n ≡ 432) × (length s ≤ 1728) × T (all_within 100000 s)
unfolding input_tests
input-accepted s n e =
    let a = passed (whole_matrices s) WrongLength _ e in
    let b = passed (eqb n 432) WrongLength _ a.1 in
    let f = holds (passed (rotations_fit 100000 s) OutsideLimits Accepted b.1).0 in
    (eqb-true n 432 b.0, leb→le (length s) 1728 (and_l (leb (length s) 1728) (all_within 100000 s) f), and_r (leb (length s) 1728) (all_within 100000 s) f)

module _ (s : List ℤ) (time t : Bool) (n : ℕ) where
  module _ {l : List (Mat ℤ)} {before out : List ℤ} where
    pub input-passed : {r : Result ℕ Refusal} → input_tests s n ≡ Accepted → Grouped (room_tests (matrices s) time t) l before out r → Grouped (group_tests s time t n) l before out r
    unfolding group_tests
    input-passed {r} e g = subst (λ q. Grouped (after q (room_tests (matrices s) time t)) l before out r) (sym e) g

    pub input-refused : {x : Refusal} → input_tests s n ≡ Err x → Grouped (group_tests s time t n) l before out (Err x)
    unfolding group_tests
    input-refused e = refused (ap (λ q. after q (room_tests (matrices s) time t)) e)

-- ---- the outcome, where a list was told and where it was refused
module _ (n : ℕ) {t : Tested} {l : List (Mat ℤ)} {out : List ℤ} {r : Result ℕ Refusal} (g : Grouped t l (replicate n (negsuc 0)) out r) where
  pub told : {k : ℕ} → r ≡ Ok k → record { answer = Ok k; out = out } ≡ group_outcome t l n
  told {k} e =
      let f = sym e ∙ g.answer in
      let a = was-accepted t (length l) k f in
      λ i. record { answer = f i; out = (g.held a ∙ sym (ap (λ t. output_of t n (laid l (replicate n (negsuc 0)))) a)) i }

  pub told-refused : {x : Refusal} → r ≡ Err x → {blank : List ℤ} → blank ≡ replicate n (negsuc 0) → record { answer = Err x; out = blank } ≡ group_outcome t l n
  told-refused e b =
      let f = sym e ∙ g.answer in
      λ i. record { answer = f i; out = (b ∙ sym (ap (λ t. output_of t n (laid l (replicate n (negsuc 0)))) (was-refused t (length l) f))) i }
