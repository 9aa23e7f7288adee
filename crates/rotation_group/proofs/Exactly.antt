-- Refusal 18 is given exactly to a list within the limits that is no group.
use mathlib.Core.Path.{◌≡◌, refl, sym, ap, ap₂}
use mathlib.Core.Logic.{◌↔◌, ◌⊎◌, inl, inr, ⊎_elim}
use mathlib.Core.Bool.{Bool, true, false, not, ◌||◌}
use mathlib.Core.List.{List}
use Prim.Native.Nat.{ℕ}
use native.Mathlib.Omega.{arith}
use lib.Dec.{T, leb, eqb, not_T}
use lib.IntN.{ℤ}
use lib.ListN.{length}
use Rattle.std.specs.Prelude.{Ok, Err}
use Rattle.integer.proofs.Test.{is_false}
use Rattle.common.specs.Array.{matrices}
use Rattle.common.specs.Limits.{whole_matrices, rotations_fit}
use Rattle.common.specs.Refusal.{number_of}
use Rattle.common.specs.Tested.{require, after, Tested, Accepted}
use Rattle.common.specs.declared.Refusal.{Refusal}
use Rattle.common.specs.declared.Refusal.TheVariants.{OutsideLimits, TooManyRotations, TooManyForInversion, WrongLength, NotGroup}
use Rattle.common.proofs.Tests.{not-accepted, same-refusal}
use Rattle.grgrid.proofs.MatrixGroup.{MatrixGroup}
use Rattle.recip_rotations.specs.Unique.{unique}
use Rattle.recip_rotations.specs.PointGroup.{transposed_if, joins, join_tests, input_tests, room_tests}
use Rattle.rotation_group.specs.Group.{is_group}
use Rattle.rotation_group.specs.ReciprocalGroup.{given_tests, reciprocal_tests}
use Rattle.rotation_group.proofs.IsGroup.{group_of, of-group}

-- ---- tests with other refusals
-- a test that gives r, where r is not 18, and the tests after it do not give 18
module _ (t : Bool) (r : Refusal) (rest : Tested) (other : number_of r ≡ 18 → ⊥) where
  never-by : (rest ≡ Err NotGroup → ⊥) → require t r rest ≡ Err NotGroup → ⊥
  never-by h e = go t e
    where
      go : (t : Bool) → require t r rest ≡ Err NotGroup → ⊥
      go true e = h e
      go false e = other (ap number_of (same-refusal e))

accepts : Accepted ≡ Err NotGroup → ⊥
accepts e = not-accepted (sym e)

first-refused : (s t : Tested) → after s t ≡ Err NotGroup → (s ≡ Err NotGroup) ⊎ ((s ≡ Accepted) × (t ≡ Err NotGroup))
first-refused (Ok _) t e = inr (refl, e)
first-refused (Err r) t e = inl e

input-never : (l : List ℤ) (n : ℕ) → input_tests l n ≡ Err NotGroup → ⊥
unfolding input_tests
input-never l n =
    never-by (whole_matrices l) WrongLength _ (λ z. omega arith)
    (never-by (eqb n 432) WrongLength _ (λ z. omega arith)
    (never-by (rotations_fit 100000 l) OutsideLimits Accepted (λ z. omega arith) accepts))

-- ---- the theorem
module _ (l : List ℤ) (time : Bool) (n : ℕ) where
  room-never : room_tests (matrices l) time true ≡ Err NotGroup → ⊥
  unfolding room_tests
  room-never =
      let u = transposed_if true (unique (matrices l)) in
      never-by (leb (length (unique (matrices l))) 48) TooManyRotations (join_tests time u) (λ z. omega arith)
      (never-by (not (joins time u) || leb (length u) 24) TooManyForInversion Accepted (λ z. omega arith) accepts)

  test-fails : require (is_group (matrices l)) NotGroup Accepted ≡ Err NotGroup → ¬ MatrixGroup (matrices l)
  test-fails e m = go (is_group (matrices l)) (of-group (matrices l) m) e
    where
      go : (t : Bool) → T t → require t NotGroup Accepted ≡ Err NotGroup → ⊥
      go true h e = accepts e
      go false h e = absurd h

  given-fails : given_tests l n ≡ Err NotGroup → (input_tests l n ≡ Accepted) × ¬ MatrixGroup (matrices l)
  unfolding given_tests
  given-fails e =
      ⊎_elim (λ i. absurd (input-never l n i)) (λ p. (p.0, test-fails p.1))
      (first-refused (input_tests l n) (require (is_group (matrices l)) NotGroup Accepted) e)

  pub refused-fails : reciprocal_tests l time n ≡ Err NotGroup → (input_tests l n ≡ Accepted) × ¬ MatrixGroup (matrices l)
  unfolding reciprocal_tests
  refused-fails e = ⊎_elim given-fails (λ p. absurd (room-never p.1)) (first-refused (given_tests l n) (room_tests (matrices l) time true) e)

  pub fails-refused : (input_tests l n ≡ Accepted) × ¬ MatrixGroup (matrices l) → reciprocal_tests l time n ≡ Err NotGroup
  unfolding reciprocal_tests given_tests
  fails-refused h =
      let f = is_false (is_group (matrices l)) (not_T (is_group (matrices l)) (λ t. h.1 (group_of (matrices l) t))) in
      ap₂ (λ s b. after (after s (require b NotGroup Accepted)) (room_tests (matrices l) time true)) h.0 f

  pub refused-exactly : (reciprocal_tests l time n ≡ Err NotGroup) ↔ (input_tests l n ≡ Accepted) × ¬ MatrixGroup (matrices l)
  refused-exactly = (refused-fails, fails-refused)
