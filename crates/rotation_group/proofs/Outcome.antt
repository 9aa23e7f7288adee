-- The outcome of `reciprocal_group`: a refusal of the list as given, or the outcome of `reciprocal_rotations`, places and all.
use mathlib.Core.Path.{◌≡◌, sym, ◌∙◌, ap}
use mathlib.Core.Bool.{Bool, true}
use mathlib.Core.List.{List}
use Prim.Native.Nat.{ℕ, ◌≤◌}
use lib.IntN.{ℤ, negsuc}
use lib.ListN.{length, replicate}
use Rattle.std.specs.Prelude.{Ok, Err}
use Rattle.common.specs.Matrix.{Mat}
use Rattle.common.specs.Array.{matrices}
use Rattle.common.specs.Tested.{after, Accepted}
use Rattle.common.specs.declared.Refusal.{Refusal}
use Rattle.recip_rotations.specs.PointGroup.{room_tests, point_group, count_of, group_outcome, get_reciprocal_point_group}
use Rattle.recip_rotations.proofs.Answered.{was-accepted, was-refused}
use Rattle.recip_rotations.proofs.Room.{count-few}
use Rattle.rotation_group.specs.ReciprocalGroup.{given_tests, reciprocal_tests, reciprocal_group}
use Rattle.rotation_group.proofs.Accepted.{same_tests, given}

module _ (l : List ℤ) (time : Bool) (n : ℕ) where
  abbrev group : List (Mat ℤ)
  group = point_group (matrices l) time true

  pub group-refused : {x : Refusal} → given_tests l n ≡ Err x → {blank : List ℤ} → blank ≡ replicate n (negsuc 0) → record { answer = Err x; out = blank } ≡ reciprocal_group l time n
  unfolding reciprocal_group reciprocal_tests
  group-refused {x} e b = (λ i. record { answer = Err x; out = b i }) ∙ ap (λ t. group_outcome (after t (room_tests (matrices l) time true)) group n) (sym e)

  pub group-told : given_tests l n ≡ Accepted → get_reciprocal_point_group l time true n ≡ reciprocal_group l time n
  unfolding reciprocal_group get_reciprocal_point_group
  group-told e = ap (λ t. group_outcome t group n) (sym (same_tests l time n e))

  -- ---- the tests, from the answer
  module _ {k : ℕ} (e : (reciprocal_group l time n).answer ≡ Ok k) where
    pub tests-accepted : reciprocal_tests l time n ≡ Accepted
    unfolding reciprocal_group
    tests-accepted = was-accepted (reciprocal_tests l time n) (length group) k (sym e)

    pub same_answer : (get_reciprocal_point_group l time true n).answer ≡ Ok k
    same_answer = ap (λ o. o.answer) (group-told (given l time n tests-accepted)) ∙ e

    pub same-written : (reciprocal_group l time n).out ≡ (get_reciprocal_point_group l time true n).out
    same-written = sym (ap (λ o. o.out) (group-told (given l time n tests-accepted)))

  pub tests-refused : {r : Refusal} → Err r ≡ (reciprocal_group l time n).answer → reciprocal_tests l time n ≡ Err r
  unfolding reciprocal_group
  tests-refused e = was-refused (reciprocal_tests l time n) (length group) e

  pub count_small : count_of (reciprocal_group l time n).answer ≤ 48
  unfolding reciprocal_group reciprocal_tests
  count_small = count-few (matrices l) time true (given_tests l n)
