-- An accepted list is a group, and the tests are then those of `reciprocal_rotations`: demand 3 asks nothing more of the list.
use mathlib.Core.Path.{◌≡◌, sym, ◌∙◌, ap}
use mathlib.Core.Bool.{Bool, true}
use mathlib.Core.List.{List}
use Prim.Native.Nat.{ℕ}
use lib.IntN.{ℤ}
use Rattle.integer.proofs.Test.{holds}
use Rattle.common.specs.Array.{matrices}
use Rattle.common.specs.Tested.{require, after, Accepted}
use Rattle.common.specs.declared.Refusal.TheVariants.{NotGroup}
use Rattle.common.proofs.Tests.{passed, both-accepted}
use Rattle.grgrid.proofs.MatrixGroup.{MatrixGroup}
use Rattle.recip_rotations.specs.PointGroup.{with_negatives, input_tests, room_tests, group_tests}
use Rattle.recip_rotations.proofs.Told.{joined-group}
use Rattle.rotation_group.specs.Group.{is_group}
use Rattle.rotation_group.specs.ReciprocalGroup.{given_tests, reciprocal_tests}
use Rattle.rotation_group.proofs.IsGroup.{group_of}

pub given-accepted : (rotations : List ℤ) (n : ℕ) → given_tests rotations n ≡ Accepted → (input_tests rotations n ≡ Accepted) × (is_group (matrices rotations) ≡ true)
unfolding given_tests
given-accepted rotations n e =
    let a = both-accepted (input_tests rotations n) (require (is_group (matrices rotations)) NotGroup Accepted) e in
    (a.0, (passed (is_group (matrices rotations)) NotGroup Accepted a.1).0)

module _ (rotations : List ℤ) (time : Bool) (n : ℕ) where
  -- where the list as given is accepted, the test for a group changes nothing
  pub same_tests : given_tests rotations n ≡ Accepted → reciprocal_tests rotations time n ≡ group_tests rotations time true n
  unfolding reciprocal_tests group_tests
  same_tests e = ap (λ t. after t (room_tests (matrices rotations) time true)) (e ∙ sym (given-accepted rotations n e).0)

  module _ (e : reciprocal_tests rotations time n ≡ Accepted) where
    pub given : given_tests rotations n ≡ Accepted
    unfolding reciprocal_tests
    given = (both-accepted (given_tests rotations n) (room_tests (matrices rotations) time true) e).0

    pub accepted-group : MatrixGroup (matrices rotations)
    accepted-group = group_of (matrices rotations) (holds (given-accepted rotations n given).1)

    -- what demand 3 asks of the list
    pub accepted-joined : MatrixGroup (with_negatives time (matrices rotations))
    accepted-joined = joined-group time accepted-group

    pub accepted-call : group_tests rotations time true n ≡ Accepted
    accepted-call = sym (same_tests given) ∙ e
