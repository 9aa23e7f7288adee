-- `reciprocal_group`, the reciprocal step of the chain: `reciprocal_rotations` of a list that must be a group as given. Its tests, and
-- its answer with the output, which has n places, as one outcome.
use Rattle.std.specs.Prelude.{Bool, true, List, ℕ, ℤ}
use Rattle.common.specs.Array.{matrices}
use Rattle.common.specs.Tested.{require, after, Tested, Accepted}
use Rattle.common.specs.declared.Refusal.TheVariants.{NotGroup}
use Rattle.recip_rotations.specs.PointGroup.{input_tests, room_tests, point_group, group_outcome, PointGroup}
use Rattle.rotation_group.specs.Group.{is_group}

-- of the list as given: lengths and limits, then whether it is a group
unfoldable pub given_tests : List ℤ → ℕ → Tested
unfolding input_tests is_group
given_tests rotations n = after (input_tests rotations n) (require (is_group (matrices rotations)) NotGroup Accepted)

module _ (rotations : List ℤ) (time_reversal : Bool) (n : ℕ) where
  unfoldable pub reciprocal_tests : Tested
  unfolding given_tests room_tests
  reciprocal_tests = after (given_tests rotations n) (room_tests (matrices rotations) time_reversal true)

  unfoldable pub reciprocal_group : PointGroup
  unfolding reciprocal_tests point_group
  reciprocal_group = group_outcome reciprocal_tests (point_group (matrices rotations) time_reversal true) n
