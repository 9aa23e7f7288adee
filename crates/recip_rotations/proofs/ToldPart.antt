-- The told part of the reciprocal call.
use mathlib.Core.Path.{◌≡◌, sym, ◌∙◌, ap, ap₂}
use mathlib.Core.Bool.{Bool}
use mathlib.Core.List.{List}
use Prim.Native.Nat.{ℕ, ◌*◌}
use lib.IntN.{ℤ, negsuc}
use lib.ListN.{length, take, replicate}
use lib.Seq.{take-append_seam}
use Rattle.std.specs.Prelude.{Ok}
use Rattle.common.specs.Matrix.{Mat}
use Rattle.common.specs.Array.{matrices, flat}
use Rattle.common.specs.Tested.{output_of, Accepted, giving}
use Rattle.common.proofs.Reading.{length-flat}
use Rattle.common.proofs.Tests.{same-ok}
use Rattle.recip_rotations.specs.Flat.{laid}
use Rattle.recip_rotations.specs.PointGroup.{group_tests, point_group, get_reciprocal_point_group}
use Rattle.recip_rotations.proofs.Answered.{was-accepted}

module _ (list : List ℤ) (time transposed : Bool) (n count : ℕ) (e : (get_reciprocal_point_group list time transposed n).answer ≡ Ok count) where
  abbrev pub told : List (Mat ℤ)
  told = point_group (matrices list) time transposed

  pub told-count : (group_tests list time transposed n ≡ Accepted) × (count ≡ length told)
  unfolding get_reciprocal_point_group
  told-count =
      let a = was-accepted (group_tests list time transposed n) (length told) count (sym e) in
      (a, same-ok (sym e ∙ ap (λ t. giving t (length told)) a))

  -- the told part is the list of the group
  pub told_part : take (count * 9) (get_reciprocal_point_group list time transposed n).out ≡ flat told
  unfolding get_reciprocal_point_group
  told_part =
      let blank = replicate n (negsuc 0) in
      ap₂ take (ap (λ k. k * 9) told-count.1 ∙ sym (length-flat told)) (ap (λ t. output_of t n (laid told blank)) told-count.0) ∙ take-append_seam (flat told) _
