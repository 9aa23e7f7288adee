-- What the call for the group leaves, where the rotations are within the limits and the output has 432 places: the list and its count, or why there is none.
use mathlib.Core.Path.{◌≡◌, sym, ◌∙◌, ap, ap₂}
use mathlib.Core.Bool.{Bool, false}
use mathlib.Core.List.{List, [], ◌++◌, append-nil}
use Prim.Native.Nat.{ℕ, ◌*◌, ◌≤◌, zero-le}
use native.Mathlib.Omega.{arith}
use lib.Dec.{T, leb}
use lib.IntN.{ℤ, negsuc}
use lib.ListN.{length, take, drop, replicate, drop_of_length-le}
use lib.Seq.{take_at}
use borrow.Author.Tests.{eq-eqb}
use Rattle.std.specs.Prelude.{Result, Ok, Err}
use Rattle.integer.proofs.Test.{is_true, and_r}
use Rattle.common.specs.Matrix.{Mat}
use Rattle.common.specs.Array.{matrices, flat}
use Rattle.common.specs.Limits.{all_within, whole_matrices, rotations_fit}
use Rattle.common.specs.Tested.{Accepted}
use Rattle.common.specs.declared.Refusal.{Refusal}
use Rattle.common.proofs.Reading.{length-flat, matrices-flat}
use Rattle.common.proofs.Tests.{same-ok}
use Rattle.recip_rotations.specs.Flat.{laid}
use Rattle.recip_rotations.specs.PointGroup.{room_tests, group_tests, point_group, group_outcome, get_reciprocal_point_group}
use Rattle.recip_rotations.proofs.Answered.{was-accepted, was-refused}
use Rattle.recip_rotations.proofs.Room.{room}
use Rattle.recip_rotations.proofs.Sizes.{within-told}

-- of rotations s: k matrices at the front of the output
pub record Told (s : List ℤ) (time : Bool) (out : List ℤ) (k : ℕ) : Type 0 where
  pub accepted : Accepted ≡ room_tests (matrices s) time false
  pub few : k ≤ 48
  pub within : T (all_within 100000 (take (k * 9) out))
  pub read : matrices (take (k * 9) out) ≡ point_group (matrices s) time false

module _ (s : List ℤ) (time : Bool) (w : T (whole_matrices s)) (f : T (rotations_fit 100000 s)) (n : ℕ) (h : n ≡ 432) {r : Result ℕ Refusal} {out : List ℤ}
    (a : record { answer = r; out = out } ≡ get_reciprocal_point_group s time false n) where
  abbrev told : List (Mat ℤ)
  told = point_group (matrices s) time false

  tests : group_tests s time false n ≡ room_tests (matrices s) time false
  unfolding group_tests
  tests = rw (is_true (whole_matrices s) w, eq-eqb n 432 h, is_true (rotations_fit 100000 s) f)

  outcome : record { answer = r; out = out } ≡ group_outcome (room_tests (matrices s) time false) told n
  unfolding get_reciprocal_point_group
  outcome = a ∙ ap (λ t. group_outcome t told n) tests

  pub refused : {x : Refusal} → r ≡ Err x → Err x ≡ room_tests (matrices s) time false
  refused e = sym (was-refused (room_tests (matrices s) time false) (length told) (sym e ∙ ap (λ o. o.answer) outcome))

  pub group-told : {k : ℕ} → r ≡ Ok k → Told s time out k
  group-told {k} e =
      let room-is : Accepted ≡ room_tests (matrices s) time false = sym (was-accepted (room_tests (matrices s) time false) (length told) k (sym e ∙ ap (λ o. o.answer) outcome)) in
      let left = outcome ∙ ap (λ t. group_outcome t told n) (sym room-is) in
      let count : k ≡ length told = same-ok (sym e ∙ ap (λ o. o.answer) left) in
      let held : out ≡ laid told (replicate n (negsuc 0)) = ap (λ o. o.out) left in
      let size : k * 9 ≡ length told * 9 = omega (arith, count) in
      let part : take (k * 9) out ≡ flat told = ap₂ take size held ∙ take_at (flat told) (drop (length told * 9) (replicate n (negsuc 0))) (length told * 9) (length-flat told) in
      let alone : flat told ≡ laid told [] = sym (ap (λ l. flat told ++ l) (drop_of_length-le [] zero-le) ∙ append-nil (flat told)) in
      record {
        accepted = room-is;
        few = rw count (room (matrices s) time false (sym room-is));
        within = rw (part ∙ alone) (within-told s (and_r (leb (length s) 1728) (all_within 100000 s) f) false time 0);
        read = ap matrices part ∙ matrices-flat told;
      }
