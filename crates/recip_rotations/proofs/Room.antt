-- An accepted list has at most 48 members.
use mathlib.Core.Path.{◌≡◌, refl}
use mathlib.Core.Bool.{Bool, true, false, not, ◌||◌}
use mathlib.Core.List.{List, ◌++◌, map}
use Prim.Native.Nat.{ℕ, ◌≤◌, zero-le}
use native.Mathlib.Omega.{arith}
use lib.Dec.{leb}
use lib.IntN.{ℤ}
use lib.ListN.{length, length-append, length-map}
use borrow.Author.Tests.{leb-true}
use Rattle.std.specs.Prelude.{Ok, Err}
use Rattle.common.specs.Matrix.{Mat, negate}
use Rattle.common.specs.Array.{matrices}
use Rattle.common.specs.Tested.{after, Tested, Accepted, giving}
use Rattle.common.specs.declared.Refusal.TheVariants.{TooManyRotations, TooManyForInversion}
use Rattle.common.proofs.Tests.{passed, both-accepted}
use Rattle.recip_rotations.specs.Unique.{unique}
use Rattle.recip_rotations.specs.PointGroup.{transposed_if, joins, with_negatives, join_tests, room_tests, input_tests, group_tests, point_group, get_reciprocal_point_group, count_of}
use Rattle.recip_rotations.proofs.Grouping.{turned-length}

joined-room : (time : Bool) (l : List (Mat ℤ)) → length l ≤ 48 → join_tests time l ≡ Accepted → length (with_negatives time l) ≤ 48
joined-room time l h e = step (joins time l) (passed (not (joins time l) || leb (length l) 24) TooManyForInversion Accepted e).0
  where
    step : (j : Bool) → (not j || leb (length l) 24) ≡ true → length {A = Mat ℤ} (elim j [ true ↦ l ++ map negate l | false ↦ l ]) ≤ 48
    step true e = omega (arith, leb-true (length l) 24 e, length-append l (map negate l), length-map l negate)
    step false e = h

pub room : (l : List (Mat ℤ)) (time t : Bool) → room_tests l time t ≡ Accepted → length (point_group l time t) ≤ 48
unfolding room_tests point_group
room l time t e =
    let p = passed (leb (length (unique l)) 48) TooManyRotations (join_tests time (transposed_if t (unique l))) e in
    joined-room time (transposed_if t (unique l)) (omega (arith, turned-length t (unique l), leb-true (length (unique l)) 48 p.0)) p.1

-- whatever is tested before the room
pub count-few : (l : List (Mat ℤ)) (time t : Bool) (front : Tested) → count_of (giving (after front (room_tests l time t)) (length (point_group l time t))) ≤ 48
count-few l time t front = step (after front (room_tests l time t)) (λ e. room l time t (both-accepted front (room_tests l time t) e).1)
  where
    step : (q : Tested) → (q ≡ Accepted → length (point_group l time t) ≤ 48) → count_of (giving q (length (point_group l time t))) ≤ 48
    step (Ok _) h = h refl
    step (Err r) h = zero-le

pub count_small : (s : List ℤ) (time t : Bool) (n : ℕ) → count_of (get_reciprocal_point_group s time t n).answer ≤ 48
unfolding get_reciprocal_point_group group_tests
count_small s time t n = count-few (matrices s) time t (input_tests s n)
