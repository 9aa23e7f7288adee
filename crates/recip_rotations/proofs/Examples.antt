-- Worked examples, which hold the definitions of specs/ fast.
use mathlib.Core.Path.{◌≡◌, refl}
use mathlib.Core.Bool.{true, false}
use mathlib.Core.List.{List, [], ◌∷◌}
use Prim.Native.Nat.{ℕ, zero, suc}
use lib.IntN.{ℤ, pos, negsuc}
use lib.ListN.{replicate}
use Rattle.std.specs.Prelude.{Ok, Err}
use Rattle.common.specs.Tested.{Accepted}
use Rattle.common.specs.Matrix.{Mat, scalar, identity, inversion}
use Rattle.common.specs.declared.Refusal.TheVariants.{OutsideLimits, TooManyRotations, TooManyForInversion, WrongLength}
use Rattle.recip_rotations.specs.PointGroup.{room_tests, point_group, get_reciprocal_point_group}

-- rows 0 1 0, 0 0 1 and 1 0 0, and its transpose
abbrev turn : Mat ℤ
turn = record { a = pos 0; b = pos 1; c = pos 0; d = pos 0; e = pos 0; f = pos 1; g = pos 1; h = pos 0; i = pos 0 }

abbrev back : Mat ℤ
back = record { a = pos 0; b = pos 0; c = pos 1; d = pos 1; e = pos 0; f = pos 0; g = pos 0; h = pos 1; i = pos 0 }

abbrev negative : Mat ℤ
negative = record { a = pos 0; b = negsuc 0; c = pos 0; d = pos 0; e = pos 0; f = negsuc 0; g = negsuc 0; h = pos 0; i = pos 0 }

-- ---- the list
repeats : point_group (identity ∷ turn ∷ identity ∷ turn ∷ []) false false ≡ identity ∷ turn ∷ []
unfolding point_group
repeats = refl

transposed : point_group (turn ∷ identity ∷ []) false true ≡ back ∷ identity ∷ []
unfolding point_group
transposed = refl

reversed : point_group (identity ∷ turn ∷ []) true false ≡ identity ∷ turn ∷ inversion ∷ negative ∷ []
unfolding point_group
reversed = refl

centred : point_group (identity ∷ inversion ∷ []) true true ≡ identity ∷ inversion ∷ []
unfolding point_group
centred = refl

-- ---- the room: n distinct matrices
abbrev distinct : ℕ → List (Mat ℤ)
distinct zero = []
distinct (suc n) = scalar (pos n) ∷ distinct n

room-48 : room_tests (distinct 48) false true ≡ Accepted
unfolding room_tests
room-48 = refl

room-49 : room_tests (distinct 49) true true ≡ Err TooManyRotations
unfolding room_tests
room-49 = refl

room-24 : room_tests (distinct 24) true false ≡ Accepted
unfolding room_tests
room-24 = refl

room-25 : room_tests (distinct 25) true false ≡ Err TooManyForInversion
unfolding room_tests
room-25 = refl

room-inversion : room_tests (inversion ∷ distinct 47) true true ≡ Accepted
unfolding room_tests
room-inversion = refl

-- ---- the other tests, and the output
no-rotations : (get_reciprocal_point_group [] true true 432).answer ≡ Ok 0
unfolding get_reciprocal_point_group
no-rotations = refl

no-matrix : (get_reciprocal_point_group (pos 100001 ∷ []) false false 432).answer ≡ Err WrongLength
unfolding get_reciprocal_point_group
no-matrix = refl

other_length : (get_reciprocal_point_group (replicate 9 (pos 100001)) false false 431).answer ≡ Err WrongLength
unfolding get_reciprocal_point_group
other_length = refl

at-limit : (get_reciprocal_point_group (replicate 1728 (negsuc 99999)) false false 432).answer ≡ Ok 1
unfolding get_reciprocal_point_group
at-limit = refl

large-entry : (get_reciprocal_point_group (replicate 9 (negsuc 100000)) false false 432).answer ≡ Err OutsideLimits
unfolding get_reciprocal_point_group
large-entry = refl

many-rotations : (get_reciprocal_point_group (replicate 1737 (pos 0)) false false 432).answer ≡ Err OutsideLimits
unfolding get_reciprocal_point_group
many-rotations = refl

written : (get_reciprocal_point_group (pos 1 ∷ pos 2 ∷ pos 3 ∷ pos 4 ∷ pos 5 ∷ pos 6 ∷ pos 7 ∷ pos 8 ∷ pos 9 ∷ []) false true 432).out
    ≡ pos 1 ∷ pos 4 ∷ pos 7 ∷ pos 2 ∷ pos 5 ∷ pos 8 ∷ pos 3 ∷ pos 6 ∷ pos 9 ∷ replicate 423 (negsuc 0)
unfolding get_reciprocal_point_group
written = refl

blank : (get_reciprocal_point_group [] false false 3).out ≡ negsuc 0 ∷ negsuc 0 ∷ negsuc 0 ∷ []
unfolding get_reciprocal_point_group
blank = refl
