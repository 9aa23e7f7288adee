-- Worked examples, which hold the definition fast: of each of the four conditions a list that fails it alone.
use mathlib.Core.Path.{◌≡◌, refl}
use mathlib.Core.Bool.{true, false}
use mathlib.Core.List.{[], ◌∷◌}
use lib.IntN.{ℤ, pos, negsuc}
use lib.ListN.{replicate}
use Rattle.std.specs.Prelude.{Err}
use Rattle.common.specs.Tested.{Accepted}
use Rattle.common.specs.Matrix.{Mat, diagonal, identity, inversion}
use Rattle.common.specs.Array.{flat}
use Rattle.common.specs.declared.Refusal.TheVariants.{OutsideLimits, WrongLength, NotGroup}
use Rattle.rotation_group.specs.Group.{is_group}
use Rattle.rotation_group.specs.ReciprocalGroup.{reciprocal_tests}

-- a quarter turn about the third axis, the half turn and the turn back
abbrev quarter : Mat ℤ
quarter = record { a = pos 0; b = negsuc 0; c = pos 0; d = pos 1; e = pos 0; f = pos 0; g = pos 0; h = pos 0; i = pos 1 }

abbrev half : Mat ℤ
half = diagonal (record { x = negsuc 0; y = negsuc 0; z = pos 1 })

abbrev back : Mat ℤ
back = record { a = pos 0; b = pos 1; c = pos 0; d = negsuc 0; e = pos 0; f = pos 0; g = pos 0; h = pos 0; i = pos 1 }

-- the identity is missing
empty : is_group [] ≡ false
unfolding is_group
empty = refl

repeated : is_group (identity ∷ identity ∷ []) ≡ false
unfolding is_group
repeated = refl

singular : is_group (identity ∷ diagonal (record { x = pos 1; y = pos 1; z = pos 0 }) ∷ []) ≡ false
unfolding is_group
singular = refl

open-products : is_group (identity ∷ quarter ∷ []) ≡ false
unfolding is_group
open-products = refl

one : is_group (identity ∷ []) ≡ true
unfolding is_group
one = refl

two : is_group (identity ∷ inversion ∷ []) ≡ true
unfolding is_group
two = refl

-- in any order
four : is_group (quarter ∷ half ∷ identity ∷ back ∷ []) ≡ true
unfolding is_group
four = refl

-- ---- the tests of the reciprocal step, in order: 13, 3, 18
short : reciprocal_tests (replicate 8 (pos 0)) false 432 ≡ Err WrongLength
unfolding reciprocal_tests
short = refl

little-room : reciprocal_tests [] false 431 ≡ Err WrongLength
unfolding reciprocal_tests
little-room = refl

large : reciprocal_tests (replicate 9 (pos 100001)) false 432 ≡ Err OutsideLimits
unfolding reciprocal_tests
large = refl

no-rotations : reciprocal_tests [] false 432 ≡ Err NotGroup
unfolding reciprocal_tests
no-rotations = refl

accepted : reciprocal_tests (flat (quarter ∷ half ∷ identity ∷ back ∷ [])) true 432 ≡ Accepted
unfolding reciprocal_tests
accepted = refl

-- a third of a turn, negated, and its inverse: with the negatives joined a group, but not as given
abbrev third : Mat ℤ
third = record { a = pos 0; b = negsuc 0; c = pos 0; d = pos 0; e = pos 0; f = negsuc 0; g = negsuc 0; h = pos 0; i = pos 0 }

abbrev third_back : Mat ℤ
third_back = record { a = pos 0; b = pos 0; c = negsuc 0; d = negsuc 0; e = pos 0; f = pos 0; g = pos 0; h = negsuc 0; i = pos 0 }

as-given : reciprocal_tests (flat (identity ∷ third ∷ third_back ∷ [])) true 432 ≡ Err NotGroup
unfolding reciprocal_tests
as-given = refl
