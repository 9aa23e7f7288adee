-- The 125 candidates by their numbers, and lists by the number of the place.
use mathlib.Core.Path.{◌≡◌, refl, ◌∙◌}
use mathlib.Core.List.{List, [], ◌∷◌, map}
use Prim.Native.Nat.{ℕ, zero, suc, ◌<◌}
use native.Mathlib.Nat.{not-suc-le-zero, le_of_suc-le-suc}
use lib.ListN.{length, get_or, get_or-map}
use Rattle.std.specs.List.{range_with_len}
use Rattle.bzsearch.specs.Search.{candidates, outside}
use Rattle.mark_candidates.specs.ScaledCoordinates.{candidates125}
use Rattle.mark_candidates.specs.Code.Numbered.{candidate_at}

pub candidates-listed : map candidate_at (range_with_len 0 125) ≡ candidates125
unfolding candidates125 candidates outside candidate_at
candidates-listed = refl

pub candidates-length : length candidates125 ≡ 125
unfolding candidates125 candidates outside
candidates-length = refl

-- the item past the end does not matter inside
any-default : {A : Type 0} (l : List A) (y z : A) (i : ℕ) → i < length l → get_or l i y ≡ get_or l i z
any-default [] y z i h = absurd (not-suc-le-zero h)
any-default (x ∷ l) y z zero h = refl
any-default (x ∷ l) y z (suc i) h = any-default l y z i (le_of_suc-le-suc h)

pub map-item : {A B : Type 0} (f : A → B) (l : List A) (y : A) (z : B) (i : ℕ) → i < length (map f l) → get_or (map f l) i z ≡ f (get_or l i y)
map-item f l y z i h = any-default (map f l) z (f y) i h ∙ get_or-map f l i y
