-- How the code compares two candidates: by the six weights of each, times the widths of their ranges, and its squared lengths for the six lowest and for the
-- six highest inner products.
use Rattle.std.specs.Prelude.{List, [], ◌∷◌, ℕ, ℤ, pos, ◌+ℤ◌, ◌*ℤ◌, ◌-ℤ◌, get_or}
use Rattle.common.specs.Matrix.{Vec}
use Rattle.common.specs.Array.{vector_of, Sized}
use Rattle.bzsearch.specs.Search.{max_z}
use Rattle.mark_candidates.specs.declared.entry.Entry.{Entry}
use Rattle.mark_candidates.specs.declared.table.Ranges.{Ranges}
use Rattle.mark_candidates.specs.InnerProducts.{XX, XY, XZ, YY, YZ, ZZ, weight}
use Rattle.mark_candidates.specs.ScaledCoordinates.{position}

abbrev pub weights : Vec ℤ → List ℤ
weights v = weight v XX ∷ weight v XY ∷ weight v XZ ∷ weight v YY ∷ weight v YZ ∷ weight v ZZ ∷ []

abbrev pub term_at : (w g : List ℤ) → ℕ → ℤ
term_at w g k = get_or w k (pos 0) *ℤ get_or g k (pos 0)

-- the squared length of a vector with the weights w
unfoldable pub length_by : (w g : List ℤ) → ℤ
length_by w g = term_at w g 0 +ℤ term_at w g 1 +ℤ term_at w g 2 +ℤ term_at w g 3 +ℤ term_at w g 4 +ℤ term_at w g 5

-- number k of the eight
pub record Compared : Type 0 where
  pub widths : List ℤ
  pub lowest : ℤ
  pub highest : ℤ

abbrev pub width_at : (w lowest highest : List ℤ) → ℕ → ℤ
width_at w lowest highest k = get_or w k (pos 0) *ℤ (get_or highest k (pos 0) -ℤ get_or lowest k (pos 0))

abbrev pub compared : (w lowest highest : List ℤ) → Compared
compared w lowest highest =
    let x = width_at w lowest highest in
    record { widths = x 0 ∷ x 1 ∷ x 2 ∷ x 3 ∷ x 4 ∷ x 5 ∷ []; lowest = length_by w lowest; highest = length_by w highest }

-- of candidate m
abbrev pub compared_at : List ℤ → ℕ → Ranges → Vec ℤ → Compared
compared_at s n r m = compared (weights (position n (vector_of s) m)) r.lowest r.highest

pub record RangesFit (r : Ranges) : Type 0 where
  pub lowest : Sized 1000000 r.lowest
  pub highest : Sized 1000000 r.highest

abbrev pub entry_view : Entry → Compared
entry_view e = record { widths = e.widths; lowest = e.lowest; highest = e.highest }

-- ---- of two candidates
abbrev pub rise : Compared → Compared → ℕ → ℤ
rise a o k = max_z (pos 0) (get_or a.widths k (pos 0) -ℤ get_or o.widths k (pos 0))

unfoldable pub rises : Compared → Compared → ℤ
rises a o = let s = rise a o in s 0 +ℤ s 1 +ℤ s 2 +ℤ s 3 +ℤ s 4 +ℤ s 5

-- the squared length of the first less that of the second, at least and at most
abbrev pub least_of : Compared → Compared → ℤ
least_of a o = (a.highest -ℤ o.highest) -ℤ rises a o

abbrev pub most_of : Compared → Compared → ℤ
most_of a o = (a.lowest -ℤ o.lowest) +ℤ rises a o
