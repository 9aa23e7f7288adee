-- The sheet as the codes of its characters: numbers right in fields of fixed width, a line a class, forty classes a page.
use Rattle.std.specs.Prelude.{Bool, true, ◌&&◌, List, [], ◌∷◌, ◌++◌, ℕ, zero, suc, ◌+◌, ◌*◌, ◌-◌, ◌/◌, ◌%◌, eqb, leb, ℤ, pos, length, replicate, cond}
use Rattle.decimal.specs.Decimal.{decimal, signed_decimal}
use Rattle.grgrid.specs.Build.{concat}

-- ---- fields
-- a text right in w places, after blanks
abbrev pub right : ℕ → List ℕ → List ℕ
right w text = replicate (w - length text) 32 ++ text

-- a minus sign counts
abbrev pub field_fits : ℕ → ℤ → Bool
field_fits w z = leb (length (signed_decimal z)) w

-- ---- lines
-- numbers in fields of these widths, and a line feed
abbrev pub line : List ℕ → List ℤ → List ℕ
line [] l = 10 ∷ []
line (w ∷ ws) [] = 10 ∷ []
line (w ∷ ws) (z ∷ l) = right w (signed_decimal z) ++ line ws l

abbrev pub line_fits : List ℕ → List ℤ → Bool
line_fits [] l = true
line_fits (w ∷ ws) [] = true
line_fits (w ∷ ws) (z ∷ l) = field_fits w z && line_fits ws l

-- class, weight, three image indices; a page number
abbrev pub row_widths : List ℕ
row_widths = 6 ∷ 6 ∷ 11 ∷ 11 ∷ 11 ∷ []

abbrev pub page_widths : List ℕ
page_widths = 45 ∷ []

-- ---- the sheet of n rows
-- pages are numbered from 1, and begin with rows 0, 40, 80, ..
abbrev pub page_number : ℕ → List ℤ
page_number r = pos (r / 40 + 1) ∷ []

abbrev pub page_line : ℕ → List ℕ
page_line r = cond (eqb (r % 40) 0) (line page_widths (page_number r)) []

abbrev pub page_fits : ℕ → Bool
page_fits r = cond (eqb (r % 40) 0) (line_fits page_widths (page_number r)) true

unfoldable pub lined : (ℕ → List ℤ) → ℕ → List ℕ
unfolding decimal
lined row r = page_line r ++ line row_widths (row r)

abbrev pub text : (ℕ → List ℤ) → ℕ → List ℕ
text row n = concat (lined row) n

abbrev pub text_fits : (ℕ → List ℤ) → ℕ → Bool
text_fits row zero = true
text_fits row (suc n) = text_fits row n && (page_fits n && line_fits row_widths (row n))

-- n lines, and one a page; 46 places each
abbrev pub line_count : ℕ → ℕ
line_count n = n + (n + 39) / 40

abbrev pub place_count : ℕ → ℕ
place_count n = 46 * line_count n
