-- The text that a job prints, as the codes of its characters.
use Rattle.std.specs.Prelude.{List, [], ◌∷◌, ◌++◌, ℕ, ◌*◌, ◌/◌, ℤ, pos, length, get_or, take, drop}
use Rattle.common.specs.declared.Refusal.{Refusal}
use Rattle.common.specs.Refusal.{number_of}
use Rattle.decimal.specs.Decimal.{decimal, signed_decimal}
use Rattle.grgrid.specs.Build.{concat}

-- number i of a list, after a blank
abbrev pub spaced : List ℤ → ℕ → List ℕ
spaced l i = 32 ∷ signed_decimal (get_or l i (pos 0))

-- a word, the numbers, a line feed
unfoldable pub line : List ℕ → List ℤ → List ℕ
unfolding decimal
line word l = word ++ (concat (spaced l) (length l) ++ (10 ∷ []))

-- ---- the words
abbrev pub grid : List ℕ
grid = 103 ∷ 114 ∷ 105 ∷ 100 ∷ []

abbrev pub map : List ℕ
map = 109 ∷ 97 ∷ 112 ∷ []

abbrev pub ir : List ℕ
ir = 105 ∷ 114 ∷ []

abbrev pub triplet : List ℕ
triplet = 116 ∷ 114 ∷ 105 ∷ 112 ∷ 108 ∷ 101 ∷ 116 ∷ []

abbrev pub refused : List ℕ
refused = 114 ∷ 101 ∷ 102 ∷ 117 ∷ 115 ∷ 101 ∷ 100 ∷ []

-- ---- the lines

-- line k of the triplets, three numbers each
abbrev pub triplet_line : List ℤ → ℕ → List ℕ
triplet_line l k = line triplet (take 3 (drop (3 * k) l))

-- the diagonal, the class of each point, the number of classes, a triplet of image indices a class (numbers beyond a multiple of three make no line)
unfoldable pub listing : List ℤ → List ℤ → ℤ → List ℤ → List ℕ
unfolding line
listing d classes n triplets = line grid d ++ (line map classes ++ (line ir (n ∷ []) ++ concat (triplet_line triplets) (length triplets / 3)))

unfoldable pub refusal : Refusal → List ℕ
unfolding line
refusal r = line refused (pos (number_of r) ∷ [])
