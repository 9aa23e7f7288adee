-- A sheet read back: by columns, not by blanks, since full fields touch; pages are skipped by their place. It knows nothing of how a sheet is written.
use Rattle.std.specs.Prelude.{List, [], ◌∷◌, ℕ, ◌+◌, ◌*◌, ◌-◌, ◌/◌, ◌%◌, eqb, ℤ, pos, neg_ℤ, length, take, drop, cond}
use Rattle.grgrid.specs.Build.{concat}

-- decimal digits after those that make n
abbrev pub value : ℕ → List ℕ → ℕ
value n [] = n
value n (c ∷ t) = value (10 * n + (c - 48)) t

-- blanks, a minus sign or none, digits
abbrev pub read_field : List ℕ → ℤ
read_field [] = pos 0
read_field (c ∷ t) = cond (eqb c 32) (read_field t) (cond (eqb c 45) (neg_ℤ (pos (value 0 t))) (pos (value 0 (c ∷ t))))

-- fields of these widths
abbrev pub read_line : List ℕ → List ℕ → List ℤ
read_line [] t = []
read_line (w ∷ ws) t = read_field (take w t) ∷ read_line ws (drop w t)

-- 46 places
abbrev pub line_at : List ℕ → ℕ → List ℕ
line_at t i = take 46 (drop (46 * i) t)

-- lines 0, 41, 82, .. number the pages; the others have 6, 6, 11, 11 and 11 places, and the line feed
abbrev pub rows_at : List ℕ → ℕ → List (List ℤ)
rows_at t i = cond (eqb (i % 41) 0) [] (read_line (6 ∷ 6 ∷ 11 ∷ 11 ∷ 11 ∷ []) (line_at t i) ∷ [])

unfoldable pub read_sheet : List ℕ → List (List ℤ)
read_sheet t = concat (rows_at t) (length t / 46)
