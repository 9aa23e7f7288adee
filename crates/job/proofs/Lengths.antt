-- How long a listing is: a number has as many digits as it needs, and a line as many places as its word and its numbers.
use mathlib.Core.Path.{◌≡◌, sym, ◌∙◌, subst}
use mathlib.Core.List.{List, [], ◌∷◌, ◌++◌}
use Prim.Native.Nat.{ℕ, zero, suc, ◌+◌, ◌*◌, ◌/◌, ◌≤◌, ◌<◌}
use native.Mathlib.Omega.{arith}
use lib.IntN.{ℤ, pos}
use lib.ListN.{length, get_or, take, drop, length-append, length-drop}
use lib.Seq.{length-take-le, get_or-take, get_or-drop}
use Rattle.grgrid.specs.Build.{concat}
use Rattle.decimal.specs.Decimal.{signed_decimal}
use Rattle.job.specs.Listing.{spaced, line, grid, map, ir, triplet, triplet_line, listing}

-- ---- rows and lines
pub rows-length : (g : ℕ → List ℕ) (m n : ℕ) → ((i : ℕ) → i < n → length (g i) ≤ m) → length (concat g n) ≤ n * m
rows-length g m zero h = omega arith
rows-length g m (suc n) h = omega (arith, length-append (concat g n) (g n), rows-length g m n (λ i l. h i (omega arith)), h n (omega arith))

-- numbers of at most k characters each
abbrev Short : ℕ → List ℤ → Type 0
Short k l = (i : ℕ) → i < length l → length (signed_decimal (get_or l i (pos 0))) ≤ k

line-length : (k : ℕ) (word : List ℕ) (l : List ℤ) → Short k l → length (line word l) ≤ length word + length l * suc k + 1
unfolding line
line-length k word l h =
    omega (arith, length-append word (concat (spaced l) (length l) ++ (10 ∷ [])), length-append (concat (spaced l) (length l)) (10 ∷ []), rows-length (spaced l) (suc k) (length l) (λ i b. le-suc (h i b)))
  where
    le-suc : {a b : ℕ} → a ≤ b → suc a ≤ suc b
    le-suc i = omega arith

-- line i of the triplets
abbrev three : List ℤ → ℕ → List ℤ
three l i = take 3 (drop (3 * i) l)

triplet-length : (l : List ℤ) → Short 4 l → (i : ℕ) → i < length l / 3 → length (triplet_line l i) ≤ 23
triplet-length l h i b = omega (arith, line-length 4 triplet (three l i) short, length_three)
  where
    length_three : length (three l i) ≡ 3
    length_three = length-take-le 3 (drop (3 * i) l) (omega (arith, length-drop (3 * i) l))

    short : Short 4 (three l i)
    short j c =
        let inside : j < 3 = omega (arith, length_three) in
        subst (λ z. length (signed_decimal z) ≤ 4) (sym (get_or-take 3 (drop (3 * i) l) j (pos 0) inside ∙ get_or-drop (3 * i) l j (pos 0))) (h (3 * i + j) (omega arith))

-- sides, class numbers and their count below 1,000, image indices below 10,000
pub listing-length : (d classes : List ℤ) (n : ℤ) (triplets : List ℤ) → Short 3 d → Short 3 classes → length (signed_decimal n) ≤ 3 → Short 4 triplets
    → length (listing d classes n triplets) ≤ (5 + length d * 4) + (4 + length classes * 4) + 7 + length triplets / 3 * 23
unfolding listing
listing-length d classes n triplets hd hc hn ht =
    omega (
      arith,
      length-append (line grid d) (line map classes ++ (line ir (n ∷ []) ++ concat (triplet_line triplets) (length triplets / 3))),
      length-append (line map classes) (line ir (n ∷ []) ++ concat (triplet_line triplets) (length triplets / 3)),
      length-append (line ir (n ∷ [])) (concat (triplet_line triplets) (length triplets / 3)),
      line-length 3 grid d hd,
      line-length 3 map classes hc,
      line-length 3 ir (n ∷ []) one,
      rows-length (triplet_line triplets) 23 (length triplets / 3) (triplet-length triplets ht),
    )
  where
    one : Short 3 (n ∷ [])
    one zero b = hn
    one (suc i) b = absurd (omega arith)
