-- Worked examples, which hold the definitions of specs/ fast: the finished list of document 01's job, full fields, fields too narrow, a second page, refusals.
use mathlib.Core.Path.{◌≡◌, refl}
use mathlib.Core.Bool.{true, false}
use mathlib.Core.List.{List, [], ◌∷◌, ◌++◌, map}
use Prim.Native.Nat.{ℕ}
use lib.IntN.{ℤ, pos, negsuc}
use lib.ListN.{replicate, take, drop}
use Rattle.std.specs.Prelude.{Err}
use Rattle.common.specs.Tested.{Accepted}
use Rattle.common.specs.declared.Refusal.TheVariants.{OutsideLimits, WrongLength}
use Rattle.decimal.specs.Decimal.{decimal}
use Rattle.class_sheet.specs.Sheet.{field_fits, place_count}
use Rattle.class_sheet.specs.ReadSheet.{read_sheet}
use Rattle.class_sheet.specs.ClassSheet.{outcome_of, class_sheet}

abbrev blanks : ℕ → List ℕ
blanks n = replicate n 32

-- document 01's job: class map 0 1 0, triplets 1 0 2 and 1 1 1
abbrev classes : List ℤ
classes = pos 0 ∷ pos 1 ∷ pos 0 ∷ []

abbrev triplets : List ℤ
triplets = pos 1 ∷ pos 0 ∷ pos 2 ∷ pos 1 ∷ pos 1 ∷ pos 1 ∷ []

abbrev codes : List ℕ
codes =
    blanks 44 ++ 49 ∷ 10 ∷ blanks 5 ++ 48 ∷ blanks 5 ++ 50 ∷ blanks 10 ++ 49 ∷ blanks 10 ++ 48 ∷ blanks 10 ++ 50 ∷ 10
    ∷ blanks 5 ++ 49 ∷ blanks 5 ++ 49 ∷ blanks 10 ++ 49 ∷ blanks 10 ++ 49 ∷ blanks 10 ++ 49 ∷ 10 ∷ []

example-sheet : class_sheet classes triplets 138 ≡ outcome_of Accepted (map pos codes)
unfolding class_sheet
example-sheet = refl

example-read : read_sheet codes ≡ (pos 0 ∷ pos 2 ∷ pos 1 ∷ pos 0 ∷ pos 2 ∷ []) ∷ (pos 1 ∷ pos 1 ∷ pos 1 ∷ pos 1 ∷ pos 1 ∷ []) ∷ []
unfolding read_sheet
example-read = refl

-- no classes, no page; a triplet of -1 stands
no-classes : class_sheet [] [] 0 ≡ outcome_of Accepted []
unfolding class_sheet
no-classes = refl

minus-one : take 34 (drop 58 (class_sheet (pos 0 ∷ []) (negsuc 0 ∷ negsuc 0 ∷ negsuc 0 ∷ []) 92).sheet) ≡ map pos (blanks 9 ++ 45 ∷ 49 ∷ blanks 9 ++ 45 ∷ 49 ∷ blanks 9 ++ 45 ∷ 49 ∷ 10 ∷ [])
unfolding class_sheet
minus-one = refl

-- a weight counts all places that bear the number, also those that a class map of the grid would not have
any-map : take 12 (drop 46 (class_sheet (pos 0 ∷ negsuc 4 ∷ pos 0 ∷ pos 9 ∷ []) (pos 0 ∷ pos 0 ∷ pos 0 ∷ []) 92).sheet) ≡ map pos (blanks 5 ++ 48 ∷ blanks 5 ++ 50 ∷ [])
unfolding class_sheet
any-map = refl

-- a number too wide, and a wrong length before it
too-wide : class_sheet (pos 0 ∷ []) (pos 100000000000 ∷ pos 0 ∷ pos 0 ∷ []) 92 ≡ outcome_of (Err OutsideLimits) (replicate 92 (negsuc 0))
unfolding class_sheet
too-wide = refl

wrong-length : class_sheet (pos 0 ∷ []) (pos 100000000000 ∷ pos 0 ∷ pos 0 ∷ []) 91 ≡ outcome_of (Err WrongLength) (replicate 91 (negsuc 0))
unfolding class_sheet
wrong-length = refl

-- the widest numbers of a field of 11
widest : map (field_fits 11) (pos 99999999999 ∷ pos 100000000000 ∷ negsuc 9999999998 ∷ negsuc 9999999999 ∷ []) ≡ true ∷ false ∷ true ∷ false ∷ []
unfolding decimal
widest = refl

-- full pages, a short one, and the largest sheet
lengths : map place_count (0 ∷ 1 ∷ 40 ∷ 41 ∷ 65536 ∷ []) ≡ 0 ∷ 92 ∷ 1886 ∷ 1978 ∷ 3090050 ∷ []
lengths = refl
