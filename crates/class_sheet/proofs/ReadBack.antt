-- The sheet read back gives the same rows: of any rows of five numbers that fit, and of an accepted call.
use mathlib.Core.Path.{◌≡◌, refl, ◌∙◌, ap, ap₂}
use mathlib.Core.Bool.{Bool, true, false, ◌&&◌, cond}
use mathlib.Core.List.{List, [], ◌∷◌, ◌++◌, map, map-map, map-id, append_assoc, append-nil}
use Prim.Native.Nat.{ℕ, zero, suc, ◌*◌, ◌/◌, ◌%◌, ◌<◌}
use native.Mathlib.Omega.{arith}
use lib.Dec.{T, eqb}
use lib.IntN.{ℤ, pos, nat_abs}
use lib.ListN.{length, take, drop, length-append, length-drop}
use lib.Seq.{take-append-le, drop-append-le, drop_at, take_all}
use borrow.Author.Tests.{eqb-true, eqb-false, eq-eqb, ne_eqb}
use Rattle.integer.proofs.Test.{and_l, and_r, holds}
use Rattle.common.specs.Tested.{require, output_of, Tested, Accepted}
use Rattle.common.specs.declared.Refusal.TheVariants.{OutsideLimits, WrongLength}
use Rattle.common.proofs.Tests.{passed}
use Rattle.grgrid.specs.Build.{build, concat}
use Rattle.class_sheet.specs.Sheet.{line, line_fits, row_widths, page_widths, page_number, page_fits, lined, text, text_fits, line_count, place_count}
use Rattle.class_sheet.specs.ReadSheet.{read_line, line_at, rows_at, read_sheet}
use Rattle.class_sheet.specs.ClassSheet.{row, class_count, class_sheet, ReadsBack}
use Rattle.class_sheet.proofs.Fields.{length-line, read-line}

-- ---- lines of 46 places
rows-alike : {A : Type 0} (f g : ℕ → List A) (m : ℕ) → ((i : ℕ) → i < m → f i ≡ g i) → concat f m ≡ concat g m
rows-alike f g zero h = refl
rows-alike f g (suc m) h = ap₂ ◌++◌ (rows-alike f g m (λ i l. h i (omega arith))) (h m (omega arith))

line-before : (s t : List ℕ) (i m : ℕ) → length s ≡ 46 * m → i < m → line_at (s ++ t) i ≡ line_at s i
line-before s t i m e h =
    ap (take 46) (drop-append-le (46 * i) s t (omega arith)) ∙ take-append-le 46 (drop (46 * i) s) t (omega (arith, length-drop (46 * i) s))

line_last : (s t : List ℕ) (m : ℕ) → length s ≡ 46 * m → length t ≡ 46 → line_at (s ++ t) m ≡ t
line_last s t m e f = ap (take 46) (drop_at s t (46 * m) e) ∙ take_all 46 t (omega arith)

-- what line i tells
abbrev told : ℕ → List ℕ → List (List ℤ)
told i t = cond (eqb (i % 41) 0) [] (read_line row_widths t ∷ [])

-- a text of m lines that tell these rows
record Tells (m : ℕ) (s : List ℕ) (l : List (List ℤ)) : Type 0 where
  size : length s ≡ 46 * m
  tells : concat (rows_at s) m ≡ l

one_more : {m : ℕ} {s : List ℕ} {l : List (List ℤ)} → Tells m s l → (t : List ℕ) → length t ≡ 46 → Tells (suc m) (s ++ t) (l ++ told m t)
one_more {m} {s} {l} d t e = record {
  size = length-append s t ∙ omega (arith, d.size);
  tells = ap₂ ◌++◌ (rows-alike (rows_at (s ++ t)) (rows_at s) m (λ i h. ap (told i) (line-before s t i m d.size h)) ∙ d.tells) (ap (told m) (line_last s t m d.size e));
}

-- ---- pages: line m is that of a page exactly where a page begins
page-here : (n : ℕ) → n % 40 ≡ 0 → (line_count n % 41 ≡ 0) × (line_count (suc n) ≡ suc (suc (line_count n))) × (suc (line_count n) % 41 ≡ 0 → ⊥)
page-here n e = (omega arith, omega arith, λ f. omega arith)

no-page : (n : ℕ) → (n % 40 ≡ 0 → ⊥) → (line_count n % 41 ≡ 0 → ⊥) × (line_count (suc n) ≡ suc (line_count n))
no-page n e = (λ f. omega arith, omega arith)

-- ---- rows of five numbers
module _ (row : ℕ → List ℤ) (five : (r : ℕ) → length (row r) ≡ 5) where
  abbrev listed : ℕ → List (List ℤ)
  listed n = build (λ r done. row r) n

  row-told : (n i : ℕ) → T (line_fits row_widths (row n)) → (i % 41 ≡ 0 → ⊥) → told i (line row_widths (row n)) ≡ row n ∷ []
  row-told n i t e = ap (λ b. cond b [] (read_line row_widths (line row_widths (row n)) ∷ [])) (ne_eqb (i % 41) 0 e) ∙ ap (λ l. l ∷ []) (read-line row_widths (row n) (five n) t)

  row-size : (n : ℕ) → T (line_fits row_widths (row n)) → length (line row_widths (row n)) ≡ 46
  row-size n t = length-line row_widths (row n) (five n) t

  -- the lines of row n after those before it, by whether a page begins
  module _ (n : ℕ) (d : Tells (line_count n) (text row n) (listed n)) (t : T (line_fits row_widths (row n))) where
    abbrev page : List ℕ
    page = line page_widths (page_number n)

    with_page : n % 40 ≡ 0 → T (line_fits page_widths (page_number n)) → Tells (line_count (suc n)) (text row n ++ (page ++ line row_widths (row n))) (listed (suc n))
    with_page e f =
        let p = page-here n e in
        let a = one_more d page (length-line page_widths (page_number n) refl f) in
        let b = one_more a (line row_widths (row n)) (row-size n t) in
        let quiet : told (line_count n) page ≡ [] = ap (λ b. cond b [] (read_line row_widths page ∷ [])) (eq-eqb (line_count n % 41) 0 p.0) in
        let same : (listed n ++ told (line_count n) page) ++ told (suc (line_count n)) (line row_widths (row n)) ≡ listed (suc n) =
        ap₂ ◌++◌ (ap (λ x. listed n ++ x) quiet ∙ append-nil (listed n)) (row-told n (suc (line_count n)) t p.2) in
        rw (p.1, ← append_assoc (text row n) page (line row_widths (row n)), ← same) b

    without_page : (n % 40 ≡ 0 → ⊥) → Tells (line_count (suc n)) (text row n ++ line row_widths (row n)) (listed (suc n))
    without_page e =
        let p = no-page n e in
        let b = one_more d (line row_widths (row n)) (row-size n t) in
        let same : listed n ++ told (line_count n) (line row_widths (row n)) ≡ listed (suc n) = ap (λ x. listed n ++ x) (row-told n (line_count n) t p.0) in
        rw (p.1, ← same) b

    next-row : (b : Bool) → eqb (n % 40) 0 ≡ b → T (cond b (line_fits page_widths (page_number n)) true)
        → Tells (line_count (suc n)) (text row n ++ (cond b page [] ++ line row_widths (row n))) (listed (suc n))
    next-row true e f = with_page (eqb-true (n % 40) 0 e) f
    next-row false e f = without_page (eqb-false (n % 40) 0 e)

  text-tells : (n : ℕ) → T (text_fits row n) → Tells (line_count n) (text row n) (listed n)
  unfolding lined
  text-tells zero t = record { size = refl; tells = refl }
  text-tells (suc n) t =
      let here = and_r (text_fits row n) (page_fits n && line_fits row_widths (row n)) t in
      next-row n (text-tells n (and_l (text_fits row n) (page_fits n && line_fits row_widths (row n)) t)) (and_r (page_fits n) (line_fits row_widths (row n)) here)
      (eqb (n % 40) 0) refl (and_l (page_fits n) (line_fits row_widths (row n)) here)

  pub text-length : (n : ℕ) → T (text_fits row n) → length (text row n) ≡ place_count n
  text-length n t = (text-tells n t).size

  pub read_back : (n : ℕ) → T (text_fits row n) → read_sheet (text row n) ≡ build (λ r done. row r) n
  unfolding read_sheet
  read_back n t =
      let d = text-tells n t in
      let count : length (text row n) / 46 ≡ line_count n = omega (arith, d.size) in
      ap (concat (rows_at (text row n))) count ∙ d.tells

-- ---- an accepted call
module _ (classes triplets : List ℤ) where
  abbrev k : ℕ
  k = class_count classes

  pub row-five : (r : ℕ) → length (row classes triplets r) ≡ 5
  unfolding row
  row-five r = refl

  pub accepted-fits : (n : ℕ) → (class_sheet classes triplets n).answer ≡ Accepted → T (text_fits (row classes triplets) k)
  unfolding class_sheet
  accepted-fits n e =
      holds ((passed (text_fits (row classes triplets) k) OutsideLimits Accepted ((passed (eqb (length triplets) (k * 3) && eqb n (place_count k)) WrongLength (require (text_fits (row classes triplets) k) OutsideLimits Accepted) e).1)).0)

  -- its sheet read back gives the rows
  pub sheet-reads-back : (n : ℕ) → ReadsBack classes triplets (class_sheet classes triplets n)
  unfolding class_sheet
  sheet-reads-back n e =
      ap (λ (t : Tested). read_sheet (map nat_abs (output_of t n (map pos (text (row classes triplets) k))))) e
      ∙ ap read_sheet (map-map nat_abs pos (text (row classes triplets) k) ∙ map-id (text (row classes triplets) k))
      ∙ read_back (row classes triplets) row-five k (accepted-fits n e)
