-- Laws of a text that is put into a slice byte by byte.
use mathlib.Core.Path.{◌≡◌, refl, sym, ◌∙◌, ap, ap₂}
use mathlib.Core.Logic.{⊎_elim}
use mathlib.Core.Bool.{Bool, true, false, cond}
use mathlib.Core.List.{List, [], ◌∷◌, ◌++◌}
use Prim.Native.Nat.{ℕ, zero, suc, ◌+◌, ◌-◌, ◌<◌, ◌≤◌}
use native.Mathlib.Nat.{eq-or-lt_of_le, le_of_suc-le-suc, not-suc-le-zero, add-zero, zero-add}
use native.Mathlib.Numerals.{add-one}
use native.Mathlib.Omega.{arith}
use lib.Dec.{ltb, leb}
use lib.ListN.{length, get_or, set, take, drop, replicate, length-append, length-replicate, length-set}
use lib.Seq.{take-suc, append_snoc, set-append_seam}
use borrow.Author.Tests.{lt-ltb, le-ltb, leb-true, leb-false}
use Rattle.std.proofs.lemmas.List.{take-append-drop}
use Rattle.std.specs.Prelude.{Option, Some, None}
use Rattle.grgrid.specs.Build.{concat}
use Rattle.job.proofs.Lists.{drop-replicate}
use Rattle.job.specs.Writing.{Page, page, next, put, puts, finished, printed}

-- ---- one byte
module _ (l : List ℕ) (b n : ℕ) where
  at : Bool → Page
  at t = cond t (page (set l n b) (Some (n + 1))) (page l None)

  put_in : n < length l → page (set l n b) (Some (n + 1)) ≡ put (page l (Some n)) b
  unfolding at
  put_in h = sym (ap at (lt-ltb n (length l) h))

  put-out : length l ≤ n → page l None ≡ put (page l (Some n)) b
  unfolding at
  put-out h = sym (ap at (le-ltb n (length l) h))

-- ---- a text after another
puts-append : (p : Page) (s t : List ℕ) → puts p (s ++ t) ≡ puts (puts p s) t
puts-append p [] t = refl
puts-append p (b ∷ s) t = puts-append (put p b) s t

full : (l t : List ℕ) → puts (page l None) t ≡ page l None
full l [] = refl
full l (b ∷ t) = full l t

module _ (p : Page) where
  pub puts_then : (s t : List ℕ) {q r : Page} → q ≡ puts p s → r ≡ puts q t → r ≡ puts p (s ++ t)
  puts_then s t e f = f ∙ ap (λ q. puts q t) e ∙ sym (puts-append p s t)

  -- the next row
  pub row_more : (g : ℕ → List ℕ) (i : ℕ) {q r : Page} → q ≡ puts p (concat g i) → r ≡ puts q (g i) → r ≡ puts p (concat g (i + 1))
  row_more g i e f = puts_then (concat g i) (g i) e f ∙ ap (λ n. puts p (concat g n)) (sym (add-one i))

  -- where there is no room, nothing more is put
  module _ {l : List ℕ} {q r : Option ℕ} (e : q ≡ None) (f : r ≡ None) where
    pub stopped : (s t : List ℕ) → page l q ≡ puts p s → page l r ≡ puts p (s ++ t)
    stopped s t h = puts_then s t h (ap (page l) f ∙ sym (full l t) ∙ ap (λ q. puts (page l q) t) (sym e))

    -- at byte i of a text, and in row i
    pub word-stopped : (s : List ℕ) (i : ℕ) {b : Page} → i < length s → b ≡ puts p (take i s) → page l q ≡ put b (get_or s i 0) → page l r ≡ puts p s
    word-stopped s i h k m =
        stopped (take (suc i) s) (drop (suc i) s) (puts_then (take i s) (get_or s i 0 ∷ []) k m ∙ ap (puts p) (sym (take-suc s i 0 h)))
        ∙ ap (puts p) (take-append-drop (suc i) s)

    pub rows-stopped : (g : ℕ → List ℕ) (i n : ℕ) {b : Page} → i < n → b ≡ puts p (concat g i) → page l q ≡ puts b (g i) → page l r ≡ puts p (concat g n)
    rows-stopped g i n h k m = onwards n h
      where
        onwards : (n : ℕ) → i < n → page l r ≡ puts p (concat g n)
        onwards zero h = absurd (not-suc-le-zero h)
        onwards (suc n) h =
            ⊎_elim (λ j. ap (page l) (f ∙ sym e) ∙ puts_then (concat g i) (g i) k m ∙ ap (λ n. puts p (concat g (suc n))) j)
            (λ j. puts_then (concat g n) (g n) (onwards n j) (ap (page l) f ∙ sym (full l (g n)) ∙ ap (λ r. puts (page l r) (g n)) (sym f)))
            (eq-or-lt_of_le (le_of_suc-le-suc h))

-- ---- a whole text in a slice of zeros
-- the next byte after s, of whose places x is the first that is left
next_place : (s : List ℕ) (x : ℕ) (l : List ℕ) (b : ℕ) → put (page (s ++ x ∷ l) (Some (length s))) b ≡ page ((s ++ (b ∷ [])) ++ l) (Some (length (s ++ (b ∷ []))))
next_place s x l b =
    sym (put_in (s ++ x ∷ l) b (length s) (omega (arith, length-append s (x ∷ l))))
    ∙ ap₂ (λ m n. page m (Some n)) (set-append_seam s x l b ∙ sym (append_snoc s b l)) (sym (length-append s (b ∷ [])))

fitting : (s l t : List ℕ) → length t ≤ length l → puts (page (s ++ l) (Some (length s))) t ≡ page (s ++ (t ++ drop (length t) l)) (Some (length s + length t))
fitting s l [] h = ap (λ n. page (s ++ l) (Some n)) (sym (add-zero (length s)))
fitting s [] (b ∷ t) h = absurd (not-suc-le-zero h)
fitting s (x ∷ l) (b ∷ t) h =
    ap (λ p. puts p t) (next_place s x l b) ∙ fitting (s ++ (b ∷ [])) l t (le_of_suc-le-suc h)
    ∙ ap₂ (λ m n. page m (Some n)) (append_snoc s b (t ++ drop (length t) l)) longer
  where
    longer : length (s ++ (b ∷ [])) + length t ≡ length s + suc (length t)
    longer = omega (arith, length-append s (b ∷ []))

spilling : (s l t : List ℕ) → length l < length t → (puts (page (s ++ l) (Some (length s))) t).so_far ≡ None
spilling s l [] h = absurd (not-suc-le-zero h)
spilling s [] (b ∷ t) h = ap (λ p. (puts p t).so_far) (sym (put-out (s ++ []) b (length s) (omega (arith, length-append s [])))) ∙ ap (λ p. p.so_far) (full (s ++ []) t)
spilling s (x ∷ l) (b ∷ t) h = ap (λ p. (puts p t).so_far) (next_place s x l b) ∙ spilling (s ++ (b ∷ [])) l t (le_of_suc-le-suc h)

kept-length : (p : Page) (t : List ℕ) → length (puts p t).text ≡ length p.text
kept-length p [] = refl
kept-length p (b ∷ t) = kept-length (put p b) t ∙ one p.text p.so_far
  where
    by-room : (l : List ℕ) (n : ℕ) (r : Bool) → length (cond r (page (set l n b) (Some (n + 1))) (page l None)).text ≡ length l
    by-room l n true = length-set l n b
    by-room l n false = refl

    one : (l : List ℕ) (w : Option ℕ) → length (next l w b).text ≡ length l
    one l None = refl
    one l (Some n) = by-room l n (ltb n (length l))

module _ (t : List ℕ) (n : ℕ) where
  abbrev blank : Page
  blank = page (replicate n 0) (Some 0)

  fits : length t ≤ n → puts blank t ≡ page (t ++ replicate (n - length t) 0) (Some (length t))
  fits h =
      fitting [] (replicate n 0) t (omega (arith, length-replicate {A = ℕ} n 0))
      ∙ ap₂ (λ m k. page (t ++ m) (Some k)) (drop-replicate n (length t) 0) (zero-add (length t))

  spills : n < length t → (puts blank t).so_far ≡ None
  spills h = spilling [] (replicate n 0) t (omega (arith, length-replicate {A = ℕ} n 0))

  -- by whether there is room
  left : (r : Bool) → leb (length t) n ≡ r → finished (puts blank t).text (puts blank t).so_far ≡ cond r (page (t ++ replicate (n - length t) 0) (Some (length t))) (page (replicate n 0) None)
  left true h = ap (λ p. finished p.text p.so_far) (fits (leb-true (length t) n h))
  left false h = ap (finished (puts blank t).text) (spills (leb-false (length t) n h)) ∙ ap (λ m. page (replicate m 0) None) (kept-length blank t ∙ length-replicate {A = ℕ} n 0)

  -- in a slice that was cleared
  pub whole : {l : List ℕ} {q : Page} → l ≡ replicate n 0 → q ≡ puts (page l (Some 0)) t → finished q.text q.so_far ≡ printed t n
  unfolding printed
  whole z e = ap (λ p. finished p.text p.so_far) (e ∙ ap (λ l. puts (page l (Some 0)) t) z) ∙ left (leb (length t) n) refl
