-- `read_rows` over one row more, and the rows that a walk has written into the front of a slice.
use mathlib.Core.Path.{◌≡◌, refl, sym, ◌∙◌, ap, ap₂}
use mathlib.Core.Logic.{⊎_elim}
use mathlib.Core.List.{List, [], ◌∷◌, ◌++◌}
use Prim.Native.Nat.{ℕ, zero, suc, ◌+◌, ◌*◌, ◌<◌, ◌≤◌}
use native.Mathlib.Nat.{le_of_lt, le_of_suc-le-suc, not-suc-le-zero, eq-or-lt_of_le, mul-le-mul_right}
use native.Mathlib.Numerals.{add-one}
use native.Mathlib.Omega.{arith}
use lib.IntN.{ℤ, pos}
use lib.ListN.{length, get_or, set, take, drop}
use lib.Seq.{take_all, set_split}
use Rattle.std.specs.Prelude.{Err}
use Rattle.common.specs.Matrix.{Vec}
use Rattle.common.specs.Array.{vector_of, items, row_at}
use Rattle.common.specs.declared.Refusal.{Refusal}
use Rattle.common.specs.Tested.{◌then◌}
use Rattle.bztable.specs.Reading.{Read, got, triple_at, address_of}
use Rattle.bztable.specs.Neighbours.{moved, read_rows}
use Rattle.bztable.proofs.EachRead.{taken, appended, rows-more}

-- ---- rows
module _ (g : ℕ → Read (List ℤ)) where
  -- the first row that is refused, and all is refused
  pub rows-refused : (i n : ℕ) → i < n → {l : List ℤ} → read_rows g i ≡ got l → {r : Refusal} → g i ≡ Err r → Err r ≡ read_rows g n
  rows-refused i zero h e f = absurd (not-suc-le-zero h)
  rows-refused i (suc n) h e f =
      ⊎_elim (λ q. sym (rows-more g n ∙ ap₂ (appended g) (ap (read_rows g) (sym q) ∙ e) (ap g (sym q) ∙ f))) (λ l. ap (λ r. appended g r (g n)) (rows-refused i n l e f) ∙ sym (rows-more g n)) (eq-or-lt_of_le (le_of_suc-le-suc h))

  -- the first i rows stand below place `at`
  module _ (i at : ℕ) (out : List ℤ) (e : read_rows g i ≡ got (take at out)) where
    pub rows-put : (l rest : List ℤ) (n : ℕ) → at ≤ length out → length l ≡ n → g i ≡ got l → read_rows g (i + 1) ≡ got (take (at + n) (take at out ++ (l ++ rest)))
    rows-put l rest n h k f =
        ap (read_rows g) (add-one i) ∙ rows-more g i ∙ ap₂ (appended g) e f ∙ ap got (sym (taken out l rest at h) ∙ ap (λ n. take (at + n) (take at out ++ (l ++ rest))) k)

    pub rows-set : (z : ℤ) → at < length out → g i ≡ got (z ∷ []) → read_rows g (i + 1) ≡ got (take (at + 1) (set out at z))
    rows-set z h f = rows-put (z ∷ []) (drop (suc at) out) 1 (le_of_lt h) refl f ∙ ap (λ l. got (take (at + 1) l)) (sym (set_split out at z h))

    pub rows_all : (n : ℕ) → length out ≤ at → i ≡ n → got out ≡ read_rows g n
    rows_all n h k = ap got (sym (take_all at out h)) ∙ sym e ∙ ap (read_rows g) k

-- ---- along offset j: f reads the image at an address
module _ (f : Vec ℤ → Read ℕ) (offsets base : List ℤ) (j : ℕ) where
  abbrev pub image_along : Read (List ℤ)
  image_along = f (moved (vector_of base) (triple_at offsets j)) then λ i. got (pos i ∷ [])

  -- as the code reads it
  pub along : {o b : List ℤ} → o ≡ row_at offsets (3 * j) → b ≡ items (moved (vector_of base) (vector_of o)) → {x : Read ℕ} → x ≡ f (vector_of b) → image_along ≡ (x then λ i. got (pos i ∷ []))
  along e k h = ap (λ x. x then λ i. got (pos i ∷ [])) (sym (h ∙ ap (λ b. f (vector_of b)) (k ∙ ap (λ o. items (moved (vector_of base) (vector_of o))) e)))

-- ---- of point i: f reads the row from an address
module _ (f : Vec ℤ → Read (List ℤ)) (addresses points : List ℤ) (i : ℕ) where
  abbrev pub row_of : Read (List ℤ)
  row_of = address_of addresses (get_or points i (pos 0)) then f

  pub row_read : {x : Read (Vec ℤ)} → x ≡ address_of addresses (get_or points i (pos 0)) → row_of ≡ (x then f)
  row_read e = ap (λ x. x then f) (sym e)

-- room for a row of n, of p rows
pub row_room : (i p n : ℕ) → i < p → i * n + n ≤ p * n
row_room i p n h = omega (arith, mul-le-mul_right {m = i + 1} {n = p} n (omega arith))
