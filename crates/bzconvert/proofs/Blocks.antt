-- The lists that a table holds, laid out anew: where each point has images, what is read place by place stands in the order of the places.
use mathlib.Core.Path.{◌≡◌, refl, sym, ◌∙◌, ap, ap₂}
use mathlib.Core.List.{List, [], ◌∷◌, ◌++◌, map, map-append}
use Prim.Native.Nat.{ℕ, zero, suc, ◌+◌, ◌*◌, ◌-◌, ◌≤◌, ◌<◌}
use native.Mathlib.Nat.{le_refl, zero-add}
use native.Mathlib.Numerals.{add-one}
use native.Mathlib.Omega.{arith}
use lib.IntN.{ℤ, pos}
use lib.ListN.{length, get_or, take, drop}
use lib.Seq.{drop-cons}
use Rattle.common.specs.Array.{items}
use Rattle.grgrid.specs.Build.{concat}
use Rattle.bzsearch.specs.Search.{numbers_from}
use Rattle.bzsearch.proofs.Listing.{length-numbers}
use Rattle.bzgrid.specs.declared.GridType.{GridType}
use Rattle.bzgrid.specs.declared.GridType.TheVariants.{Sparse, Dense}
use Rattle.bzgrid.specs.Table.{Image, listed, first, others, address_list}
use Rattle.bzgrid.specs.BzGridAddresses.{table_of}
use Rattle.bzgrid.proofs.Mapped.{listed_more}
use Rattle.bztable.specs.declared.reading.Run.{Run}
use Rattle.bztable.specs.Access.{place_in, in_order}
use Rattle.bztable.specs.Reading.{triple_at}
use Rattle.bztable.proofs.TableRead.{sparse-order, dense-order}

-- ---- numbers in a row
module _ {A : Type 0} (f : ℕ → A) where
  numbers-map : (i k : ℕ) → map f (numbers_from (λ j. j) i k) ≡ numbers_from f i k
  numbers-map i zero = refl
  numbers-map i (suc k) = ap (λ l. f i ∷ l) (numbers-map (suc i) k)

  numbers-append : (i k n : ℕ) → numbers_from f i k ++ numbers_from f (i + k) n ≡ numbers_from f i (k + n)
  numbers-append i zero n = λ j. numbers_from f (right j) (left j)
    where
      right : i + 0 ≡ i
      right = omega arith

      left : n ≡ 0 + n
      left = omega arith
  numbers-append i (suc k) n =
      ap (λ l. f i ∷ l) (ap (λ j. numbers_from f (suc i) k ++ numbers_from f j n) next ∙ numbers-append (suc i) k n) ∙ ap (numbers_from f i) more
    where
      next : i + suc k ≡ suc i + k
      next = omega arith

      more : suc (k + n) ≡ suc k + n
      more = omega arith

-- ---- the places of each point, where the c p-th of the counted images is the first of point p
-- the place of the first image that is counted
abbrev pub start : GridType → ℕ → ℕ
start Sparse n = n
start Dense n = 0

-- the images that are counted
abbrev pub part : GridType → (ℕ → List Image) → ℕ → List Image
part Sparse g p = others g p
part Dense g p = g p

module _ (t : GridType) (n : ℕ) (c : ℕ → ℕ) where
  abbrev pub run : ℕ → Run
  run p = record { from = c p + start t n; to = c (p + 1) + start t n }

  abbrev pub row : ℕ → List ℕ
  row p = in_order t p (run p)

abbrev more : (ℕ → ℕ) → ℕ → ℕ
more c p = c (p + 1) - c p

module _ (n : ℕ) (c : ℕ → ℕ) (p : ℕ) where
  sparse-row : 0 < length (row Sparse n c p) → row Sparse n c p ≡ p ∷ numbers_from (λ i. i) (n + c p) (more c p)
  sparse-row h = ap (λ e. in_order Sparse p (record { from = c p + n; to = e + n })) up ∙ sparse-order p n (c p) (more c p)
    where
      up : c (p + 1) ≡ c p + more c p
      up = omega (arith, h, length-numbers (place_in p (c p + n)) 0 (c (p + 1) + n + 1 - (c p + n)))

  dense-row : 0 < length (row Dense n c p) → row Dense n c p ≡ numbers_from (λ i. i) (c p) (more c p)
  dense-row h = ap (λ e. in_order Dense p (record { from = c p + 0; to = e + 0 })) up ∙ dense-order p (c p) (more c p)
    where
      up : c (p + 1) ≡ c p + more c p
      up = omega (arith, h, length-numbers (place_in (c p + 0) (c p + 0 + 1)) 0 (c (p + 1) + 0 - (c p + 0)))

  rises : (t : GridType) → 0 < length (row t n c p) → c (p + 1) ≡ c p + more c p
  rises Sparse h = omega (arith, h, length-numbers (place_in p (c p + n)) 0 (c (p + 1) + n + 1 - (c p + n)))
  rises Dense h = omega (arith, h, length-numbers (place_in (c p + 0) (c p + 0 + 1)) 0 (c (p + 1) + 0 - (c p + 0)))

-- what h shows of each image is what is read at its place
module _ (n : ℕ) (c : ℕ → ℕ) (from : c 0 ≡ 0) {B : Type 0} (h : Image → B) (at : ℕ → B) (g : ℕ → List Image) where
  abbrev Shown : GridType → Type 0
  Shown t = (p : ℕ) → p < n → map h (g p) ≡ map at (row t n c p)

  abbrev Some : GridType → Type 0
  Some t = (p : ℕ) → p < n → 0 < length (row t n c p)

  heads : (l : List Image) → map h (take 1 l) ≡ take 1 (map h l)
  heads [] = refl
  heads (x ∷ l) = refl

  tails : (l : List Image) → map h (drop 1 l) ≡ drop 1 (map h l)
  tails [] = refl
  tails (x ∷ l) = refl

  sparse-shown : Shown Sparse → Some Sparse → (p : ℕ) → p < n → map h (g p) ≡ at p ∷ numbers_from at (n + c p) (more c p)
  sparse-shown r s p l = r p l ∙ ap (map at) (sparse-row n c p (s p l)) ∙ ap (λ l. at p ∷ l) (numbers-map at (n + c p) (more c p))

  part-shown : (t : GridType) → Shown t → Some t → (p : ℕ) → p < n → map h (part t g p) ≡ numbers_from at (start t n + c p) (more c p)
  part-shown Sparse r s p l = tails (g p) ∙ ap (drop 1) (sparse-shown r s p l)
  part-shown Dense r s p l =
      r p l ∙ ap (map at) (dense-row n c p (s p l)) ∙ numbers-map at (c p) (more c p) ∙ ap (λ i. numbers_from at i (more c p)) (sym (zero-add (c p)))

  pub parts-shown : (t : GridType) → Shown t → Some t → (i : ℕ) → i ≤ n
      → map h (concat (part t g) i) ≡ numbers_from at (start t n) (c i)
  parts-shown t r s zero l = ap (numbers_from at (start t n)) (sym from)
  parts-shown t r s (suc i) l =
      map-append h (concat (part t g) i) (part t g i)
      ∙ ap₂ ◌++◌ (parts-shown t r s i (omega arith)) (part-shown t r s i l)
      ∙ numbers-append at (start t n) (c i) (more c i)
      ∙ ap (numbers_from at (start t n)) (sym (rises n c i t (s i l)) ∙ ap c (add-one i))

  firsts-shown : Shown Sparse → Some Sparse → (i : ℕ) → i ≤ n → map h (concat (first g) i) ≡ listed at i
  firsts-shown r s zero l = refl
  firsts-shown r s (suc i) l =
      map-append h (concat (first g) i) (first g i)
      ∙ ap₂ ◌++◌ (firsts-shown r s i (omega arith)) (heads (g i) ∙ ap (take 1) (sparse-shown r s i l))
      ∙ listed_more at i

  pub table-shown : (t : GridType) → Shown t → Some t → map h (table_of t g n) ≡ listed at (start t n + c n)
  table-shown Sparse r s =
      map-append h (concat (first g) n) (concat (others g) n)
      ∙ ap₂ ◌++◌ (firsts-shown r s n (le_refl n)) (parts-shown Sparse r s n (le_refl n) ∙ ap (λ i. numbers_from at i (c n)) (sym (zero-add n)))
      ∙ numbers-append at 0 n (c n)
  table-shown Dense r s = parts-shown Dense r s n (le_refl n) ∙ ap (listed at) (sym (zero-add (c n)))

-- ---- a part of a list, place by place
module _ (l : List ℤ) where
  abbrev item : ℕ → ℤ
  item j = get_or l j (pos 0)

  pub part-listed : (i k : ℕ) → i + k ≤ length l → take k (drop i l) ≡ numbers_from item i k
  part-listed i zero h = refl
  part-listed i (suc k) h =
      let b : i < length l = omega arith in
      ap (take (suc k)) (drop-cons l i (pos 0) b) ∙ ap (λ r. item i ∷ r) (part-listed (suc i) k (omega arith))

  item-next : (i j : ℕ) → suc i ≡ j → i < length l → drop i l ≡ item i ∷ drop j l
  item-next i j e h = drop-cons l i (pos 0) h ∙ ap (λ j. item i ∷ drop j l) e

  -- and of addresses
  row-next : (i : ℕ) → 3 * suc i ≤ length l → drop (3 * i) l ≡ item (3 * i) ∷ item (3 * i + 1) ∷ item (3 * i + 2) ∷ drop (3 * suc i) l
  row-next i h =
      item-next (3 * i) (3 * i + 1) (omega arith) (omega arith)
      ∙ ap (λ r. item (3 * i) ∷ r) (item-next (3 * i + 1) (3 * i + 2) (omega arith) (omega arith))
      ∙ ap (λ r. item (3 * i) ∷ item (3 * i + 1) ∷ r) (item-next (3 * i + 2) (3 * suc i) (omega arith) (omega arith))

  pub addresses-listed : (xs : List Image) (i : ℕ) → map (λ x. x.address) xs ≡ numbers_from (triple_at l) i (length xs)
      → 3 * (i + length xs) ≤ length l → take (3 * length xs) (drop (3 * i) l) ≡ address_list xs
  addresses-listed [] i e h = refl
  addresses-listed (x ∷ xs) i e h =
      ap₂ take three (row-next i (omega arith))
      ∙ ap (λ r. item (3 * i) ∷ item (3 * i + 1) ∷ item (3 * i + 2) ∷ r) (addresses-listed xs (suc i) tails (omega arith))
      ∙ ap (λ a. items a ++ address_list xs) (sym heads)
    where
      heads : x.address ≡ triple_at l i
      heads = cc

      tails : map (λ x. x.address) xs ≡ numbers_from (triple_at l) (suc i) (length xs)
      tails = cc

      three : 3 * length (x ∷ xs) ≡ suc (suc (suc (3 * length xs)))
      three = omega arith
