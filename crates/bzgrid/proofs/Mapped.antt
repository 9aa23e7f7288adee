-- The map of a table: the counts that the walk leaves, and the doubled mesh before them.
use mathlib.Core.Path.{◌≡◌, refl, sym, ◌∙◌, ap, ap₂}
use mathlib.Core.Bool.{Bool, true, false, cond}
use mathlib.Core.List.{List, [], ◌∷◌, ◌++◌, append_assoc, append-nil}
use Prim.Native.Nat.{ℕ, zero, suc, ◌+◌, ◌*◌, ◌-◌, ◌≤◌, ◌<◌}
use native.Mathlib.Numerals.{add-one}
use native.Mathlib.Omega.{arith}
use lib.IntN.{ℤ, pos, negsuc}
use lib.ListN.{length, get_or, set, take, drop, replicate, length-append, length-drop, length-replicate, length-set}
use lib.Seq.{get_or-drop, drop-drop, drop_at, length-take-le}
use Rattle.std.proofs.lemmas.List.{get_or-take}
use Rattle.std.specs.Prelude.{◌/◌}
use native.Mathlib.Nat.{le_refl}
use Rattle.common.specs.Matrix.{Vec}
use Rattle.common.specs.Array.{vector_of, row_at}
use Rattle.grgrid.specs.Grid.{size, index}
use Rattle.grgrid.specs.Build.{concat}
use Rattle.bzsearch.specs.Search.{numbers_from}
use Rattle.bzgrid.specs.Table.{Image, listed, dense_map, others, doubled, placed, empty, sparse_map, address_list}
use Rattle.bzgrid.specs.BzGridAddresses.{padded}
use Rattle.bzgrid.specs.Code.Writing.{put_at, if_sparse, counted, placed_flat, with_mesh}
use Rattle.bzgrid.specs.Code.Walked.{before, blank}
use Rattle.bzgrid.proofs.Runs.{put-after, drop-same, split-same}
use Rattle.bzgrid.proofs.Layouts.{table}

-- ---- the counts
module _ {A : Type 0} (g : ℕ → A) where
  numbers_more : (j n : ℕ) → numbers_from g j (suc n) ≡ numbers_from g j n ++ (g (j + n) ∷ [])
  numbers_more j zero = ap (λ k. g k ∷ []) {x = j} {y = j + 0} (omega arith)
  numbers_more j (suc n) = ap (λ l. g j ∷ l) (numbers_more (suc j) n ∙ ap (λ k. numbers_from g (suc j) n ++ (g k ∷ [])) {x = suc j + n} {y = j + suc n} (omega arith))

  pub length-numbers : (j n : ℕ) → length (numbers_from g j n) ≡ n
  length-numbers j zero = refl
  length-numbers j (suc n) = ap suc (length-numbers (suc j) n)

  pub listed_more : (n : ℕ) → listed g n ++ (g n ∷ []) ≡ listed g (suc n)
  listed_more n = ap (λ k. listed g n ++ (g k ∷ [])) {x = n} {y = 0 + n} (omega arith) ∙ sym (numbers_more 0 n)

module _ (f : ℕ → ℕ) where
  abbrev numbers : ℕ → List ℤ
  numbers n = listed (λ i. pos (f i)) n

  -- from place `base` on, after p
  pub counted-after : (base : ℕ) (p r : List ℤ) → length p ≡ base → (i : ℕ) → i ≤ length r → counted f base (p ++ r) i ≡ p ++ numbers i ++ drop i r
  counted-after base p r h zero m = ap (λ l. l ++ r) (sym (append-nil p))
  counted-after base p r h (suc i) m =
      ap (λ l. put_at 1 l (base + i) (pos (f i) ∷ [])) (counted-after base p r h i (omega arith))
      ∙ put-after 1 (base + i) (p ++ numbers i) (pos (f i) ∷ []) (drop i r) place refl (omega (arith, length-drop i r))
      ∙ ap₂ ◌++◌ (append_assoc p (numbers i) (pos (f i) ∷ []) ∙ ap (λ l. p ++ l) (listed_more (λ i. pos (f i)) i)) (drop-drop 1 i r ∙ ap (λ k. drop k r) (add-one i))
    where
      place : length (p ++ numbers i) ≡ 1 * (base + i)
      place = omega (arith, length-append p (numbers i), length-numbers (λ i. pos (f i)) 0 i)

-- ---- the doubled mesh
row : (l : List ℤ) (n : ℕ) (a b c : ℤ) (s : List ℤ) → drop n l ≡ a ∷ b ∷ c ∷ s → row_at l n ≡ a ∷ b ∷ c ∷ []
row l n a b c s e = λ i. ((ap (λ k. get_or l k (pos 0)) {x = n} {y = n + 0} (omega arith) ∙ at 0) i) ∷ (at 1 i) ∷ (at 2 i) ∷ []
  where
    at : (k : ℕ) → get_or l (n + k) (pos 0) ≡ get_or (a ∷ b ∷ c ∷ s) k (pos 0)
    at k = sym (get_or-drop n l k (pos 0)) ∙ ap (λ t. get_or t k (pos 0)) e

-- the addresses from the k-th on, as an output holds them
pub placed-flat : (d : Vec ℕ) (xs : List Image) (l r : List ℤ) (k : ℕ) (map : List ℤ) → drop (3 * k) l ≡ address_list xs ++ r
    → placed_flat (doubled d) l (k + length xs) map ≡ placed d k xs (placed_flat (doubled d) l k map)
placed-flat d [] l r k map e = ap (λ n. placed_flat (doubled d) l n map) {x = k + 0} {y = k} (omega arith)
placed-flat d (x ∷ xs) l r k map e =
    ap (λ n. placed_flat (doubled d) l n map) {x = k + suc (length xs)} {y = suc k + length xs} (omega arith)
    ∙ placed-flat d xs l r (suc k) map (ap (λ n. drop n l) {x = 3 * suc k} {y = 3 * k + 3} (omega arith) ∙ sym (drop-drop 3 (3 * k) l) ∙ ap (drop 3) e)
    ∙ ap (λ v. placed d (suc k) xs (set (placed_flat (doubled d) l k map) (index (doubled d) v) (pos k))) (ap vector_of (row l (3 * k) x.address.x x.address.y x.address.z (address_list xs ++ r) e))

-- they are the first m of an output
pub placed-front : (d : Vec ℕ) (l map : List ℤ) (m k : ℕ) → k ≤ m → placed_flat d (take (3 * m) l) k map ≡ placed_flat d l k map
placed-front d l map m zero h = refl
placed-front d l map m (suc k) h =
    let at : (j : ℕ) → 3 * k + j < 3 * m → get_or (take (3 * m) l) (3 * k + j) (pos 0) ≡ get_or l (3 * k + j) (pos 0) = λ j h. get_or-take (3 * m) l (3 * k + j) (pos 0) h in
    λ i. set (placed-front d l map m k (omega arith) i) (index d (vector_of (get_or-take (3 * m) l (3 * k) (pos 0) (omega arith) i ∷ at 1 (omega arith) i ∷ at 2 (omega arith) i ∷ []))) (pos k)

pub mesh-front : (sparse : Bool) (d : Vec ℕ) (l map : List ℤ) (m : ℕ) → 3 * m ≤ length l
    → with_mesh sparse d (take (3 * m) l) (length (take (3 * m) l) / 3) map ≡ with_mesh sparse d l m map
mesh-front sparse d l map m h =
    ap (λ k. with_mesh sparse d (take (3 * m) l) k map) count
    ∙ ap (λ r. cond sparse (r ++ drop (size d) map) map) (placed-front d l (replicate (size d) (pos (size d))) m m (le_refl m))
  where
    count : length (take (3 * m) l) / 3 ≡ m
    count = omega (arith, length-take-le (3 * m) l h)

pub length-placed : (d : Vec ℕ) (xs : List Image) (k : ℕ) (map : List ℤ) → length (placed d k xs map) ≡ length map
length-placed d [] k map = refl
length-placed d (x ∷ xs) k map = length-placed d xs (suc k) (set map (index (doubled d) x.address) (pos k)) ∙ length-set map (index (doubled d) x.address) (pos k)

pub size-doubled : (d : Vec ℕ) → size (doubled d) ≡ 8 * size d
size-doubled d = omega arith

-- ---- the whole map, of an output of -1 alone
module _ (d : Vec ℕ) (g : ℕ → List Image) (b : ℕ) where
  dense-map : size d + 1 ≤ b → counted (before false g) 0 (blank b) (suc (size d)) ≡ padded (dense_map g (size d)) b
  dense-map m =
      counted-after (before false g) 0 [] (blank b) refl (suc (size d)) (omega (arith, length-replicate b (negsuc 0)))
      ∙ ap₂ ◌++◌ (ap (listed (λ i. pos (length (concat g i)))) (sym (add-one (size d)))) (drop-same b (suc (size d)) (negsuc 0) ∙ ap blank left)
    where
      left : b - suc (size d) ≡ b - length (dense_map g (size d))
      left = omega (arith, length-numbers (λ i. pos (length (concat g i))) 0 (size d + 1))

  module _ (xs : List Image) (r : List ℤ) where
    mesh-placed : placed_flat (doubled d) (address_list xs ++ r) (length xs) (replicate (size (doubled d)) (pos (size (doubled d)))) ≡ placed d 0 xs (replicate (empty d) (pos (empty d)))
    mesh-placed =
        ap (λ n. placed_flat (doubled d) (address_list xs ++ r) (length xs) (replicate n (pos n))) (size-doubled d)
        ∙ ap (λ n. placed_flat (doubled d) (address_list xs ++ r) n (replicate (empty d) (pos (empty d)))) {x = length xs} {y = 0 + length xs} (omega arith)
        ∙ placed-flat d xs (address_list xs ++ r) r 0 (replicate (empty d) (pos (empty d))) refl

    abbrev counts : ℕ → List ℤ
    counts n = listed (λ i. pos (length (concat (others g) i))) n

    counts-after : empty d + (size d + 1) ≤ b → drop (size (doubled d)) (counted (before true g) (empty d) (blank b) (suc (size d))) ≡ counts (size d + 1) ++ blank (b - (empty d + (size d + 1)))
    counts-after m =
        ap (λ l. drop (size (doubled d)) (counted (before true g) (empty d) l (suc (size d)))) (split-same b (empty d) (negsuc 0) (omega arith))
        ∙ ap (drop (size (doubled d))) (counted-after (before true g) (empty d) (blank (empty d)) (blank (b - empty d)) (length-replicate (empty d) (negsuc 0)) (suc (size d)) (omega (arith, length-replicate (b - empty d) (negsuc 0))) ∙ append_assoc (blank (empty d)) (counts (suc (size d))) (drop (suc (size d)) (blank (b - empty d))))
        ∙ drop_at (blank (empty d)) (counts (suc (size d)) ++ drop (suc (size d)) (blank (b - empty d))) (size (doubled d)) (length-replicate (empty d) (negsuc 0) ∙ sym (size-doubled d))
        ∙ ap₂ ◌++◌ (ap counts (sym (add-one (size d)))) (drop-same (b - empty d) (suc (size d)) (negsuc 0) ∙ ap blank left)
      where
        left : b - empty d - suc (size d) ≡ b - (empty d + (size d + 1))
        left = omega arith

  pub mapped : (s : Bool) (a : ℕ) → if_sparse s (8 * size d) + (size d + 1) ≤ b
      → with_mesh s (doubled d) (padded (address_list (table g s (size d))) a) (length (table g s (size d))) (counted (before s g) (if_sparse s (8 * size d)) (blank b) (suc (size d)))
      ≡ padded (cond s (sparse_map d g) (dense_map g (size d))) b
  mapped false a m = dense-map (omega arith)
  mapped true a m =
      let xs = table g true (size d) in
      let r = blank (a - length (address_list xs)) in
      ap₂ ◌++◌ (mesh-placed xs r) (counts-after xs r m)
      ∙ sym (append_assoc mesh (counts xs r (size d + 1)) (blank (b - (empty d + (size d + 1)))))
      ∙ ap (λ n. sparse_map d g ++ blank (b - n)) (sym whole)
    where
      mesh : List ℤ
      mesh = placed d 0 (table g true (size d)) (replicate (empty d) (pos (empty d)))

      whole : length (sparse_map d g) ≡ empty d + (size d + 1)
      whole =
          length-append mesh (listed (λ i. pos (length (concat (others g) i))) (size d + 1))
          ∙ ap₂ ◌+◌ (length-placed d (table g true (size d)) 0 (replicate (empty d) (pos (empty d))) ∙ length-replicate (empty d) (pos (empty d))) (length-numbers (λ i. pos (length (concat (others g) i))) 0 (size d + 1))
