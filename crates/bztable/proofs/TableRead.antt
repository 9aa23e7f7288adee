-- What is read of an image table by the places of a point, whatever stands after the table.
use mathlib.Core.Path.{◌≡◌, refl, sym, ◌∙◌, ap, ap₂, subst}
use mathlib.Core.Logic.{⊎_elim}
use mathlib.Core.Bool.{Bool, true, false, not, ◌&&◌}
use mathlib.Core.List.Memᴰ.{cases_cons as cases}
use mathlib.Core.List.Memᴰ.{head as here}
use mathlib.Core.List.Memᴰ.{tail as there}
use mathlib.Core.List.{List, [], ◌∷◌, ◌++◌, map, append_assoc, map-append}
use Prim.Native.Nat.{ℕ, zero, suc, ◌+◌, ◌*◌, ◌-◌, ◌≤◌, ◌<◌}
use native.Mathlib.Nat.{zero-add, le_refl, lt_trans, add_assoc, le_of_suc-le-suc, not-suc-le-zero, eq-or-lt_of_le, add-zero}
use native.Mathlib.Numerals.{add-one}
use native.Mathlib.Omega.{arith}
use lib.Dec.{T, eqb, leb, ltb, le→leb, lt→ltb, ltb→lt, ltb→lt}
use lib.IntN.{ℤ, pos, negsuc}
use lib.ListN.{length, get_or, set, replicate, take, length-append, length-set, length-replicate, get_or-append, get_or-replicate, take-append-drop}
use lib.Seq.{get_or-append-add}
use Rattle.integer.proofs.Test.{and_l, and_r, is_true}
use Rattle.common.specs.Matrix.{Vec}
use Rattle.common.specs.Array.{items}
use Rattle.common.specs.Tested.{◌then◌}
use Rattle.common.proofs.Tests.{same-ok, refused-not-ok}
use Rattle.grgrid.specs.Grid.{size, index}
use Rattle.grgrid.proofs.Lists.{◌∈◌}
use Rattle.bzgrid.specs.declared.GridType.{GridType}
use Rattle.bzgrid.specs.declared.GridType.TheVariants.{Sparse, Dense}
use Rattle.grgrid.specs.Build.{concat}
use Rattle.bzsearch.specs.Search.{numbers_from}
use Rattle.bzgrid.specs.Table.{Image, listed, dense_map, first, others, sparse, doubled, placed, empty, sparse_map, address_list, point_list}
use Rattle.bzgrid.specs.BzGridAddresses.{table_of, map_of, all_found}
use Rattle.bzgrid.proofs.Accepted.{passes-first}
use Rattle.bztable.specs.Access.{run_of, place_in, in_order, image_places, first_place}
use Rattle.bztable.specs.Reading.{got, inside, near, triple_at, address_at, place_of, place_at}
use Rattle.bzsearch.proofs.AxisNumbers.{below}
use Rattle.bzsearch.proofs.Listing.{length-rows, rows-part, length-numbers, number-item, number-in, number_of, Reads, read-part}

-- ---- one read
-- 2 ^ 40
abbrev most : ℕ
most = 1099511627776

pub inside-got : {A : Type 0} (t : Bool) {x a : A} → inside t x ≡ got a → x ≡ a
inside-got true e = same-ok e
inside-got false e = absurd (refused-not-ok e)

pub place-got : (map : List ℤ) (i : ℕ) {n : ℕ} → place_at map i ≡ got n → get_or map i (pos 0) ≡ pos n
place-got map i {n} e =
    let r = passes-first (inside (ltb i (length map)) (get_or map i (pos 0))) place_of e in
    inside-got (ltb i (length map)) r.1 ∙ natural r.0 r.2
  where
    natural : (z : ℤ) → place_of z ≡ got n → z ≡ pos n
    natural (pos m) e = ap pos (inside-got (leb m most) e)
    natural (negsuc m) e = absurd (refused-not-ok e)

pub place-read : (map : List ℤ) (i : ℕ) {n : ℕ} → i < length map → get_or map i (pos 0) ≡ pos n → n ≤ most → place_at map i ≡ got n
place-read map i {n} h e few =
    (λ k. inside (is_true (ltb i (length map)) (lt→ltb i (length map) h) k) (e k) then place_of) ∙ ap (λ t. inside t n) (is_true (leb n most) (le→leb n most few))

pub address-got : (l : List ℤ) (i : ℕ) {a : Vec ℤ} → address_at l i ≡ got a → triple_at l i ≡ a
address-got l i e = inside-got (ltb i _ && near (triple_at l i)) e

-- ---- an address and a point by their place
address-next : (l : List ℤ) (v : Vec ℤ) (n : ℕ) → triple_at (items v ++ l) (suc n) ≡ triple_at l n
address-next l v n = λ t. record { x = at (3 * suc n) (3 * n) (omega arith) t; y = at (3 * suc n + 1) (3 * n + 1) (omega arith) t; z = at (3 * suc n + 2) (3 * n + 2) (omega arith) t }
  where
    at : (i j : ℕ) → i ≡ suc (suc (suc j)) → get_or (items v ++ l) i (pos 0) ≡ get_or l j (pos 0)
    at i j e = ap (λ i. get_or (items v ++ l) i (pos 0)) e

pub address-reads : (xs : List Image) (r : List ℤ) → Reads (triple_at (address_list xs ++ r)) (λ x. x.address) xs
address-reads xs r us x ws e = ap (λ l. triple_at (address_list l ++ r) (length us)) e ∙ go us
  where
    go : (us : List Image) → triple_at (address_list (us ++ x ∷ ws) ++ r) (length us) ≡ x.address
    go [] = refl
    go (u ∷ us) = address-next (address_list (us ++ x ∷ ws) ++ r) u.address (length us) ∙ go us

pub point-reads : (xs : List Image) (r : List ℤ) → Reads (λ i. get_or (point_list xs ++ r) i (pos 0)) (λ x. pos x.point) xs
point-reads xs r us x ws e = ap (λ l. get_or (point_list l ++ r) (length us) (pos 0)) e ∙ go us
  where
    go : (us : List Image) → get_or (point_list (us ++ x ∷ ws) ++ r) (length us) (pos 0) ≡ pos x.point
    go [] = refl
    go (u ∷ us) = go us

-- ---- the parts of a table
module _ (g : ℕ → List Image) (n : ℕ) where
  pub found : T (all_found g n) → (p : ℕ) → p < n → 0 < length (g p)
  found t p h = go n t h
    where
      some : (k : ℕ) → T (not (eqb k 0)) → 0 < k
      some zero t = absurd t
      some (suc k) t = omega arith

      go : (m : ℕ) → T (all_found g m) → p < m → 0 < length (g p)
      go zero t h = absurd (not-suc-le-zero h)
      go (suc m) t h =
          ⊎_elim (λ e. rw e (some (length (g m)) (and_r (all_found g m) (not (eqb (length (g m)) 0)) t)))
          (go m (and_l (all_found g m) (not (eqb (length (g m)) 0)) t)) (eq-or-lt_of_le (le_of_suc-le-suc h))

module _ (g : ℕ → List Image) where
  -- one first image a point
  one-first : (p : ℕ) → 0 < length (g p) → length (first g p) ≡ 1
  one-first p h = go (g p) h
    where
      go : (l : List Image) → 0 < length l → length (take 1 l) ≡ 1
      go [] h = absurd (not-suc-le-zero h)
      go (x ∷ l) h = refl

  firsts : (n : ℕ) → ((p : ℕ) → p < n → 0 < length (g p)) → length (concat (first g) n) ≡ n
  firsts zero h = refl
  firsts (suc n) h = omega (arith, length-rows (first g) n, firsts n (λ p l. h p (omega arith)), one-first n (h n (le_refl (suc n))))

  start-next : (p : ℕ) → length (concat g (p + 1)) ≡ length (concat g p) + length (g p)
  start-next p = ap (λ i. length (concat g i)) (add-one p) ∙ length-rows g p

-- ---- how many images stand before those of a point
module _ (g : ℕ → List Image) where
  row_below : (n p : ℕ) → p < n → length (concat g p) + length (g p) ≤ length (concat g n)
  row_below n p h =
      let w = rows-part g n p h in
      omega (arith, ap length w.1, length-append (concat g p) (g p ++ w.0), length-append (g p) w.0)

  row-found : (n i : ℕ) → i < length (concat g n) → (p : ℕ) × (p < n) × (length (concat g p) ≤ i) × (i < length (concat g p) + length (g p))
  row-found zero i h = absurd (not-suc-le-zero h)
  row-found (suc n) i h =
      ⊎_elim (λ l. let r = row-found n i l in let k = r.1 in (r.0, omega arith, r.2, r.3)) (λ l. (n, le_refl (suc n), l, omega (arith, length-rows g n)))
      (below i (length (concat g n)))

-- ---- the numbers of a map
-- counts of the images of the first n points, from place k of the map on
module _ (g : ℕ → List Image) (n : ℕ) (few : length (concat g n) ≤ most) (l : List ℤ) (k : ℕ) (room : k + (n + 1) ≤ length l)
    (counts : (p : ℕ) → p < n + 1 → get_or l (k + p) (pos 0) ≡ pos (length (concat g p))) where
  pub count-read : (p : ℕ) → p < n → place_at l (k + p) ≡ got (length (concat g p))
  count-read p h = place-read l (k + p) (omega arith) (counts p (omega arith)) (omega (arith, row_below g n p h))

  pub next-read : (p : ℕ) → p < n → place_at l (k + p + 1) ≡ got (length (concat g p) + length (g p))
  next-read p h =
      ap (place_at l) (add_assoc k p 1) ∙ place-read l (k + (p + 1)) (omega arith) (counts (p + 1) (omega arith) ∙ ap pos (start-next g p)) (omega (arith, row_below g n p h))

listed_at : (f : ℕ → ℕ) (r : List ℤ) (n p : ℕ) → p < n → get_or (listed (λ i. pos (f i)) n ++ r) p (pos 0) ≡ pos (f p)
listed_at f r n p h =
    get_or-append (listed (λ i. pos (f i)) n) r (pos 0) p (omega (arith, length-numbers (λ i. pos (f i)) 0 n))
    ∙ number-item (λ i. pos (f i)) (pos 0) 0 n p h ∙ ap (λ i. pos (f i)) (zero-add p)

pub length-placed : (d : Vec ℕ) (at : ℕ) (xs : List Image) (l : List ℤ) → length (placed d at xs l) ≡ length l
length-placed d at [] l = refl
length-placed d at (x ∷ xs) l = length-placed d (suc at) xs (set l (index (doubled d) x.address) (pos at)) ∙ length-set l (index (doubled d) x.address) (pos at)

module _ (d : Vec ℕ) (g : ℕ → List Image) (r : List ℤ) where
  pub dense-room : 0 + (size d + 1) ≤ length (dense_map g (size d) ++ r)
  dense-room =
      omega (arith, length-append (dense_map g (size d)) r, length-numbers (λ i. pos (length (concat g i))) 0 (size d + 1))

  pub dense-counts : (p : ℕ) → p < size d + 1 → get_or (dense_map g (size d) ++ r) (0 + p) (pos 0) ≡ pos (length (concat g p))
  dense-counts p h = ap (λ i. get_or (dense_map g (size d) ++ r) i (pos 0)) (zero-add p) ∙ listed_at (λ i. length (concat g i)) r (size d + 1) p h

  abbrev mesh : List ℤ
  mesh = placed d 0 (sparse g (size d)) (replicate (empty d) (pos (empty d)))

  abbrev counts : List ℤ
  counts = listed (λ i. pos (length (concat (others g) i))) (size d + 1)

  mesh-full : length mesh ≡ 8 * size d
  mesh-full = length-placed d 0 (sparse g (size d)) (replicate (empty d) (pos (empty d))) ∙ length-replicate (empty d) (pos (empty d))

  pub sparse-length : length (sparse_map d g) ≡ 8 * size d + (size d + 1)
  sparse-length = omega (arith, mesh-full, length-append mesh counts, length-numbers (λ i. pos (length (concat (others g) i))) 0 (size d + 1))

  pub sparse-room : 8 * size d + (size d + 1) ≤ length (sparse_map d g ++ r)
  sparse-room =
      omega (
        arith,
        mesh-full,
        length-append (mesh ++ counts) r,
        length-append mesh counts,
        length-numbers (λ i. pos (length (concat (others g) i))) 0 (size d + 1),
      )

  pub sparse-counts : (p : ℕ) → p < size d + 1 → get_or (sparse_map d g ++ r) (8 * size d + p) (pos 0) ≡ pos (length (concat (others g) p))
  sparse-counts p h =
      ap (λ l. get_or l (8 * size d + p) (pos 0)) (append_assoc mesh counts r)
      ∙ ap (λ (k : ℕ). get_or (mesh ++ (counts ++ r)) (k + p) (pos 0)) (sym mesh-full)
      ∙ get_or-append-add mesh (counts ++ r) p (pos 0)
      ∙ listed_at (λ i. length (concat (others g) i)) r (size d + 1) p h

-- ---- the places of a point
abbrev pub places_of : GridType → (ℕ → List Image) → ℕ → ℕ → List ℕ
places_of Sparse g n p = p ∷ numbers_from (λ i. i) (n + length (concat (others g) p)) (length (others g p))
places_of Dense g n p = numbers_from (λ i. i) (length (concat g p)) (length (g p))

others-listed : (a b i j n : ℕ) → b + i ≡ j → numbers_from (place_in a b) (suc i) n ≡ numbers_from (λ k. k) j n
others-listed a b i j zero e = refl
others-listed a b i j (suc n) e = ap₂ ◌∷◌ e (others-listed a b (suc i) (suc j) n (omega arith))

pub sparse-order : (p n s k : ℕ) → in_order Sparse p (record { from = s + n; to = s + k + n }) ≡ p ∷ numbers_from (λ i. i) (n + s) k
sparse-order p n s k =
    ap (listed (place_in p (s + n))) count ∙ ap (λ l. p ∷ l) (others-listed p (s + n) 0 (n + s) k (omega arith))
  where
    count : s + k + n + 1 - (s + n) ≡ suc k
    count = omega arith

pub dense-order : (p s k : ℕ) → in_order Dense p (record { from = s + 0; to = s + k + 0 }) ≡ numbers_from (λ i. i) s k
dense-order p s k =
    (λ i. in_order Dense p (record { from = add-zero s i; to = add-zero (s + k) i })) ∙ ap (listed (place_in s (s + 1))) count ∙ go k
  where
    count : s + k - s ≡ k
    count = omega arith

    go : (k : ℕ) → listed (place_in s (s + 1)) k ≡ numbers_from (λ i. i) s k
    go zero = refl
    go (suc k) = ap (λ l. s ∷ l) (others-listed s (s + 1) 0 (suc s) k (omega arith))

-- ---- the first image of a point, where it has one
listed-first : (a b k : ℕ) → 0 < length (listed (place_in a b) k) → a ∈ listed (place_in a b) k
listed-first a b zero h = absurd (not-suc-le-zero h)
listed-first a b (suc k) h = here refl

module _ (map : List ℤ) (n p : ℕ) {l : List ℕ} where
  pub dense-first : image_places Dense map n p ≡ got l → (i : ℕ) × (place_at map p ≡ got i) × (0 < length l → i ∈ l)
  dense-first e =
      let r = passes-first (run_of Dense map n p) _ e in
      let s = passes-first (place_at map p) _ r.1 in
      let u = passes-first (place_at map (p + 1)) _ s.2 in
      (s.0, s.1, subst (λ l. 0 < length l → s.0 ∈ l) (same-ok r.2) (λ h. subst (λ i. i ∈ in_order Dense p r.0) (sym (ap (λ r. r.from) (same-ok u.2)) ∙ add-zero s.0) (listed-first r.0.from (r.0.from + 1) _ h)))

  pub first-stands : (t : GridType) {i : ℕ} → image_places t map n p ≡ got l → 0 < length l → first_place t map p ≡ got i → i ∈ l
  first-stands Sparse {i} e h f =
      let r = passes-first (run_of Sparse map n p) _ e in
      subst (λ l. 0 < length l → i ∈ l) (same-ok r.2) (λ h. subst (λ i. i ∈ in_order Sparse p r.0) (same-ok f) (listed-first p r.0.from _ h)) h
  first-stands Dense e h f = let r = dense-first e in subst (λ i. i ∈ l) (same-ok (sym r.1 ∙ f)) (r.2 h)

  pub first_found : (t : GridType) → image_places t map n p ≡ got l → 0 < length l → (i : ℕ) × (first_place t map p ≡ got i) × (i ∈ l)
  first_found Sparse e h = (p, refl, first-stands Sparse e h refl)
  first_found Dense e h = let r = dense-first e in (r.0, r.1, r.2 h)

-- ---- no other point has places
pub place-inside : (l : List ℤ) (i : ℕ) {n : ℕ} → place_at l i ≡ got n → i < length l
place-inside l i e = ltb→lt i (length l) (go (ltb i (length l)) (get_or l i (pos 0)) (passes-first (inside (ltb i (length l)) (get_or l i (pos 0))) place_of e).1)
  where
    go : (t : Bool) (z : ℤ) {w : ℤ} → inside t z ≡ got w → T t
    go true z e = tt
    go false z e = absurd (refused-not-ok e)

low-or : (p n : ℕ) → (n ≤ p → ⊥) → p < n
low-or p n f = ⊎_elim (λ h. h) (λ h. absurd (f h)) (below p n)

-- -1 is no number of a map
past-map : (l : List ℤ) (k i : ℕ) → length l ≤ i → {n : ℕ} → place_at (l ++ replicate k (negsuc 0)) i ≡ got n → ⊥
past-map l k i h {n} e = not-natural (sym blank ∙ place-got (l ++ replicate k (negsuc 0)) i e)
  where
    not-natural : negsuc 0 ≡ pos n → ⊥
    not-natural e = cc

    below : i - length l < k
    below = omega (arith, h, place-inside (l ++ replicate k (negsuc 0)) i e, length-append l (replicate k (negsuc 0)), length-replicate k (negsuc 0))

    split : i ≡ length l + (i - length l)
    split = omega (arith, h)

    blank : get_or (l ++ replicate k (negsuc 0)) i (pos 0) ≡ negsuc 0
    blank =
        ap (λ i. get_or (l ++ replicate k (negsuc 0)) i (pos 0)) split ∙ get_or-append-add l (replicate k (negsuc 0)) (i - length l) (pos 0)
        ∙ get_or-replicate k (i - length l) (negsuc 0) (pos 0) below

pub told-within : (t : GridType) (d : Vec ℕ) (g : ℕ → List Image) (k p : ℕ) {l : List ℕ} → image_places t (map_of t d g ++ replicate k (negsuc 0)) (size d) p ≡ got l → p < size d
told-within Sparse d g k p e =
    let m = sparse_map d g in
    let r = passes-first (run_of Sparse (m ++ replicate k (negsuc 0)) (size d) p) _ e in
    let s = passes-first (place_at (m ++ replicate k (negsuc 0)) (8 * size d + p)) _ r.1 in
    let u = passes-first (place_at (m ++ replicate k (negsuc 0)) (8 * size d + p + 1)) _ s.2 in
    low-or p (size d) (λ h. past-map m k (8 * size d + p + 1) (omega (arith, h, sparse-length d g [])) u.1)
told-within Dense d g k p e =
    let m = dense_map g (size d) in
    let r = passes-first (run_of Dense (m ++ replicate k (negsuc 0)) (size d) p) _ e in
    let s = passes-first (place_at (m ++ replicate k (negsuc 0)) p) _ r.1 in
    let u = passes-first (place_at (m ++ replicate k (negsuc 0)) (p + 1)) _ s.2 in
    low-or p (size d) (λ h. past-map m k (p + 1) (omega (arith, h, length-numbers (λ i. pos (length (concat g i))) 0 (size d + 1))) u.1)

-- ---- a table
module _ (g : ℕ → List Image) (n : ℕ) (some : (p : ℕ) → p < n → 0 < length (g p)) where
  pub length-sparse : length (sparse g n) ≡ n + length (concat (others g) n)
  length-sparse = omega (arith, length-append (concat (first g) n) (concat (others g) n), firsts g n some)

pub places-are : (t : GridType) (d : Vec ℕ) (g : ℕ → List Image) (r : List ℤ) → ((p : ℕ) → p < size d → 0 < length (g p)) → length (table_of t g (size d)) ≤ most
    → (p : ℕ) → p < size d → image_places t (map_of t d g ++ r) (size d) p ≡ got (places_of t g (size d) p)
places-are Sparse d g r some few p h =
    (λ i. (x i then λ s. y i then λ e. got (record { from = s + size d; to = e + size d })) then λ r. got (in_order Sparse p r))
    ∙ ap got (sparse-order p (size d) (length (concat (others g) p)) (length (others g p)))
  where
    low : length (concat (others g) (size d)) ≤ most
    low = omega (arith, few, length-sparse g (size d) some)

    x : place_at (sparse_map d g ++ r) (8 * size d + p) ≡ got (length (concat (others g) p))
    x = count-read (others g) (size d) low (sparse_map d g ++ r) (8 * size d) (sparse-room d g r) (sparse-counts d g r) p h

    y : place_at (sparse_map d g ++ r) (8 * size d + p + 1) ≡ got (length (concat (others g) p) + length (others g p))
    y = next-read (others g) (size d) low (sparse_map d g ++ r) (8 * size d) (sparse-room d g r) (sparse-counts d g r) p h
places-are Dense d g r some few p h =
    (λ i. (x i then λ s. y i then λ e. got (record { from = s + 0; to = e + 0 })) then λ r. got (in_order Dense p r))
    ∙ ap got (dense-order p (length (concat g p)) (length (g p)))
  where
    x : place_at (dense_map g (size d) ++ r) p ≡ got (length (concat g p))
    x = ap (place_at (dense_map g (size d) ++ r)) (sym (zero-add p)) ∙ count-read g (size d) few (dense_map g (size d) ++ r) 0 (dense-room d g r) (dense-counts d g r) p h

    y : place_at (dense_map g (size d) ++ r) (p + 1) ≡ got (length (concat g p) + length (g p))
    y = ap (λ (i : ℕ). place_at (dense_map g (size d) ++ r) (i + 1)) (sym (zero-add p)) ∙ next-read g (size d) few (dense_map g (size d) ++ r) 0 (dense-room d g r) (dense-counts d g r) p h

module _ (g : ℕ → List Image) (n : ℕ) (some : (p : ℕ) → p < n → 0 < length (g p)) {B : Type 0} (at : ℕ → B) (f : Image → B) where
  module _ (r : Reads at f (sparse g n)) (p : ℕ) (h : p < n) where
    first_read : at p ∷ [] ≡ map f (first g p)
    first_read =
        let w = rows-part (first g) n p h in
        ap₂ (λ i m. map at (numbers_from (λ j. j) i m)) (sym (firsts g p (λ q l. some q (lt_trans l h)))) (sym (one-first g p (some p h)))
        ∙ read-part at f (sparse g n) r (concat (first g) p) (first g p) (w.0 ++ concat (others g) n)
        (ap (λ l. l ++ concat (others g) n) w.1 ∙ append_assoc (concat (first g) p) (first g p ++ w.0) (concat (others g) n) ∙ ap (λ l. concat (first g) p ++ l) (append_assoc (first g p) w.0 (concat (others g) n)))

    others-read : map at (numbers_from (λ i. i) (n + length (concat (others g) p)) (length (others g p))) ≡ map f (others g p)
    others-read =
        let w = rows-part (others g) n p h in
        ap (λ i. map at (numbers_from (λ j. j) i (length (others g p)))) (sym before)
        ∙ read-part at f (sparse g n) r (concat (first g) n ++ concat (others g) p) (others g p) w.0
        (ap (λ l. concat (first g) n ++ l) w.1 ∙ sym (append_assoc (concat (first g) n) (concat (others g) p) (others g p ++ w.0)))
      where
        before : length (concat (first g) n ++ concat (others g) p) ≡ n + length (concat (others g) p)
        before = omega (arith, length-append (concat (first g) n) (concat (others g) p), firsts g n some)

  pub read-places : (t : GridType) → Reads at f (table_of t g n) → (p : ℕ) → p < n → map at (places_of t g n p) ≡ map f (g p)
  read-places Sparse r p h = ap₂ ◌++◌ (first_read r p h) (others-read r p h) ∙ sym (map-append f (first g p) (others g p)) ∙ ap (map f) (take-append-drop 1 (g p))
  read-places Dense r p h = let w = rows-part g n p h in read-part at f (concat g n) r (concat g p) (g p) w.0 w.1

-- ---- every place of the table belongs to a point
module _ (g : ℕ → List Image) (n : ℕ) (some : (p : ℕ) → p < n → 0 < length (g p)) where
  pub place-below : (t : GridType) (p : ℕ) → p < n → {i : ℕ} → i ∈ places_of t g n p → i < length (table_of t g n)
  place-below Sparse p h {i} m =
      ⊎_elim (λ e. omega (arith, length-sparse g n some)) (λ k. omega (arith, length-sparse g n some, number_of (n + length (concat (others g) p)) (length (others g p)) k, row_below (others g) n p h)) (cases m)
  place-below Dense p h m = omega (arith, number_of (length (concat g p)) (length (g p)) m, row_below g n p h)

  pub place_found : (t : GridType) (i : ℕ) → i < length (table_of t g n) → (p : ℕ) × (p < n) × (i ∈ places_of t g n p)
  place_found Sparse i h = ⊎_elim (λ l. (i, l, here refl)) other (below i n)
    where
      other : n ≤ i → (p : ℕ) × (p < n) × (i ∈ places_of Sparse g n p)
      other l =
          let r = row-found (others g) n (i - n) (omega (arith, length-sparse g n some)) in
          (r.0, r.1, there (number-in (n + length (concat (others g) r.0)) (length (others g r.0)) i (omega (arith, r.2)) (omega (arith, r.3))))
  place_found Dense i h = let r = row-found g n i h in (r.0, r.1, number-in (length (concat g r.0)) (length (g r.0)) i r.2 r.3)
