-- A layout hangs on the lists of its points alone; it has so many places; and a table that starts with one reads back the same lists.
use mathlib.Core.Path.{◌≡◌, refl, sym, ◌∙◌, ap, ap₂, subst}
use mathlib.Core.Bool.{◌&&◌}
use mathlib.Core.List.Memᴰ.{head as here}
use mathlib.Core.List.Memᴰ.{map as map-in}
use mathlib.Core.List.Memᴰ.{of_map}
use mathlib.Core.List.Memᴰ.{tail as there}
use mathlib.Core.List.{List, [], ◌∷◌, ◌++◌, map as map_list, map-map, map-id}
use Prim.Native.Nat.{ℕ, zero, suc, ◌+◌, ◌*◌, ◌/◌, ◌≤◌, ◌<◌}
use native.Mathlib.Nat.{le_refl}
use native.Mathlib.Omega.{arith}
use lib.Dec.{T, ltb, lt→ltb}
use lib.IntN.{ℤ, pos}
use lib.ListN.{length, take, drop, replicate, length-append, length-map}
use lib.Seq.{take_at}
use Rattle.integer.proofs.Test.{and_in, is_true}
use Rattle.common.specs.Matrix.{Vec}
use Rattle.common.specs.Array.{items}
use Rattle.common.specs.Tested.{◌then◌}
use Rattle.grgrid.specs.Grid.{size}
use Rattle.grgrid.specs.Build.{concat}
use Rattle.grgrid.specs.Lists.{◌∈◌}
use Rattle.bzsearch.specs.Search.{numbers_from}
use Rattle.bzsearch.proofs.Listing.{length-numbers}
use Rattle.bzgrid.specs.declared.GridType.{GridType}
use Rattle.bzgrid.specs.declared.GridType.TheVariants.{Sparse, Dense}
use Rattle.bzgrid.specs.Table.{Image, image_of, named, listed, first, others, placed, empty, address_list, point_list}
use Rattle.bzgrid.specs.BzGridAddresses.{table_of, map_of, map_length}
use Rattle.bzgrid.proofs.ImageBounds.{sparse-length}
use Rattle.bztable.specs.Access.{image_places}
use Rattle.bztable.specs.Reading.{got, inside, near, triple_at, address_at, read_each}
use Rattle.bztable.proofs.TableRead.{sparse-length as sparse-map-length, address-reads, places_of, places-are, read-places, place-below}
use Rattle.bzconvert.specs.Layout.{Table, layout, told}

-- ---- a layout hangs on the lists of the points below n alone
rows-agree : {A : Type 0} (g h : ℕ → List A) (n : ℕ) → ((p : ℕ) → p < n → g p ≡ h p) → concat g n ≡ concat h n
rows-agree g h zero e = refl
rows-agree g h (suc n) e = ap₂ ◌++◌ (rows-agree g h n (λ p l. e p (omega arith))) (e n (le_refl (suc n)))

pub numbers-agree : {A : Type 0} (g h : ℕ → A) (i n : ℕ) → ((k : ℕ) → k < i + n → g k ≡ h k) → numbers_from g i n ≡ numbers_from h i n
numbers-agree g h i zero e = refl
numbers-agree g h i (suc n) e = ap₂ ◌∷◌ (e i (omega arith)) (numbers-agree g h (suc i) n (λ k l. e k (omega arith)))

-- the numbers of images before each point
abbrev before : (ℕ → List Image) → ℕ → ℤ
before g i = pos (length (concat g i))

starts-agree : (g h : ℕ → List Image) (n : ℕ) → ((p : ℕ) → p < n → g p ≡ h p) → listed (before g) (n + 1) ≡ listed (before h) (n + 1)
starts-agree g h n e = numbers-agree (before g) (before h) 0 (n + 1) (λ k l. ap (λ r. pos (length r)) (rows-agree g h k (λ p m. e p (omega arith))))

module _ (g h : ℕ → List (Vec ℤ)) (d : Vec ℕ) (e : (p : ℕ) → p < size d → g p ≡ h p) where
  images-agree : (p : ℕ) → p < size d → named g p ≡ named h p
  images-agree p l = ap (map_list (image_of p)) (e p l)

  pub table-agree : (t : GridType) → table_of t (named g) (size d) ≡ table_of t (named h) (size d)
  table-agree Sparse =
      ap₂ ◌++◌ (rows-agree (first (named g)) (first (named h)) (size d) (λ p l. ap (take 1) (images-agree p l)))
      (rows-agree (others (named g)) (others (named h)) (size d) (λ p l. ap (drop 1) (images-agree p l)))
  table-agree Dense = rows-agree (named g) (named h) (size d) images-agree

  pub map-agree : (t : GridType) → map_of t d (named g) ≡ map_of t d (named h)
  map-agree Sparse =
      ap₂ ◌++◌ (ap (λ l. placed d 0 l (replicate (empty d) (pos (empty d)))) (table-agree Sparse))
      (starts-agree (others (named g)) (others (named h)) (size d) (λ p l. ap (drop 1) (images-agree p l)))
  map-agree Dense = starts-agree (named g) (named h) (size d) images-agree

  pub layout-agree : (t : GridType) → layout t d g ≡ layout t d h
  layout-agree t = ap₂ (λ l m. record { addresses = address_list l; map = m; grg = point_list l }) (table-agree t) (map-agree t)

-- ---- lengths
pub length-addresses : (l : List Image) → length (address_list l) ≡ 3 * length l
length-addresses [] = refl
length-addresses (x ∷ l) = omega (arith, length-append (items x.address) (address_list l), length-addresses l)

pub length-points : (l : List Image) → length (point_list l) ≡ length l
length-points l = length-map l (λ x. pos x.point)

pub length-map_of : (t : GridType) (d : Vec ℕ) (g : ℕ → List Image) → length (map_of t d g) ≡ map_length t d
length-map_of Sparse d g = sparse-map-length d g []
length-map_of Dense d g = length-numbers (λ i. pos (length (concat g i))) 0 (size d + 1)

-- either table has all images
pub length-table : (t : GridType) (g : ℕ → List Image) (n : ℕ) → length (table_of t g n) ≡ length (concat g n)
length-table Sparse g n = sparse-length g n
length-table Dense g n = refl

-- ---- addresses, read one by one
module _ (l : List ℤ) where
  pub address-read : (i : ℕ) → i < length l / 3 → T (near (triple_at l i)) → address_at l i ≡ got (triple_at l i)
  address-read i h t =
      ap (λ b. inside b (triple_at l i))
      (is_true (ltb i (length l / 3) && near (triple_at l i)) (and_in (ltb i (length l / 3)) (near (triple_at l i)) (lt→ltb i (length l / 3) h) t))

  addresses-read : (places : List ℕ) → ((i : ℕ) → i ∈ places → (i < length l / 3) × T (near (triple_at l i)))
      → read_each (address_at l) places ≡ got (map_list (triple_at l) places)
  addresses-read [] h = refl
  addresses-read (i ∷ places) h =
      let k = h i (here refl) in
      λ j. address-read i k.0 k.1 j then λ a. addresses-read places (λ i m. h i (there m)) j then λ r. got (a ∷ r)

-- ---- a table that starts with another
pub record Starts (x y : Table) : Type 0 where
  pub r : List ℤ
  pub s : List ℤ
  pub u : List ℤ
  pub addresses : x.addresses ≡ y.addresses ++ r
  pub map : x.map ≡ y.map ++ s
  pub grg : x.grg ≡ y.grg ++ u

-- each number within 10^13
pub record Near (d : Vec ℕ) (g : ℕ → List (Vec ℤ)) : Type 0 where
  pub at : (p : ℕ) → p < size d → {a : Vec ℤ} → a ∈ g p → T (near a)

module _ (t : GridType) (d : Vec ℕ) (g : ℕ → List (Vec ℤ)) (some : (p : ℕ) → p < size d → 0 < length (g p))
    (x : Table) (h : Starts x (layout t d g)) where
  abbrev n : ℕ
  n = size d

  abbrev table : List Image
  table = table_of t (named g) n

  pub named-some : (p : ℕ) → p < n → 0 < length (named g p)
  named-some p l = omega (arith, length-map (g p) (image_of p), some p l)

  -- the counted part is the layout
  pub told-layout : {m : ℕ} → m ≡ length table → told t d x m ≡ layout t d g
  told-layout {m} e = λ i. record { addresses = a i; map = b i; grg = c i }
    where
      a : take (3 * m) x.addresses ≡ address_list table
      a = ap (take (3 * m)) h.addresses ∙ take_at (address_list table) h.r (3 * m) (omega (arith, length-addresses table, e))

      b : take (map_length t d) x.map ≡ map_of t d (named g)
      b = ap (take (map_length t d)) h.map ∙ take_at (map_of t d (named g)) h.s (map_length t d) (length-map_of t d (named g))

      c : take m x.grg ≡ point_list table
      c = ap (take m) h.grg ∙ take_at (point_list table) h.u m (length-points table ∙ sym e)

  -- an address has room for each image
  pub address-room : (i : ℕ) → i < length table → i < length x.addresses / 3
  address-room i l = omega (arith, ap length h.addresses, length-append (address_list table) h.r, length-addresses table)

  pub places-below : (p : ℕ) → p < n → {i : ℕ} → i ∈ places_of t (named g) n p → i < length table
  places-below p l m = place-below (named g) n named-some t p l m

  -- at the places of a point stand its images
  pub places-hold : (p : ℕ) → p < n → map_list (triple_at x.addresses) (places_of t (named g) n p) ≡ g p
  places-hold p l =
      ap (λ a. map_list (triple_at a) (places_of t (named g) n p)) h.addresses
      ∙ read-places (named g) n named-some (triple_at (address_list table ++ h.r)) (λ x. x.address) t (address-reads table h.r) p l
      ∙ map-map (λ x. x.address) (image_of p) (g p) ∙ map-id (g p)

  pub place-holds : (p : ℕ) → p < n → {i : ℕ} → i ∈ places_of t (named g) n p → triple_at x.addresses i ∈ g p
  place-holds p l {i} m = subst (λ l. triple_at x.addresses i ∈ l) (places-hold p l) (map-in (triple_at x.addresses) m)

  pub held-at : (p : ℕ) → p < n → {a : Vec ℤ} → a ∈ g p → (i : ℕ) × (i ∈ places_of t (named g) n p) × (triple_at x.addresses i ≡ a)
  held-at p l {a} m = of_map (triple_at x.addresses) (places_of t (named g) n p) (subst (λ l. a ∈ l) (sym (places-hold p l)) m)

  module _ (few : length table ≤ 1099511627776) where
    pub placed-at : (p : ℕ) → p < n → image_places t x.map n p ≡ got (places_of t (named g) n p)
    placed-at p l = ap (λ m. image_places t m n p) h.map ∙ places-are t d (named g) h.s named-some few p l

    -- the lists that are read are those that were laid out
    pub lists-read : Near d g → (p : ℕ) → p < n → (image_places t x.map n p then read_each (address_at x.addresses)) ≡ got (g p)
    lists-read close p l =
        ap (λ r. r then read_each (address_at x.addresses)) (placed-at p l)
        ∙ addresses-read x.addresses (places_of t (named g) n p) (λ i m. (address-room i (places-below p l m), close.at p l (place-holds p l m)))
        ∙ ap got (places-hold p l)
