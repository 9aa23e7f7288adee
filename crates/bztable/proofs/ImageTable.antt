-- The tables of any lists of images, of either type, and whatever their padding: each point's images stand at its places, and no address stands twice.
use mathlib.Core.Path.{◌≡◌, sym, ◌∙◌, ap, subst}
use mathlib.Core.List.Memᴰ.{map as map-in}
use mathlib.Core.List.Memᴰ.{of_map}
use mathlib.Core.List.{List, map as map_list, map-map, map-id}
use Prim.Native.Nat.{ℕ, ◌-◌, ◌<◌, ◌≤◌}
use native.Mathlib.Omega.{arith}
use lib.Dec.{T}
use lib.IntN.{ℤ, pos, negsuc}
use lib.ListN.{length, get_or, replicate, length-append, length-map}
use Rattle.common.specs.Matrix.{Vec}
use Rattle.common.proofs.Tests.{same-ok}
use Rattle.grgrid.specs.Grid.{size, index}
use Rattle.grgrid.proofs.Lists.{◌∈◌, Distinct}
use Rattle.bzgrid.specs.declared.GridType.{GridType}
use Rattle.bzgrid.specs.Table.{Image, image_of, named, address_list, point_list}
use Rattle.bzgrid.specs.BzGridAddresses.{table_of, map_of, all_found, padded}
use Rattle.bztable.specs.Access.{image_places, ImageAt}
use Rattle.bztable.specs.Reading.{got, triple_at, place_at}
use Rattle.bzsearch.proofs.Listing.{map-apart}
use Rattle.bztable.proofs.TableRead.{place-read, address-reads, point-reads, found, places_of, places-are, told-within, read-places, place-below, place_found}

-- ---- a table of m places that stands for a list of images a point: addresses, map, points
pub record Stands (t : GridType) (n : ℕ) (g : ℕ → List (Vec ℤ)) (addresses map points : List ℤ) (m : ℕ) : Type 0 where
  pub places : ℕ → List ℕ
  pub counted : (p : ℕ) → p < n → image_places t map n p ≡ got (places p)
  -- the map tells the places of no other point
  pub within : (p : ℕ) {l : List ℕ} → image_places t map n p ≡ got l → p < n
  -- the addresses at the places of a point are its images, in order
  pub reads : (p : ℕ) → p < n → map_list (triple_at addresses) (places p) ≡ g p
  -- and the table of points names it there
  pub names : (p : ℕ) → p < n → {i : ℕ} → i ∈ places p → place_at points i ≡ got p
  -- the places of all points are those of the table
  pub inside : (p : ℕ) → p < n → {i : ℕ} → i ∈ places p → i < m
  pub owner : (i : ℕ) → i < m → (p : ℕ) × (p < n) × (i ∈ places p)

-- the tables of such lists, in outputs of a, b and c places
module _ (d : Vec ℕ) (g : ℕ → List (Vec ℤ)) (t : GridType) (some : T (all_found (named g) (size d))) (few : length (table_of t (named g) (size d)) ≤ 1099511627776) (points : size d ≤ 1099511627776) (a b c : ℕ) where
  abbrev n : ℕ
  n = size d

  abbrev table : List Image
  table = table_of t (named g) n

  abbrev points_left : List ℤ
  points_left = padded (point_list table) c

  each : (p : ℕ) → p < n → 0 < length (named g p)
  each = found (named g) n some

  told : (p : ℕ) → p < n → map_list (λ i. get_or points_left i (pos 0)) (places_of t (named g) n p) ≡ map_list (λ a. pos p) (g p)
  told p l =
      read-places (named g) n each (λ i. get_or points_left i (pos 0)) (λ x. pos x.point) t (point-reads table (replicate (c - length (point_list table)) (negsuc 0))) p l
      ∙ map-map (λ x. pos x.point) (image_of p) (g p)

  name : (p : ℕ) → p < n → {i : ℕ} → i ∈ places_of t (named g) n p → place_at points_left i ≡ got p
  name p l {i} m =
      let below = place-below (named g) n each t p l m in
      place-read points_left i
      (omega (arith, below, length-append (point_list table) (replicate (c - length (point_list table)) (negsuc 0)), length-map table (λ x. pos x.point)))
      (sym (of_map (λ a. pos p) (g p) (subst (λ l. get_or points_left i (pos 0) ∈ l) (told p l) (map-in (λ i. get_or points_left i (pos 0)) m))).2)
      (omega (arith, l, points))

  pub table-stands : Stands t n g (padded (address_list table) a) (padded (map_of t d (named g)) b) points_left (length table)
  table-stands = record {
    places = places_of t (named g) n;
    counted = places-are t d (named g) (replicate (b - length (map_of t d (named g))) (negsuc 0)) each few;
    within = λ p {l} e. told-within t d (named g) (b - length (map_of t d (named g))) p e;
    reads = λ p l.
        read-places (named g) n each (triple_at (padded (address_list table) a)) (λ x. x.address) t (address-reads table (replicate (a - length (address_list table)) (negsuc 0))) p l
        ∙ map-map (λ x. x.address) (image_of p) (g p) ∙ map-id (g p);
    names = name;
    inside = place-below (named g) n each t;
    owner = place_found (named g) n each t;
  }

-- ---- what follows
-- lists of addresses that fold to their points, without repeats
pub record Folded (d : Vec ℕ) (g : ℕ → List (Vec ℤ)) : Type 0 where
  pub folds : (p : ℕ) → p < size d → {a : Vec ℤ} → a ∈ g p → index d a ≡ p
  pub apart : (p : ℕ) → Distinct (g p)

module _ {t : GridType} {n : ℕ} {g : ℕ → List (Vec ℤ)} {addresses map points : List ℤ} {m : ℕ} (w : Stands t n g addresses map points m) where
  -- a place of point p, as the map tells it
  pub stands-at : (p : ℕ) → p < n → {i : ℕ} → ImageAt t map n p i → i ∈ w.places p
  stands-at p l {i} h = subst (λ l. i ∈ l) (same-ok (sym h.read ∙ w.counted p l)) h.stands

  pub image-at : (p : ℕ) → p < n → {i : ℕ} → i ∈ w.places p → ImageAt t map n p i
  image-at p l k = record { places = w.places p; read = w.counted p l; stands = k }

  pub place-image : (p : ℕ) → p < n → {i : ℕ} → i ∈ w.places p → triple_at addresses i ∈ g p
  place-image p l {i} k = subst (λ l. triple_at addresses i ∈ l) (w.reads p l) (map-in (triple_at addresses) k)

  pub image-place : (p : ℕ) → p < n → {a : Vec ℤ} → a ∈ g p → (i : ℕ) × (i ∈ w.places p) × (triple_at addresses i ≡ a)
  image-place p l {a} k = of_map (triple_at addresses) (w.places p) (subst (λ l. a ∈ l) (sym (w.reads p l)) k)

  pub some-place : (p : ℕ) → p < n → 0 < length (g p) → 0 < length (w.places p)
  some-place p l h = subst (λ k. 0 < k) (ap length (sym (w.reads p l)) ∙ length-map (w.places p) (triple_at addresses)) h

module _ {t : GridType} {d : Vec ℕ} {g : ℕ → List (Vec ℤ)} {addresses map points : List ℤ} {m : ℕ} (w : Stands t (size d) g addresses map points m) (h : Folded d g) where
  pub place-folds : (p : ℕ) → p < size d → {i : ℕ} → i ∈ w.places p → index d (triple_at addresses i) ≡ p
  place-folds p l k = h.folds p l (place-image w p l k)

  pub address-once : (i j : ℕ) → i < m → j < m → triple_at addresses i ≡ triple_at addresses j → i ≡ j
  address-once i j l k e =
      let p = w.owner i l in
      let q = w.owner j k in
      let same = sym (place-folds q.0 q.1 q.2) ∙ ap (index d) (sym e) ∙ place-folds p.0 p.1 p.2 in
      map-apart (triple_at addresses) (w.places p.0) (subst Distinct (sym (w.reads p.0 p.1)) (h.apart p.0)) i j p.2 (subst (λ (r : ℕ). j ∈ w.places r) same q.2) e
