-- A table that can be read and passes the tests place by place is the layout of the lists that are read.
use mathlib.Core.Path.{◌≡◌, refl, sym, ◌∙◌, ap, ap₂, subst}
use mathlib.Core.List.Memᴰ.{head as here}
use mathlib.Core.List.Memᴰ.{tail as there}
use mathlib.Core.List.{List, [], ◌∷◌, ◌++◌, map, map-map, map-id}
use Prim.Native.Nat.{ℕ, ◌+◌, ◌*◌, ◌≤◌, ◌<◌}
use native.Mathlib.Nat.{zero-add, add-zero, add_assoc}
use native.Mathlib.Omega.{arith}
use lib.Dec.{T}
use lib.IntN.{ℤ, pos, nat_abs}
use lib.ListN.{length, get_or, take, drop, replicate, length-map, length-drop, length-replicate, get_or-map}
use lib.Seq.{take-add, ext_get_or, length-take-le, get_or-take, get_or-drop}
use Rattle.common.specs.Matrix.{Vec, origin}
use Rattle.common.specs.Tested.{◌then◌}
use Rattle.common.proofs.Tests.{same-ok}
use Rattle.grgrid.specs.Build.{concat}
use Rattle.grgrid.specs.Grid.{size, index}
use Rattle.grgrid.specs.Lists.{◌∈◌}
use Rattle.bzsearch.proofs.Listing.{length-numbers, number-item}
use Rattle.bzgrid.specs.declared.GridType.{GridType}
use Rattle.bzgrid.specs.declared.GridType.TheVariants.{Sparse, Dense}
use Rattle.bzgrid.specs.Table.{Image, image_of, named, listed, doubled, placed, empty, address_list, point_list}
use Rattle.bzgrid.specs.BzGridAddresses.{table_of, map_of, map_length}
use Rattle.bztable.specs.Access.{image_places, in_order}
use Rattle.bztable.specs.Reading.{got, triple_at, address_at, place_at}
use Rattle.bztable.proofs.TableRead.{place-got, address-got, length-placed}
use Rattle.bztable.proofs.DoubledMesh.{key_of}
use Rattle.bzconvert.specs.Layout.{Table, list_at, counted, table_read, good_list}
use Rattle.bzconvert.specs.Standing.{Good, Laid}
use Rattle.bzconvert.specs.Code.ByPlaces.{first_count}
use Rattle.bzconvert.proofs.Tests.{GoodList, list-good}
use Rattle.bzconvert.proofs.LayoutRead.{numbers-agree}
use Rattle.bzconvert.proofs.Readable.{read-points}
use Rattle.bzconvert.proofs.PlaceTests.{each-is}
use Rattle.bzconvert.proofs.PointTest.{Point, point-list}
use Rattle.bzconvert.proofs.MeshWalks.{OnMesh, mesh-laid}
use Rattle.bzconvert.proofs.ReadPlaces.{map-read, map-number, map-room, addresses-room, counted-is}
use Rattle.bzconvert.proofs.Blocks.{start, part, row, parts-shown, table-shown, part-listed, addresses-listed}

map-agree : {A B : Type 0} (f g : A → B) (l : List A) → ((a : A) → a ∈ l → f a ≡ g a) → map f l ≡ map g l
map-agree f g [] e = refl
map-agree f g (a ∷ l) e = ap₂ ◌∷◌ (e a (here refl)) (map-agree f g l (λ a m. e a (there m)))

-- a table that can be read, and passes the tests of its points and of its first count
pub record Passed (t : GridType) (d : Vec ℕ) (x : Table) (m : ℕ) : Type 0 where
  pub read : table_read t d x ≡ got m
  pub points : (p : ℕ) → p < size d → Point t d x p
  pub from : place_at x.map (first_count t (size d)) ≡ got 0

module _ {t : GridType} {d : Vec ℕ} {x : Table} {m : ℕ} (h : Passed t d x m) where
  abbrev n : ℕ
  n = size d

  abbrev g : ℕ → List (Vec ℤ)
  g = list_at t d x

  abbrev table : List Image
  table = table_of t (named g) n

  abbrev at : ℕ → Vec ℤ
  at = triple_at x.addresses

  -- how many images are counted before those of each point
  abbrev count : GridType → ℕ → ℕ
  count t p = nat_abs (get_or x.map (first_count t n + p) (pos 0))

  abbrev c : ℕ → ℕ
  c = count t

  none : c 0 ≡ 0
  none = ap nat_abs (ap (λ i. get_or x.map i (pos 0)) (add-zero (first_count t n)) ∙ place-got x.map (first_count t n) h.from)

  -- ---- each point
  placed-row : (p : ℕ) → p < n → image_places t x.map n p ≡ got (row t n c p)
  placed-row p l = go t h.read
    where
      go : (t : GridType) → table_read t d x ≡ got m → image_places t x.map n p ≡ got (row t n (count t) p)
      go Sparse e =
          let one = map-read Sparse d x e (8 * n + p) (omega arith) in
          let two = ap (place_at x.map) (add_assoc (8 * n) p 1) ∙ map-read Sparse d x e (8 * n + (p + 1)) (omega arith) in
          (λ i. (one i then λ s. two i then λ e. got (record { from = s + n; to = e + n })) then λ r. got (in_order Sparse p r))
      go Dense e =
          let one = ap (place_at x.map) (sym (zero-add p)) ∙ map-read Dense d x e (0 + p) (omega arith) in
          let two = ap (place_at x.map) (sym (zero-add (p + 1))) ∙ map-read Dense d x e (0 + (p + 1)) (omega arith) in
          (λ i. (one i then λ s. two i then λ e. got (record { from = s + 0; to = e + 0 })) then λ r. got (in_order Dense p r))

  places-are : (p : ℕ) (l : p < n) → (h.points p l).places ≡ row t n c p
  places-are p l = same-ok (sym (h.points p l).placed ∙ placed-row p l)

  list-good-at : (p : ℕ) → p < n → GoodList d p (g p)
  list-good-at p l = list-good d p (g p) (subst (λ l. T (good_list d p l)) (sym (point-list t d x p (h.points p l))) (h.points p l).good)

  good : Good d g
  good = record { some = λ p l. (list-good-at p l).some; folds = λ p l m. (list-good-at p l).folds m; once = λ p l. (list-good-at p l).once }

  list-is : (p : ℕ) → p < n → g p ≡ map at (row t n c p)
  list-is p l =
      point-list t d x p (h.points p l) ∙ sym (each-is (address_at x.addresses) at (λ i b. address-got x.addresses i) (h.points p l).places (h.points p l).read)
      ∙ ap (map at) (places-are p l)

  some : (p : ℕ) → p < n → 0 < length (row t n c p)
  some p l = omega (arith, (list-good-at p l).some, ap length (list-is p l), length-map (row t n c p) at)

  address-shown : (p : ℕ) → p < n → map (λ x. x.address) (named g p) ≡ map at (row t n c p)
  address-shown p l = map-map (λ x. x.address) (image_of p) (g p) ∙ map-id (g p) ∙ list-is p l

  point-shown : (p : ℕ) → p < n → map (λ x. pos x.point) (named g p) ≡ map (λ i. get_or x.grg i (pos 0)) (row t n c p)
  point-shown p l =
      map-map (λ x. pos x.point) (image_of p) (g p) ∙ ap (map (λ _. pos p)) (list-is p l) ∙ map-map (λ _. pos p) at (row t n c p)
      ∙ map-agree (λ _. pos p) (λ i. get_or x.grg i (pos 0)) (row t n c p)
      (λ i k. sym (place-got x.grg i ((h.points p l).named i (subst (λ l. i ∈ l) (sym (places-are p l)) k))))

  -- ---- all of them
  all : start t n + c n ≡ m
  all = same-ok (sym (go t h.read) ∙ counted-is t d x h.read)
    where
      go : (t : GridType) → table_read t d x ≡ got m → counted t x.map n ≡ got (start t n + count t n)
      go Sparse e =
          let nine : 9 * n ≡ 8 * n + n = omega arith in
          λ i. (ap (place_at x.map) nine ∙ map-read Sparse d x e (8 * n + n) (omega arith)) i then λ e. got (n + e)
      go Dense e = ap (place_at x.map) (sym (zero-add n)) ∙ map-read Dense d x e (0 + n) (omega arith) ∙ ap got (sym (zero-add (count Dense n)))

  addresses-shown : map (λ x. x.address) table ≡ listed at m
  addresses-shown = table-shown n c none (λ x. x.address) at (named g) t address-shown some ∙ ap (listed at) all

  full : length table ≡ m
  full = sym (length-map table (λ x. x.address)) ∙ ap length addresses-shown ∙ length-numbers at 0 m

  before : (i : ℕ) → i ≤ n → length (concat (part t (named g)) i) ≡ c i
  before i l =
      sym (length-map (concat (part t (named g)) i) (λ x. x.address)) ∙ ap length (parts-shown n c none (λ x. x.address) at (named g) t address-shown some i l)
      ∙ length-numbers at (start t n) (c i)

  addresses-laid : take (3 * m) x.addresses ≡ address_list table
  addresses-laid =
      ap (λ k. take (3 * k) x.addresses) (sym full)
      ∙ addresses-listed x.addresses table 0 (addresses-shown ∙ ap (listed at) (sym full)) (omega (arith, full, addresses-room t d x h.read))

  points-laid : take m x.grg ≡ point_list table
  points-laid =
      part-listed x.grg 0 m (omega (arith, read-points t d x h.read))
      ∙ sym (table-shown n c none (λ x. pos x.point) (λ i. get_or x.grg i (pos 0)) (named g) t point-shown some
      ∙ ap (listed (λ i. get_or x.grg i (pos 0))) all)

  -- ---- the counts of the map
  counts-laid : first_count t n + (n + 1) ≤ length x.map
      → ((i : ℕ) → i < n + 1 → get_or x.map (first_count t n + i) (pos 0) ≡ pos (c i))
      → take (n + 1) (drop (first_count t n) x.map) ≡ listed (λ i. pos (length (concat (part t (named g)) i))) (n + 1)
  counts-laid room r =
      part-listed counts 0 (n + 1) (omega (arith, room, length-drop (first_count t n) x.map))
      ∙ numbers-agree (λ j. get_or counts j (pos 0)) (λ i. pos (length (concat (part t (named g)) i))) 0 (n + 1)
      (λ i l. get_or-drop (first_count t n) x.map i (pos 0) ∙ r i (omega arith) ∙ ap pos (sym (before i (omega arith))))
    where
      counts : List ℤ
      counts = drop (first_count t n) x.map

  -- an address by its place
  falls : (i : ℕ) → i < length table → index (doubled d) (get_or table i (image_of 0 origin)).address ≡ key_of d x.addresses i
  falls i l =
      ap (index (doubled d))
      (sym (get_or-map (λ x. x.address) table i (image_of 0 origin)) ∙ ap (λ l. get_or l i origin) addresses-shown
      ∙ number-item at origin 0 m i (omega (arith, full)) ∙ ap at (zero-add i))

-- ---- the map
dense-laid : {d : Vec ℕ} {x : Table} {m : ℕ} → Passed Dense d x m → take (map_length Dense d) x.map ≡ map_of Dense d (named (list_at Dense d x))
dense-laid {d} {x} h =
    let room : size d < length x.map = map-room Dense d x h.read (size d) (omega arith) in
    counts-laid h (omega arith)
    (λ i l. ap (λ i. get_or x.map i (pos 0)) (zero-add i) ∙ map-number Dense d x h.read i l
    ∙ ap (λ i. pos (nat_abs (get_or x.map i (pos 0)))) (sym (zero-add i)))

abbrev pub Meshed : Vec ℕ → Table → ℕ → Type 0
Meshed d x m = (k : ℕ) → k < 8 * size d → OnMesh d x.addresses m k (nat_abs (get_or x.map k (pos 0)))

module _ {d : Vec ℕ} {x : Table} {m : ℕ} (h : Passed Sparse d x m) (on : Meshed d x m) where
  abbrev images : List Image
  images = table_of Sparse (named (list_at Sparse d x)) (size d)

  abbrev mesh : List ℤ
  mesh = placed d 0 images (replicate (empty d) (pos (empty d)))

  room : 8 * size d + (size d + 1) ≤ length x.map
  room = let l : 8 * size d + size d < length x.map = map-room Sparse d x h.read (8 * size d + size d) (omega arith) in omega arith

  in-mesh : (k : ℕ) → k < 8 * size d → get_or x.map k (pos 0) ≡ get_or mesh k (pos 0)
  in-mesh k l =
      map-number Sparse d x h.read k (omega arith)
      ∙ sym (mesh-laid d x.addresses images (falls h) k l
      (subst (λ (m : ℕ). OnMesh d x.addresses m k (nat_abs (get_or x.map k (pos 0)))) (sym (full h)) (on k l)))

  mesh-part : take (8 * size d) x.map ≡ mesh
  mesh-part =
      ext_get_or (pos 0) (take (8 * size d) x.map) mesh
      (long ∙ sym (length-placed d 0 images (replicate (empty d) (pos (empty d))) ∙ length-replicate (empty d) (pos (empty d))))
      (λ k l. let b : k < 8 * size d = omega (arith, long) in get_or-take (8 * size d) x.map k (pos 0) b ∙ in-mesh k b)
    where
      long : length (take (8 * size d) x.map) ≡ 8 * size d
      long = length-take-le (8 * size d) x.map (omega (arith, room))

  sparse-laid : take (map_length Sparse d) x.map ≡ map_of Sparse d (named (list_at Sparse d x))
  sparse-laid =
      take-add (8 * size d) (size d + 1) x.map
      ∙ ap₂ ◌++◌ mesh-part (counts-laid h room (λ i l. map-number Sparse d x h.read (8 * size d + i) (omega arith)))

-- ---- the table
map-laid : (t : GridType) {d : Vec ℕ} {x : Table} {m : ℕ} → Passed t d x m → (t ≡ Sparse → Meshed d x m)
    → take (map_length t d) x.map ≡ map_of t d (named (list_at t d x))
map-laid Sparse h on = sparse-laid h (on refl)
map-laid Dense h on = dense-laid h

pub laid-by-places : {t : GridType} {d : Vec ℕ} {x : Table} {m : ℕ} → Passed t d x m → (t ≡ Sparse → Meshed d x m) → Laid t d x m (list_at t d x)
laid-by-places {t} h on = record {
  good = good h;
  laid = λ i. record { addresses = addresses-laid h i; map = map-laid t h on i; grg = points-laid h i };
}
