-- A layout of lists within the limits can be read; and what is read of a table is within the limits.
use mathlib.Core.Path.{◌≡◌, sym, ◌∙◌, ap, subst}
use mathlib.Core.Logic.{⊎_elim}
use mathlib.Core.Bool.{Bool, true, false, ◌&&◌}
use mathlib.Core.List.{List, ◌++◌, append_assoc}
use Prim.Native.Nat.{ℕ, ◌+◌, ◌*◌, ◌-◌, ◌/◌, ◌≤◌, ◌<◌}
use native.Mathlib.Nat.{le_refl, le_trans, zero-add, eq-or-lt_of_le}
use native.Mathlib.Omega.{arith}
use lib.Dec.{T, leb, ltb, leb→le, le→leb}
use lib.IntN.{ℤ, pos}
use lib.ListN.{length, get_or, replicate, length-append, length-replicate, get_or-append, get_or-replicate}
use Rattle.integer.proofs.Test.{and_l, and_r, and_in, is_true}
use Rattle.common.specs.Matrix.{Vec}
use Rattle.common.specs.Tested.{◌then◌}
use Rattle.common.proofs.Tests.{refused-not-ok}
use Rattle.grgrid.specs.Grid.{size}
use Rattle.grgrid.specs.Build.{concat}
use Rattle.bzsearch.proofs.AxisNumbers.{below}
use Rattle.bzsearch.proofs.Listing.{rows-part}
use Rattle.bzgrid.specs.declared.GridType.{GridType}
use Rattle.bzgrid.specs.declared.GridType.TheVariants.{Sparse, Dense}
use Rattle.bzgrid.specs.Table.{Image, named, listed, first, others, sparse, placed, empty, sparse_map, dense_map, point_list}
use Rattle.bzgrid.specs.BzGridAddresses.{table_of, map_of, map_length}
use Rattle.bzgrid.proofs.Accepted.{passes-first}
use Rattle.bztable.specs.Reading.{Read, got, inside, near, triple_at, address_at, place_at}
use Rattle.bztable.proofs.TableRead.{inside-got, place-read, length-placed, length-sparse, dense-room, dense-counts, sparse-room, sparse-counts, place_found}
use Rattle.bztable.proofs.DoubledMesh.{placed-is}
use Rattle.bzconvert.specs.Layout.{Table, layout, counted, is_read, all_below, all_read, table_read}
use Rattle.bzconvert.proofs.LayoutRead.{Starts, Near, named-some, length-map_of, length-points, address-read, address-room, place-holds}
use Rattle.bzconvert.proofs.Tests.{below-of, of-below}

-- 2 ^ 40
abbrev most : ℕ
most = 1099511627776

-- ---- the numbers of a map
abbrev Number : List ℤ → ℕ → Type 0
Number l i = (v : ℕ) × (get_or l i (pos 0) ≡ pos v) × (v ≤ most)

rows-rise : (g : ℕ → List Image) (n i : ℕ) → i ≤ n → length (concat g i) ≤ length (concat g n)
rows-rise g n i h =
    ⊎_elim (λ e. subst (λ (j : ℕ). length (concat g i) ≤ length (concat g j)) e (le_refl (length (concat g i))))
    (λ l. let w = rows-part g n i l in omega (arith, ap length w.1, length-append (concat g i) (g i ++ w.0))) (eq-or-lt_of_le h)

module _ (d : Vec ℕ) (g : ℕ → List Image) (r : List ℤ) (mesh : 8 * size d ≤ most) where
  module _ (few : length (sparse g (size d)) ≤ most) where
    abbrev blank : List ℤ
    blank = replicate (empty d) (pos (empty d))

    abbrev meshes : List ℤ
    meshes = placed d 0 (sparse g (size d)) blank

    abbrev starts : List ℤ
    starts = listed (λ i. pos (length (concat (others g) i))) (size d + 1)

    on-mesh : (i : ℕ) → i < 8 * size d → Number (sparse_map d g ++ r) i
    on-mesh i l =
        ⊎_elim (λ e. (8 * size d, front ∙ e.1 ∙ get_or-replicate (empty d) i (pos (empty d)) (pos 0) l, mesh))
        (λ e. (0 + e.0, front ∙ e.2, let b = e.1.inside in omega (arith, few)))
        (placed-is d i 0 (sparse g (size d)) blank (omega (arith, length-replicate (empty d) (pos (empty d)))))
      where
        front : get_or (sparse_map d g ++ r) i (pos 0) ≡ get_or meshes i (pos 0)
        front =
            ap (λ l. get_or l i (pos 0)) (append_assoc meshes starts r)
            ∙ get_or-append meshes (starts ++ r) (pos 0) i
            (omega (arith, length-placed d 0 (sparse g (size d)) blank, length-replicate (empty d) (pos (empty d))))

    others-few : length (concat (others g) (size d)) ≤ most
    others-few = omega (arith, few, length-append (concat (first g) (size d)) (concat (others g) (size d)))

    sparse-number : (i : ℕ) → i < 8 * size d + (size d + 1) → Number (sparse_map d g ++ r) i
    sparse-number i h =
        ⊎_elim (on-mesh i)
        (λ l. let k : i - 8 * size d < size d + 1 = omega arith in
        let e : i ≡ 8 * size d + (i - 8 * size d) = omega arith in (
          length (concat (others g) (i - 8 * size d)),
          ap (λ (j : ℕ). get_or (sparse_map d g ++ r) j (pos 0)) e ∙ sparse-counts d g r (i - 8 * size d) k,
          le_trans (rows-rise (others g) (size d) (i - 8 * size d) (omega arith)) others-few,
        )) (below i (8 * size d))

  dense-number : length (concat g (size d)) ≤ most → (i : ℕ) → i < size d + 1 → Number (dense_map g (size d) ++ r) i
  dense-number few i h = (
    length (concat g i),
    ap (λ (j : ℕ). get_or (dense_map g (size d) ++ r) j (pos 0)) (sym (zero-add i)) ∙ dense-counts d g r i h,
    le_trans (rows-rise g (size d) i (omega arith)) few,
  )

  map-number : (t : GridType) → length (table_of t g (size d)) ≤ most → (i : ℕ) → i < map_length t d → Number (map_of t d g ++ r) i
  map-number Sparse few = sparse-number few
  map-number Dense few = dense-number few

-- the number of images, by the end of the map
module _ (d : Vec ℕ) (g : ℕ → List Image) (r : List ℤ) (some : (p : ℕ) → p < size d → 0 < length (g p)) where
  map-counts : (t : GridType) → length (table_of t g (size d)) ≤ most → counted t (map_of t d g ++ r) (size d) ≡ got (length (table_of t g (size d)))
  map-counts Sparse few =
      (λ i. (ap (place_at (sparse_map d g ++ r)) nine ∙ end) i then λ e. got (size d + e)) ∙ ap got (sym (length-sparse g (size d) some))
    where
      nine : 9 * size d ≡ 8 * size d + size d
      nine = omega arith

      end : place_at (sparse_map d g ++ r) (8 * size d + size d) ≡ got (length (concat (others g) (size d)))
      end =
          place-read (sparse_map d g ++ r) (8 * size d + size d) (omega (arith, sparse-room d g r)) (sparse-counts d g r (size d) (omega arith))
          (omega (arith, few, length-sparse g (size d) some))
  map-counts Dense few =
      place-read (dense_map g (size d) ++ r) (size d) (omega (arith, dense-room d g r))
      (ap (λ (j : ℕ). get_or (dense_map g (size d) ++ r) j (pos 0)) (sym (zero-add (size d))) ∙ dense-counts d g r (size d) (omega arith)) few

-- ---- reads
read-is : {A : Type 0} {r : Read A} {a : A} → r ≡ got a → T (is_read r)
read-is e = rw e tt

pub inside-read : {A : Type 0} (b : Bool) (a : A) → T (is_read (inside b a)) → T b
inside-read true a t = tt
inside-read false a t = t

-- all that is read of a table with m images
module _ (t : GridType) (d : Vec ℕ) (x : Table) (m : ℕ) where
  abbrev map_is : ℕ → Bool
  map_is i = is_read (place_at x.map i)

  abbrev image_is : ℕ → Bool
  image_is i = is_read (address_at x.addresses i)

  abbrev reaches : Bool
  reaches = leb m (length x.grg)

  abbrev images : Bool
  images = all_below image_is m

  pub record AllRead : Type 0 where
    pub map : (i : ℕ) → i < map_length t d → T (map_is i)
    pub few : m ≤ most
    pub points : m ≤ length x.grg
    pub images : (i : ℕ) → i < m → T (image_is i)

  all-read : AllRead → T (all_read t d x m)
  all-read h =
      and_in (all_below map_is (map_length t d)) (leb m most && (reaches && images)) (of-below map_is (map_length t d) h.map)
      (and_in (leb m most) (reaches && images) (le→leb m most h.few)
      (and_in reaches images (le→leb m (length x.grg) h.points) (of-below image_is m h.images)))

  of-all : T (all_read t d x m) → AllRead
  of-all h =
      let u = and_r (all_below map_is (map_length t d)) (leb m most && (reaches && images)) h in
      let v = and_r (leb m most) (reaches && images) u in
      record {
        map = below-of map_is (map_length t d) (and_l (all_below map_is (map_length t d)) (leb m most && (reaches && images)) h);
        few = leb→le m most (and_l (leb m most) (reaches && images) u);
        points = leb→le m (length x.grg) (and_l reaches images v);
        images = below-of image_is m (and_r reaches images v);
      }

-- ---- a table that starts with a layout within the limits
module _ (t : GridType) (d : Vec ℕ) (g : ℕ → List (Vec ℤ)) (some : (p : ℕ) → p < size d → 0 < length (g p))
    (x : Table) (h : Starts x (layout t d g)) (few : length (table_of t (named g) (size d)) ≤ most) where
  abbrev table : List Image
  table = table_of t (named g) (size d)

  abbrev m : ℕ
  m = length table

  each : (p : ℕ) → p < size d → 0 < length (named g p)
  each = named-some t d g some x h

  counts : counted t x.map (size d) ≡ got m
  counts = ap (λ l. counted t l (size d)) h.map ∙ map-counts d (named g) h.s each t few

  module _ (mesh : 8 * size d ≤ most) (close : Near d g) where
    map-read : (i : ℕ) → i < map_length t d → T (is_read (place_at x.map i))
    map-read i l =
        let r = map-number d (named g) h.s mesh t few i l in
        let below : i < length (map_of t d (named g) ++ h.s) = omega (arith, length-append (map_of t d (named g)) h.s, length-map_of t d (named g)) in
        read-is (ap (λ l. place_at l i) h.map ∙ place-read (map_of t d (named g) ++ h.s) i below r.1 r.2)

    image-read : (i : ℕ) → i < m → T (is_read (address_at x.addresses i))
    image-read i l =
        let o = place_found (named g) (size d) each t i l in
        read-is (address-read x.addresses i (address-room t d g some x h i l) (close.at o.0 o.1 (place-holds t d g some x h o.0 o.1 o.2)))

    pub layout-readable : table_read t d x ≡ got m
    unfolding table_read
    layout-readable = ap (λ r. r then λ m. inside (all_read t d x m) m) counts ∙ ap (λ b. inside b m) (is_true (all_read t d x m) (all-read t d x m all))
      where
        all : AllRead t d x m
        all = record {
          map = map-read;
          few = few;
          points = omega (arith, ap length h.grg, length-append (point_list table) h.u, length-points table);
          images = image-read;
        }

-- ---- a table that can be read
module _ (t : GridType) (d : Vec ℕ) (x : Table) {m : ℕ} (e : table_read t d x ≡ got m) where
  pub read-all : T (all_read t d x m)
  unfolding table_read
  read-all =
      let r = passes-first (counted t x.map (size d)) (λ m. inside (all_read t d x m) m) e in
      subst (λ (k : ℕ). T (all_read t d x k)) (inside-got (all_read t d x r.0) r.2) (tested (all_read t d x r.0) r.0 r.2)
    where
      tested : (b : Bool) (k : ℕ) → inside b k ≡ got m → T b
      tested true k e = tt
      tested false k e = absurd (refused-not-ok e)

  pub parts : AllRead t d x m
  parts = of-all t d x m read-all

  pub read-few : m ≤ most
  read-few = parts.few

  pub read-points : m ≤ length x.grg
  read-points = parts.points

  pub read-near : (i : ℕ) → i < m → T (near (triple_at x.addresses i))
  read-near i l =
      and_r (ltb i (length x.addresses / 3)) (near (triple_at x.addresses i))
      (inside-read (ltb i (length x.addresses / 3) && near (triple_at x.addresses i)) (triple_at x.addresses i) (parts.images i l))
