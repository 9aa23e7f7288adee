-- The test place by place is the test whether a table that can be read could stand.
use mathlib.Core.Path.{◌≡◌, sym, ◌∙◌, ap, subst}
use mathlib.Core.Bool.{Bool, ◌&&◌}
use mathlib.Core.List.Memᴰ.{map as map-in}
use mathlib.Core.List.Memᴰ.{of_map}
use mathlib.Core.List.{List, ◌++◌, map as map_list, map-map, append_assoc}
use Prim.Native.Nat.{ℕ, ◌+◌, ◌*◌, ◌≤◌, ◌<◌, zero-le}
use native.Mathlib.Nat.{add-zero}
use native.Mathlib.Omega.{arith}
use lib.Dec.{T}
use lib.IntN.{ℤ, pos, nat_abs}
use lib.ListN.{length, get_or, replicate, length-append, length-replicate, get_or-append}
use Rattle.integer.proofs.Test.{and_l, and_r, and_in, same_test}
use Rattle.common.specs.Matrix.{Vec, origin}
use Rattle.common.proofs.Tests.{same-ok}
use Rattle.grgrid.specs.Grid.{size, index}
use Rattle.grgrid.specs.Lists.{◌∈◌}
use Rattle.grgrid.proofs.Folding.{Sides}
use Rattle.bzgrid.specs.declared.GridType.{GridType}
use Rattle.bzgrid.specs.declared.GridType.TheVariants.{Sparse, Dense}
use Rattle.bzgrid.specs.Table.{Image, image_of, named, listed, others, doubled, placed, empty, sparse_map, point_list}
use Rattle.bzgrid.specs.BzGridAddresses.{table_of}
use Rattle.bzgrid.specs.Code.Walked.{MeshFits}
use Rattle.grgrid.specs.Build.{concat}
use Rattle.bztable.specs.Reading.{got, triple_at, place_at}
use Rattle.bztable.proofs.TableRead.{place-read, point-reads, places_of, read-places, dense-room, dense-counts, sparse-room, sparse-counts, length-placed}
use Rattle.bztable.proofs.DoubledMesh.{address-at, key_of}
use Rattle.bzconvert.specs.Layout.{Table, all_below, list_at, table_read, could_stand}
use Rattle.bzconvert.specs.Standing.{Laid}
use Rattle.bzconvert.specs.Code.ByPlaces.{holds, point_stands, first_count, mesh_holds, mesh_finds, mesh_stands, by_places}
use Rattle.bzconvert.proofs.Tests.{below-of, of-below, good-list}
use Rattle.bzconvert.proofs.LayoutRead.{named-some, length-points, placed-at, places-below}
use Rattle.bzconvert.proofs.Standing.{Holds, stands-laid, laid-count, laid-holds, stands-exactly}
use Rattle.bzconvert.proofs.PointTest.{holds-of, of-holds, point-of, of-point, good-point}
use Rattle.bzconvert.proofs.MeshWalks.{OnMesh, mesh-of, all-hold, all-found, laid-mesh}
use Rattle.bzconvert.proofs.ReadPlaces.{map-read, map-number, image-read}
use Rattle.bzconvert.proofs.Laying.{Passed, Meshed, laid-by-places}

abbrev held : Table → ℕ → ℕ
held x k = nat_abs (get_or x.map k (pos 0))

-- ---- the parts of the test
module _ (t : GridType) (d : Vec ℕ) (x : Table) (m : ℕ) where
  abbrev points : Bool
  points = all_below (point_stands t d x) (size d)

  abbrev starts : Bool
  starts = holds x.map 0 (first_count t (size d))

  abbrev mesh : Bool
  mesh = mesh_stands d x m t

module _ (d : Vec ℕ) (x : Table) (m : ℕ) where
  abbrev hold : Bool
  hold = all_below (mesh_holds d x m) (empty d)

  abbrev found : Bool
  found = all_below (mesh_finds d x m) m

-- ---- from the places
module _ (t : GridType) (d : Vec ℕ) (s : Sides d) (x : Table) (m : ℕ) (e : table_read t d x ≡ got m) (h : T (by_places t d x m)) where
  rest : T (starts t d x m && mesh t d x m)
  rest = and_r (points t d x m) (starts t d x m && mesh t d x m) h

  passed : Passed t d x m
  passed = record {
    read = e;
    points = λ p l. point-of t d x p (below-of (point_stands t d x) (size d) (and_l (points t d x m) (starts t d x m && mesh t d x m) h) p l);
    from = holds-of x.map 0 (first_count t (size d)) (and_l (starts t d x m) (mesh t d x m) rest);
  }

  meshed : t ≡ Sparse → Meshed d x m
  meshed = go t e (and_r (starts t d x m) (mesh t d x m) rest)
    where
      go : (t : GridType) → table_read t d x ≡ got m → T (mesh t d x m) → t ≡ Sparse → Meshed d x m
      go Sparse e u i =
          mesh-of d s x m (held x) (λ k l. map-read Sparse d x e k (omega arith)) (image-read Sparse d x e) (and_l (hold d x m) (found d x m) u)
          (and_r (hold d x m) (found d x m) u)
      go Dense e u i = absurd (let z : ◌≡◌ {A = ℕ} 0 1 = cc in omega arith)

  places-stand : T (could_stand t d x m)
  places-stand = ((stands-exactly t d x m e).1 (list_at t d x) (laid-by-places passed meshed)).0

-- ---- from the layout
module _ (d : Vec ℕ) (x : Table) (g : ℕ → List (Vec ℤ)) where
  abbrev n : ℕ
  n = size d

  -- the third table names the point of each place
  module _ (t : GridType) (w : Holds t d x g) where
    abbrev table : List Image
    table = table_of t (named g) n

    abbrev places : ℕ → List ℕ
    places = places_of t (named g) n

    abbrev name : ℕ → ℤ
    name i = get_or x.grg i (pos 0)

    some : (p : ℕ) → p < n → 0 < length (named g p)
    some = named-some t d g w.good.some x w.starts

    names : (p : ℕ) → p < n → map_list name (places p) ≡ map_list (λ _. pos p) (g p)
    names p l =
        ap (λ r. map_list (λ i. get_or r i (pos 0)) (places p)) w.starts.grg
        ∙ read-places (named g) n some (λ i. get_or (point_list table ++ w.starts.u) i (pos 0)) (λ x. pos x.point) t (point-reads table w.starts.u) p l
        ∙ map-map (λ x. pos x.point) (image_of p) (g p)

    named-at : n ≤ 1099511627776 → (p : ℕ) → p < n → {i : ℕ} → i ∈ places p → place_at x.grg i ≡ got p
    named-at small p l {i} k =
        let b = places-below t d g w.good.some x w.starts p l k in
        place-read x.grg i (omega (arith, b, ap length w.starts.grg, length-append (point_list table) w.starts.u, length-points table))
        (sym (of_map (λ _. pos p) (g p) (subst (λ l. name i ∈ l) (names p l) (map-in name k))).2) (omega arith)

  -- no image is counted before the first point
  counts-start : (t : GridType) → Holds t d x g → place_at x.map (first_count t n) ≡ got 0
  counts-start Sparse w =
      let r = w.starts.s in
      place-read x.map (8 * n) (omega (arith, ap length w.starts.map, sparse-room d (named g) r))
      (ap (λ l. get_or l (8 * n) (pos 0)) w.starts.map
      ∙ ap (λ (i : ℕ). get_or (sparse_map d (named g) ++ r) i (pos 0)) (sym (add-zero (8 * n))) ∙ sparse-counts d (named g) r 0 (omega arith)) zero-le
  counts-start Dense w =
      let r = w.starts.s in
      place-read x.map 0 (omega (arith, ap length w.starts.map, dense-room d (named g) r))
      (ap (λ l. get_or l 0 (pos 0)) w.starts.map ∙ dense-counts d (named g) r 0 (omega arith)) zero-le

  -- the doubled mesh as it was placed
  module _ (w : Holds Sparse d x g) where
    abbrev images : List Image
    images = table_of Sparse (named g) n

    abbrev meshes : List ℤ
    meshes = placed d 0 images (replicate (empty d) (pos (empty d)))

    abbrev counts : List ℤ
    counts = listed (λ i. pos (length (concat (others (named g)) i))) (n + 1)

    in-mesh : (k : ℕ) → k < 8 * n → get_or x.map k (pos 0) ≡ get_or meshes k (pos 0)
    in-mesh k l =
        ap (λ l. get_or l k (pos 0)) (w.starts.map ∙ append_assoc meshes counts w.starts.s)
        ∙ get_or-append meshes (counts ++ w.starts.s) (pos 0) k
        (omega (arith, length-placed d 0 images (replicate (empty d) (pos (empty d))), length-replicate (empty d) (pos (empty d))))

    falls : (i : ℕ) → i < length images → index (doubled d) (get_or images i (image_of 0 origin)).address ≡ key_of d x.addresses i
    falls i h = ap (index (doubled d)) (sym (ap (λ l. triple_at l i) w.starts.addresses ∙ address-at images w.starts.r i h))

    on-mesh : (k : ℕ) → k < 8 * n → {v : ℕ} → get_or x.map k (pos 0) ≡ pos v → OnMesh d x.addresses (length images) k v
    on-mesh k l f = laid-mesh d x.addresses images falls k l (sym (in-mesh k l) ∙ f)

module _ (t : GridType) (d : Vec ℕ) (s : Sides d) (small : size d ≤ 1099511627776) (x : Table) (m : ℕ) (e : table_read t d x ≡ got m)
    (h : T (could_stand t d x m)) where
  abbrev lists : ℕ → List (Vec ℤ)
  lists = list_at t d x

  laid : Laid t d x m lists
  laid = stands-laid t d x m h

  w : Holds t d x lists
  w = laid-holds e laid

  point : (p : ℕ) → p < size d → T (point_stands t d x p)
  point p l =
      let good = good-list d p (lists p) (record { some = laid.good.some p l; folds = λ m. laid.good.folds p l m; once = laid.good.once p l }) in
      let at = placed-at t d lists w.good.some x w.starts w.few p l in
      of-point t d x p (good-point t d x p good (λ places r i k. named-at d x lists t w small p l (subst (λ l. i ∈ l) (same-ok (sym r ∙ at)) k)))

  meshes-stand : T (mesh t d x m)
  meshes-stand = go t e w (laid-count e laid)
    where
      go : (t : GridType) → table_read t d x ≡ got m → Holds t d x lists → m ≡ length (table_of t (named lists) (size d)) → T (mesh t d x m)
      go Sparse e w c =
          let read : (k : ℕ) → k < 8 * size d → place_at x.map k ≡ got (held x k) = λ k l. map-read Sparse d x e k (omega arith) in
          let on : Meshed d x m = λ k l.
          subst (λ (m : ℕ). OnMesh d x.addresses m k (held x k)) (sym c) (on-mesh d x lists w k l (map-number Sparse d x e k (omega arith))) in
          let images = image-read Sparse d x e in
          and_in (hold d x m) (found d x m) (all-hold d s x m (held x) read images on) (all-found d s x m (held x) read images on)
      go Dense e w c = tt

  stand-by-places : T (by_places t d x m)
  stand-by-places =
      and_in (points t d x m) (starts t d x m && mesh t d x m) (of-below (point_stands t d x) (size d) point)
      (and_in (starts t d x m) (mesh t d x m) (of-holds x.map 0 (first_count t (size d)) (counts-start d x lists t w)) meshes-stand)

-- ---- the one is the other
pub by-places : (t : GridType) (d : Vec ℕ) → MeshFits d → (x : Table) (m : ℕ) → table_read t d x ≡ got m → by_places t d x m ≡ could_stand t d x m
by-places t d f x m e =
    let s : Sides d = record { positive = f.grid.positive } in
    let small : size d ≤ 1099511627776 = omega (arith, f.few) in
    same_test (by_places t d x m) (could_stand t d x m) (places-stand t d s x m e) (stand-by-places t d s small x m e)
