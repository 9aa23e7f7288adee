-- The triplets of the finished list: one for each class, of images of q0, of its lowest point and of that point's partner, and best among the choices of such images.
use mathlib.Core.Path.{◌≡◌, refl, sym, ◌∙◌, ap, subst}
use mathlib.Core.List.{List}
use Prim.Native.Nat.{ℕ, ◌*◌, ◌<◌, ◌≤◌}
use lib.Dec.{T, leb, leb→le}
use lib.IntN.{ℤ, pos, nat_abs}
use lib.Ieee.{lt, le}
use lib.ListN.{length, get_or}
use Rattle.integer.proofs.Test.{and_r}
use Rattle.float.specs.Value.{zero_f}
use Rattle.common.specs.Matrix.{Axis, X, Y, Z, Vec, side, vector, map_vec, origin}
use Rattle.common.specs.Array.{items, rows, vector_of}
use Rattle.common.specs.FloatMatrix.{float_matrix}
use Rattle.common.proofs.Tests.{same-ok}
use Rattle.common.proofs.Matrix.{same-vector, side-vector}
use Rattle.grgrid.specs.Grid.{index, cell, address}
use Rattle.grgrid.proofs.Folding.{index-address}
use Rattle.triplet_grid.specs.Partner.{third, partner}
use Rattle.grgrid.proofs.Accepted.{grid-fits}
use Rattle.grgrid.proofs.Lists.{◌∈◌, item_in}
use Rattle.bzsearch.specs.Search.{images}
use Rattle.bzgrid.specs.BzGridAddresses.{bz_grid_addresses}
use Rattle.bztable.specs.Reading.{Read, got, triple_at, address_at}
use Rattle.bzgrid.proofs.Accepted.{passes-first}
use Rattle.bzsearch.proofs.Images.{Sound}
use Rattle.bzgrid.specs.declared.GridType.{GridType}
use Rattle.bzgrid.specs.declared.GridType.TheVariants.{Sparse, Dense}
use Rattle.bztable.proofs.EachRead.{each-read}
use Rattle.bztable.proofs.TableRead.{address-got, first-stands}
use Rattle.bztable.proofs.ImageTable.{Stands, stands-at, image-at, some-place, place-image, image-place, place-folds}
use Rattle.bztable.proofs.AcceptedCall.{CallAccepted, call-accepted, call-sound, call-folded, call-stands, call-found, call-tolerance}
use Rattle.bztable.proofs.CallBounds.{call-image-size}
use Rattle.triplet_grid.proofs.Stabilizer.{partner-index, partner-inside}
use Rattle.bz_triplets.specs.Choosing.{start, left, closed}
use Rattle.bz_triplets.specs.BzTriplets.{Choice, State, Walk, is_zero, places_of, cells_of, first_of, chosen, triplet_of, triplet_at, by_threes, cell_list, triplets_read, walk_of}
use Rattle.bz_triplets.proofs.ByClass.{length-places, length-cells}
use Rattle.bz_triplets.proofs.Sums.{zero-sum}
use Rattle.bz_triplets.proofs.Choosing.{Picks, Length, Triplet, triplet-best, float-order, at_least}
use Rattle.bz_triplets.proofs.Choosing as choosing
use Rattle.grgrid.proofs.Own.{own-points}
use Rattle.demand3.specs.FinishedList.{Calls, grid, points, partner_of, lowest_points, search, trio, Choice as PickedBy, sum, squared_length, less_tolerance, at, Best, Starts}
use Rattle.demand3.proofs.TableWalks.{choice_at, closes, squared, less_at, chosen-got, threes-length, threes-item}
use Rattle.demand3.proofs.SumCells.{whole-sum}
use Rattle.demand3.proofs.PickedPlaces as picked
use Rattle.demand3.proofs.SumLengths.{sum-size, sum-length}
use Rattle.demand3.proofs.AcceptedTriplets.{classes-accepted, starts-point, first-got, TripletsAccepted, triplets-accepted}

-- ---- a sum of zero
sum-zero : {g : Vec ℤ} → g ≡ origin → T (is_zero g)
sum-zero e = subst (λ g. T (is_zero g)) (sym e) tt

module _ (c : Calls) where
  abbrev walk : Walk
  walk = walk_of c.addresses (items c.d) (rows c.q) c.lattice

  -- ---- the tables
  pub built : CallAccepted (items c.d) (rows c.q) c.shift c.lattice c.type c.rooms.x c.rooms.y c.rooms.z c.built
  built = call-accepted (items c.d) (rows c.q) c.shift c.lattice c.type c.rooms.x c.rooms.y c.rooms.z c.built c.builds

  -- the layout that the call found
  same-kind : built.kind ≡ c.kind
  same-kind = same-ok (sym built.input.known ∙ c.kind-is)

  abbrev addresses-left : List ℤ
  addresses-left = (bz_grid_addresses (items c.d) (rows c.q) c.shift c.lattice c.type c.rooms.x c.rooms.y c.rooms.z).addresses

  abbrev map-left : List ℤ
  map-left = (bz_grid_addresses (items c.d) (rows c.q) c.shift c.lattice c.type c.rooms.x c.rooms.y c.rooms.z).map

  abbrev grg-left : List ℤ
  grg-left = (bz_grid_addresses (items c.d) (rows c.q) c.shift c.lattice c.type c.rooms.x c.rooms.y c.rooms.z).grg

  pub stands : Stands c.kind (points c) (images (search c)) c.addresses c.map grg-left c.built.lengths.grg
  stands =
      subst (λ l. Stands c.kind (points c) (images (search c)) l c.map grg-left c.built.lengths.grg) (sym c.builds-addresses)
      (subst (λ l. Stands c.kind (points c) (images (search c)) addresses-left l grg-left c.built.lengths.grg) (sym c.builds-map)
      (subst (λ t. Stands t (points c) (images (search c)) addresses-left map-left grg-left c.built.lengths.grg) same-kind (call-stands built)))

  pub images-room : c.built.lengths.grg ≤ c.rooms.z
  images-room = leb→le c.built.lengths.grg c.rooms.z (and_r (leb c.built.lengths.map c.rooms.y) _ (and_r (leb c.built.lengths.addresses c.rooms.x) _ built.room))

  sound : Sound (search c)
  sound = call-sound built

  abbrev places : ℕ → List ℕ
  places = stands.places

  has-place : (p : ℕ) → p < points c → 0 < length (places p)
  has-place p h = some-place stands p h (call-found built p h)

  -- ---- q0
  q0-inside : c.q0 < points c
  q0-inside = (classes-accepted (pos c.q0) (items c.d) c.transformed c.time_reversal c.swappable c.class-room c.point-room c.classifies).point

  start-folds : index (grid c) (triple_at c.addresses c.start) ≡ c.q0
  start-folds = place-folds stands (call-folded built) c.q0 q0-inside (started c.kind stands c.starts)
    where
      started : (t : GridType) (w : Stands t (points c) (images (search c)) c.addresses c.map grg-left c.built.lengths.grg) → Starts t c.map (points c) c.q0 c.start → c.start ∈ w.places c.q0
      started Sparse w e = subst (λ i. i ∈ w.places c.q0) (sym e) (first-stands c.map (points c) c.q0 Sparse (w.counted c.q0 q0-inside) (some-place w c.q0 q0-inside (call-found built c.q0 q0-inside)) refl)
      started Dense w m = stands-at w c.q0 q0-inside m

  -- v holds the image indices of a best triplet of the class of q1, and g its cell
  abbrev Written : ℕ → Vec ℤ → Vec ℤ → Type 0
  Written q1 v g = (i : Vec ℕ) × (v ≡ map_vec pos i) × Best c q1 i g

  -- ---- the choices of a class
  module _ (q1 : ℕ) (h : q1 < points c) where
    trio-inside : (k : Axis) → side (trio c q1) k < points c
    trio-inside X = q0-inside
    trio-inside Y = h
    trio-inside Z = partner-inside (grid c) sound.sides c.q0 q0-inside q1

    -- image indices lie in the tables
    pub best-inside : {i : Vec ℕ} {g : Vec ℤ} → Best c q1 i g → (k : Axis) → side i k < c.built.lengths.grg
    best-inside b k = stands.inside (side (trio c q1) k) (trio-inside k) (stands-at stands (side (trio c q1) k) (trio-inside k) (b.stands k))

    abbrev lists : Vec (List ℕ)
    lists = picked.lists stands (call-found built) (trio c q1) trio-inside

    pick-in : (i : Vec ℕ) → Picks lists i → (k : Axis) → side i k ∈ places (side (trio c q1) k)
    pick-in = picked.pick-in stands (call-found built) (trio c q1) trio-inside

    -- the images at picked places are a choice, and each choice is picked so
    pick-choice : (i : Vec ℕ) → Picks lists i → PickedBy c q1 (at c i)
    pick-choice i p k =
        subst (λ v. v ∈ images (search c) (side (trio c q1) k)) (sym (side-vector (λ k. triple_at c.addresses (side i k)) k))
        (place-image stands (side (trio c q1) k) (trio-inside k) (pick-in i p k))

    choice-pick : (a : Vec (Vec ℤ)) → PickedBy c q1 a → (i : Vec ℕ) × Picks lists i × (at c i ≡ a)
    choice-pick a f = (vector found, picks, same-vector {f = λ k. triple_at c.addresses (side (vector found) k)} {g = side a} reads)
      where
        one : (k : Axis) → (i : ℕ) × (i ∈ places (side (trio c q1) k)) × (triple_at c.addresses i ≡ side a k)
        one k = image-place stands (side (trio c q1) k) (trio-inside k) (f k)

        found : Axis → ℕ
        found k = (one k).0

        picks : Picks lists (vector found)
        picks X = (one X).1
        picks Y = (one Y).1
        picks Z = (one Z).1

        reads : (k : Axis) → triple_at c.addresses (side (vector found) k) ≡ side a k
        reads X = (one X).2
        reads Y = (one Y).2
        reads Z = (one Z).2

    pick-length : (i : Vec ℕ) → Picks lists i → Length (squared_length c (at c i))
    pick-length i p =
        sum-length (float_matrix c.lattice) built.input.bounded c.q built.input.entries (grid c) (grid-fits (items c.d) built.input.grid) (sum c (at c i))
        (sum-size (at c i).x (at c i).y (at c i).z (sizes X) (sizes Y) (sizes Z))
      where
        sizes : (k j : Axis) → nat_abs (side (side (at c i) k) j) ≤ 10000000000000
        sizes k = call-image-size built (side (trio c q1) k) (trio-inside k) (pick-choice i p k)

    -- ---- what the walk leaves
    tolerance : T (le zero_f walk.tolerance)
    tolerance = (call-tolerance built).1

    abbrev Chosen : Choice → Type 0
    Chosen = choosing.Best (choice_at walk) (closes walk) (squared walk) lt (less_at walk) lists

    best_of : (i : Vec ℕ) → Picks lists i → Chosen (choice_at walk i) → Best c q1 i (cell (grid c) (sum c (at c i)))
    unfolding partner
    best_of i p b = record {
      stands = λ k. image-at stands (side (trio c q1) k) (trio-inside k) (pick-in i p k);
      choice = pick-choice i p;
      whole = whole-sum (grid c) sound.sides (at c i).x (at c i).y (at c i).z (address (grid c) c.q0) (address (grid c) q1)
          (folds X ∙ sym (index-address (grid c) sound.sides c.q0 q0-inside)) (folds Y ∙ sym (index-address (grid c) sound.sides q1 h)) (folds Z ∙ partner-is);
      closes = λ a f e.
          let r = choice-pick a f in
          zero-sum (sum c (at c i)) (b.closed-if r.0 r.1 (sum-zero (ap (sum c) r.2 ∙ e)));
      least = λ n a f.
          let r = choice-pick a f in
          subst (λ a. T (le (less_tolerance c (squared_length c (at c i))) (squared_length c a))) r.2
          (at_least walk.tolerance tolerance (squared_length c (at c i)) (squared_length c (at c r.0)) (pick-length i p) (pick-length r.0 r.1)
          (b.least (λ t. n (zero-sum (sum c (at c i)) t)) r.0 r.1));
    }
      where
        folds : (k : Axis) → index (grid c) (triple_at c.addresses (side i k)) ≡ side (trio c q1) k
        folds k = place-folds stands (call-folded built) (side (trio c q1) k) (trio-inside k) (pick-in i p k)

        partner-is : partner_of c q1 ≡ index (grid c) (third (address (grid c) c.q0) (address (grid c) q1))
        partner-is = refl

    best-by : (b : Choice) → Chosen b → Written q1 (map_vec pos b.at) (cell (grid c) b.sum)
    best-by b u =
        subst (λ b. Chosen b → Written q1 (map_vec pos b.at) (cell (grid c) b.sum)) u.picked.is
        (λ t. (u.picked.by, refl, best_of u.picked.by u.picked.picks t)) u

    state-best : (s : State) → Triplet (choice_at walk) (closes walk) (squared walk) lt (less_at walk) lists s
        → Written q1 (vector_of (places_of s)) (vector_of (cells_of (grid c) s))
    state-best start n = let p = picked.some-pick stands (call-found built) (trio c q1) trio-inside in absurd (n p.0 p.1)
    state-best (left x b) t = best-by b t.0
    state-best (closed b) t = best-by b t.0

    chosen-best : {s : State} → chosen c.kind (points c) c.map walk c.q0 q1 (partner_of c q1) ≡ got s
        → Written q1 (vector_of (places_of s)) (vector_of (cells_of (grid c) s))
    chosen-best {s} e =
        state-best s
        (subst (Triplet (choice_at walk) (closes walk) (squared walk) lt (less_at walk) lists)
        (chosen-got walk c.kind (points c) c.map (trio c q1) lists (picked.told stands (call-found built) (trio c q1) trio-inside) e)
        (triplet-best (choice_at walk) (closes walk) (squared walk) lt (less_at walk) lists (float-order walk.tolerance tolerance) pick-length))

    -- by the address that the call starts from
    triplet-got : {s : State} → triplet_of c.kind (grid c) c.map walk (triple_at c.addresses c.start) c.q0 q1 ≡ got s
        → Written q1 (vector_of (places_of s)) (vector_of (cells_of (grid c) s))
    unfolding triplet_of
    triplet-got {s} e =
        let r = passes-first (first_of c.map c.addresses c.kind q1) _ e in
        let f = first-got c.kind c.map c.addresses (points c) q1 (stands.counted q1 h) (has-place q1 h) r.1 in
        let folds = ap (index (grid c)) (sym f.2) ∙ place-folds stands (call-folded built) q1 h f.1 in
        let third-is = partner-index (grid c) sound.sides (triple_at c.addresses c.start) r.0 start-folds folds in
        chosen-best (subst (λ q2. chosen c.kind (points c) c.map walk c.q0 q1 q2 ≡ got s) third-is r.2)

  -- ---- the whole list
  accepted : TripletsAccepted (pos c.start) c.addresses c.map c.built.table c.classes (items c.d) (rows c.q) c.lattice c.type c.triplet-rooms.x c.triplet-rooms.y c.triplet-rooms.z c.cell-room
  accepted =
      triplets-accepted (pos c.start) c.addresses c.map c.built.table c.classes (items c.d) (rows c.q) c.lattice c.type c.triplet-rooms.x c.triplet-rooms.y c.triplet-rooms.z c.cell-room
      c.chooses

  reads : triplets_read (pos c.start) c.addresses c.map c.classes (items c.d) (rows c.q) c.lattice c.kind ≡ got accepted.states
  reads =
      subst (λ k. triplets_read (pos c.start) c.addresses c.map c.classes (items c.d) (rows c.q) c.lattice k ≡ got accepted.states)
      (same-ok (sym accepted.known ∙ c.kind-is)) accepted.read

  abbrev Triplets : (triplets cells : List ℤ) → Type 0
  Triplets l g =
      (length l ≡ length (lowest_points c) * 3) × (length g ≡ length (lowest_points c) * 3)
      × ((j : ℕ) → j < length (lowest_points c) → Written (get_or (lowest_points c) j 0) (triple_at l j) (triple_at g j))

  abbrev read_from : Vec ℤ → ℕ → Read State
  read_from a0 = triplet_at (pos c.start) c.addresses c.map c.classes (items c.d) (rows c.q) c.lattice c.kind a0

  read-best : (a0 : Vec ℤ) → triple_at c.addresses c.start ≡ a0 → (q1 : ℕ) → q1 < points c → {s : State} → read_from a0 q1 ≡ got s
      → Written q1 (vector_of (places_of s)) (vector_of (cells_of (grid c) s))
  read-best a0 e q1 h {s} k =
      let a = triple_at c.addresses c.start in
      let point = starts-point c.map (points c) c.q0 c.start (grid c) c.kind c.starts a start-folds in
      let read = subst (λ a. read_from a q1 ≡ got s) (sym e) k in
      triplet-got q1 h (subst (λ q0. triplet_of c.kind (grid c) c.map walk a q0 q1 ≡ got s) point read)

  pub finished-triplets : length c.classes ≡ points c → Triplets c.triplets c.cells
  unfolding triplets_read cell_list
  finished-triplets full =
      let r = passes-first (address_at c.addresses c.start) _ reads in
      let e = each-read 0 start (read_from r.0) (lowest_points c) r.2 in
      let states = accepted.states in
      subst (λ l. Triplets l c.cells) (sym (c.chooses-to ∙ accepted.written))
      (subst (λ g. Triplets (by_threes places_of states) g) (sym (c.tells-cells ∙ accepted.celled)) (
        threes-length places_of length-places states ∙ ap (λ n. n * 3) e.0,
        threes-length (cells_of (grid c)) (length-cells (grid c)) states ∙ ap (λ n. n * 3) e.0,
        λ j h.
            let s = get_or states j start in
            let k : j < length states = subst (λ n. j < n) (sym e.0) h in
            let b = read-best r.0 (address-got c.addresses c.start r.1) (get_or (lowest_points c) j 0) (inside j h) {s = s} (e.1 j h) in (
              b.0,
              threes-item places_of length-places states j k ∙ b.1,
              subst (Best c (get_or (lowest_points c) j 0) b.0) (sym (threes-item (cells_of (grid c)) (length-cells (grid c)) states j k)) b.2,
            ),
      ))
    where
      inside : (j : ℕ) → j < length (lowest_points c) → get_or (lowest_points c) j 0 < points c
      inside j h =
          let q1 = get_or (lowest_points c) j 0 in
          subst (λ n. q1 < n) full ((own-points c.classes (length c.classes) q1).0 (item_in 0 (lowest_points c) j h)).0
