-- On the tables of an accepted image call every sum of an accepted triplet call is its cell times the diagonal.
use mathlib.Core.Path.{◌≡◌, refl, sym, ◌∙◌, ap, subst}
use mathlib.Core.List.{List}
use Prim.Native.Nat.{ℕ, ◌<◌}
use lib.IntN.{ℤ, pos, negsuc, nat_abs, ◌*ℤ◌}
use lib.Ieee.{Float, lt}
use lib.ListN.{length, get_or}
use Rattle.common.specs.Matrix.{Axis, X, Y, Z, Vec, side, map_vec}
use Rattle.common.specs.Array.{sides_of, vector_of}
use Rattle.common.proofs.Tests.{same-ok, refused-not-ok}
use Rattle.grgrid.specs.Grid.{size, index, cell}
use Rattle.grgrid.specs.Own.{own_places, own_points}
use Rattle.grgrid.proofs.Folding.{Sides, index-lt}
use Rattle.grgrid.proofs.Own.{length-own}
use Rattle.bzgrid.specs.declared.GridType.{GridType}
use Rattle.bzgrid.specs.declared.TableRecord.{TableRecord}
use Rattle.bzgrid.specs.declared.Built.{Built}
use Rattle.bzgrid.specs.BzGridAddresses.{search_of, bz_grid_addresses}
use Rattle.bzsearch.specs.Search.{Search, images}
use Rattle.bzgrid.specs.declared.GridType.TheVariants.{Sparse, Dense}
use Rattle.bzgrid.proofs.Accepted.{passes-first}
use Rattle.bztable.specs.Access.{image_places}
use Rattle.bztable.specs.Reading.{got, triple_at, address_of, read_each}
use Rattle.bztable.proofs.EachRead.{each-read}
use Rattle.bztable.proofs.TableRead.{address-got, first-stands}
use Rattle.bztable.proofs.ImageTable.{Stands, Folded, some-place, place-folds}
use Rattle.bztable.proofs.AcceptedCall.{CallAccepted, call-accepted, call-sound, call-stands, call-folded, call-found}
use Rattle.triplet_grid.specs.Partner.{third}
use Rattle.bz_triplets.specs.Choosing.{start, left, closed}
use Rattle.bz_triplets.specs.BzTriplets.{Choice, State, Walk, sum_of, places_of, cells_of, first_of, chosen, triplet_of, triplet_at, triplets_read, cell_list, point_of, walk_of, bz_triplets_at_q}
use Rattle.bz_triplets.proofs.ByClass.{length-places, length-cells}
use Rattle.bz_triplets.proofs.Choosing.{Picks, Chosen, triplet-chosen}
use Rattle.demand3.specs.WholeSums.{WholeSum, EverySum}
use Rattle.demand3.proofs.AcceptedTriplets.{first-got, TripletsAccepted, triplets-accepted}
use Rattle.demand3.proofs.TableWalks.{choice_at, closes, squared, less_at, chosen-got, threes-item}
use Rattle.demand3.proofs.SumCells.{whole-sum}
use Rattle.demand3.proofs.PickedPlaces as picked

-- ---- one class: of tables that stand for lists of addresses
module _ {t : GridType} {d : Vec ℕ} {g : ℕ → List (Vec ℤ)} {map points : List ℤ} {m : ℕ} (w : Walk) (s : Sides d) (f : Folded d g)
    (stands : Stands t (size d) g w.addresses map points m) (some : (p : ℕ) → p < size d → 0 < length (g p)) where
  -- v holds three image indices, whose sum is g times the diagonal
  abbrev Told : (v g : Vec ℤ) → Type 0
  Told v g =
      (i : Vec ℕ) × (v ≡ map_vec pos i)
      × ((k : Axis) → side (sum_of (triple_at w.addresses i.x) (triple_at w.addresses i.y) (triple_at w.addresses i.z)) k ≡ side g k *ℤ pos (side d k))

  module _ (a0 a1 : Vec ℤ) (q0 q1 : ℕ) (e0 : index d a0 ≡ q0) (e1 : index d a1 ≡ q1) (l0 : q0 < size d) (l1 : q1 < size d) where
    abbrev trio : Vec ℕ
    trio = record { x = q0; y = q1; z = index d (third a0 a1) }

    inside : (k : Axis) → side trio k < size d
    inside X = l0
    inside Y = l1
    inside Z = index-lt d s (third a0 a1)

    abbrev lists : Vec (List ℕ)
    lists = picked.lists stands some trio inside

    told : (i : Vec ℕ) → Picks lists i → {b : Choice} → choice_at w i ≡ b → Told (map_vec pos b.at) (cell d b.sum)
    told i p {b} e =
        subst (λ b. Told (map_vec pos b.at) (cell d b.sum)) e (
          i,
          refl,
          whole-sum d s (triple_at w.addresses i.x) (triple_at w.addresses i.y) (triple_at w.addresses i.z) a0 a1 (folds X ∙ sym e0) (folds Y ∙ sym e1) (folds Z),
        )
      where
        folds : (k : Axis) → index d (triple_at w.addresses (side i k)) ≡ side trio k
        folds k = place-folds stands f (side trio k) (inside k) (picked.pick-in stands some trio inside i p k)

    by-state : (r : State) → Chosen (choice_at w) (closes w) (squared w) lt (less_at w) lists r → Told (vector_of (places_of r)) (vector_of (cells_of d r))
    by-state start n = let p = picked.some-pick stands some trio inside in absurd (n p.0 p.1)
    by-state (left x b) c = told c.by c.picks c.is
    by-state (closed b) c = told c.by c.picks c.is

    chosen-told : {r : State} → chosen t (size d) map w q0 q1 (index d (third a0 a1)) ≡ got r → Told (vector_of (places_of r)) (vector_of (cells_of d r))
    chosen-told {r} e =
        by-state r
        (subst (Chosen (choice_at w) (closes w) (squared w) lt (less_at w) lists) (chosen-got w t (size d) map trio lists (picked.told stands some trio inside) e)
        (triplet-chosen (choice_at w) (closes w) (squared w) lt (less_at w) lists))

  -- the address of q0 folds to its point, where the map tells the places of that
  start-folds : (kind : GridType) (u : Stands kind (size d) g w.addresses map points m) (q0 : ℤ) {a0 : Vec ℤ} {l : List ℕ} → address_of w.addresses q0 ≡ got a0
      → image_places kind map (size d) (point_of d kind (nat_abs q0) a0) ≡ got l → index d a0 ≡ point_of d kind (nat_abs q0) a0
  start-folds Dense u q0 e h = refl
  start-folds Sparse u (negsuc n) e h = absurd (refused-not-ok e)
  start-folds Sparse u (pos p) e h =
      let k = u.within p h in
      ap (index d) (sym (address-got w.addresses p e))
      ∙ place-folds u f p k (first-stands map (size d) p Sparse (u.counted p k) (some-place u p k (some p k)) refl)

  pub triplet-told : (q0 : ℤ) (q1 : ℕ) {a0 : Vec ℤ} {r : State} → address_of w.addresses q0 ≡ got a0
      → triplet_of t d map w a0 (point_of d t (nat_abs q0) a0) q1 ≡ got r → Told (vector_of (places_of r)) (vector_of (cells_of d r))
  unfolding triplet_of chosen
  triplet-told q0 q1 {a0} {r} e h =
      let p0 = point_of d t (nat_abs q0) a0 in
      let a = passes-first (first_of map w.addresses t q1) _ h in
      let x = passes-first (image_places t map (size d) p0) _ a.2 in
      let y = passes-first (image_places t map (size d) q1) _ x.2 in
      let l1 = stands.within q1 y.1 in
      let b = first-got t map w.addresses (size d) q1 (stands.counted q1 l1) (some-place stands q1 l1 (some q1 l1)) a.1 in
      chosen-told a0 a.0 p0 q1 (start-folds t stands q0 e x.1) (ap (index d) (sym b.2) ∙ place-folds stands f q1 l1 b.1) (stands.within p0 x.1) l1 a.2

-- ---- the call, on the tables of an accepted image call
module _ {d : List ℤ} {q : List (List ℤ)} {ps : List ℤ} {lattice : List (List Float)} {type : ℤ} {a b c : ℕ} {l : Built} (built : CallAccepted d q ps lattice type a b c l)
    {q0 : ℤ} {addresses map : List ℤ} {table : TableRecord} {classes : List ℤ} {change : List (List ℤ)} {basis : List (List Float)} {n m k o : ℕ}
    (t : TripletsAccepted q0 addresses map table classes d change basis type n m k o)
    (ea : addresses ≡ (bz_grid_addresses d q ps lattice type a b c).addresses) (em : map ≡ (bz_grid_addresses d q ps lattice type a b c).map) where
  abbrev points_left : List ℤ
  points_left = (bz_grid_addresses d q ps lattice type a b c).grg

  abbrev s : Search
  s = search_of d q ps lattice

  same-kind : t.kind ≡ built.kind
  same-kind = same-ok (sym t.known ∙ built.input.known)

  stands : Stands t.kind (size (sides_of d)) (images s) addresses map points_left l.lengths.grg
  stands =
      subst (λ x. Stands t.kind (size (sides_of d)) (images s) x map points_left l.lengths.grg) (sym ea)
      (subst (λ x. Stands t.kind (size (sides_of d)) (images s) (bz_grid_addresses d q ps lattice type a b c).addresses x points_left l.lengths.grg) (sym em)
      (subst (λ k. Stands k (size (sides_of d)) (images s) (bz_grid_addresses d q ps lattice type a b c).addresses (bz_grid_addresses d q ps lattice type a b c).map points_left l.lengths.grg)
      (sym same-kind) (call-stands built)))

  abbrev lowest : List ℕ
  lowest = own_points classes (length classes)

  abbrev out : List ℤ
  out = (bz_triplets_at_q q0 addresses map table classes d change basis type n m k o).out

  abbrev cells : List ℤ
  cells = (bz_triplets_at_q q0 addresses map table classes d change basis type n m k o).cells

  started : (a0 : Vec ℤ) × (address_of addresses q0 ≡ got a0) × (read_each (triplet_at q0 addresses map classes d change basis t.kind a0) lowest ≡ got t.states)
  unfolding triplets_read
  started = passes-first (address_of addresses q0) (λ a0. read_each (triplet_at q0 addresses map classes d change basis t.kind a0) lowest) t.read

  pub sum-told : (j : ℕ) → j < own_places classes (length classes) → WholeSum addresses out cells d j
  unfolding cell_list
  sum-told j h =
      let r = each-read 0 start (triplet_at q0 addresses map classes d change basis t.kind started.0) lowest started.2 in
      let i : j < length lowest = subst (λ n. j < n) (sym (length-own classes (length classes))) h in
      let u : j < length t.states = subst (λ n. j < n) (sym r.0) i in
      let w = triplet-told (walk_of addresses d change basis) (call-sound built).sides (call-folded built) stands (call-found built) q0 (get_or lowest j 0) started.1 (r.1 j i) in
      let e : triple_at out j ≡ vector_of (places_of (get_or t.states j start)) = ap (λ l. triple_at l j) t.written ∙ threes-item places_of length-places t.states j u in
      let f : triple_at cells j ≡ vector_of (cells_of (sides_of d) (get_or t.states j start)) =
      ap (λ l. triple_at l j) t.celled ∙ threes-item (cells_of (sides_of d)) (length-cells (sides_of d)) t.states j u in
      record { i = w.0; places = e ∙ w.1; whole = λ x. w.2 x ∙ ap (λ v. side v x *ℤ pos (side (sides_of d) x)) (sym f) }

pub every-sum : EverySum
every-sum d q ps lattice type a b c l q0 table classes change basis n m k o built chooses =
    let t = bz_grid_addresses d q ps lattice type a b c in
    sum-told (call-accepted d q ps lattice type a b c l built) (triplets-accepted q0 t.addresses t.map table classes d change basis type n m k o chooses) refl refl
