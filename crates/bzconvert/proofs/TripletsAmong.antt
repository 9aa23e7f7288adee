-- Triplets from a table that reads good lists: no read is refused, and by address they hang on the lists and q0's grid point alone.
use mathlib.Core.Path.{◌≡◌, sym, ◌∙◌, ap, subst}
use mathlib.Core.List.{List, map}
use Prim.Native.Nat.{ℕ, ◌<◌}
use native.Mathlib.Nat.{lt_of_lt_of_le}
use lib.IntN.{ℤ, nat_abs}
use lib.Ieee.{Float}
use lib.ListN.{length}
use Rattle.common.specs.Matrix.{Vec, Mat, origin}
use Rattle.common.specs.Array.{sides_of}
use Rattle.common.specs.Tested.{◌then◌}
use Rattle.grgrid.specs.Grid.{size, index}
use Rattle.grgrid.specs.Lists.{◌∈◌}
use Rattle.grgrid.specs.Own.{own_points}
use Rattle.grgrid.proofs.Accepted.{grid-fits}
use Rattle.grgrid.proofs.Folding.{Sides, index-lt}
use Rattle.grgrid.proofs.Own.{own-points}
use Rattle.bzgrid.specs.declared.GridType.{GridType}
use Rattle.bzgrid.specs.declared.GridType.TheVariants.{Sparse, Dense}
use Rattle.bzgrid.proofs.Accepted.{passes-first}
use Rattle.bztable.specs.Access.{image_places}
use Rattle.bztable.specs.Reading.{Read, got, triple_at, address_at, address_of, read_each}
use Rattle.bztable.proofs.EachRead.{each_in, each-map, each-got, each-read}
use Rattle.bztable.proofs.TableRead.{address-got, first_found}
use Rattle.triplet_grid.specs.Partner.{third, partner}
use Rattle.triplet_grid.proofs.Stabilizer.{partner-index, partner-inside}
use Rattle.bz_triplets.specs.Choosing.{start, nested}
use Rattle.bz_triplets.specs.BzTriplets.{State, Walk, try_at, chosen, first_of, triplet_of, triplet_at, point_of, walk_of, triplets_read}
use Rattle.bzconvert.specs.Layout.{Table}
use Rattle.bzconvert.specs.Standing.{Good}
use Rattle.bzconvert.specs.Addressed.{Reads, AtPoint, Chosen, addressed, try_trio, triplet_among}
use Rattle.bzconvert.specs.SameTriplets.{TripletsAmong}
use Rattle.bzconvert.proofs.TripletWalks.{Finds, same-walk}

module _ {d : Vec ℕ} (sides : Sides d) {g : ℕ → List (Vec ℤ)} (good : Good d g) (x : Table) where
  abbrev n : ℕ
  n = size d

  abbrev seen : ℕ → Vec ℤ
  seen i = triple_at x.addresses i

  -- ---- the places of a point
  record Listed (t : GridType) (p : ℕ) : Type 0 where
    places : List ℕ
    told : image_places t x.map n p ≡ got places
    read : read_each (address_at x.addresses) places ≡ got (g p)

  listed : (t : GridType) → Reads t d x g → (p : ℕ) → p < n → Listed t p
  listed t reads p l =
      let r = passes-first (image_places t x.map n p) (read_each (address_at x.addresses)) (reads p l) in
      record { places = r.0; told = r.1; read = r.2 }

  module _ {t : GridType} {p : ℕ} (l : p < n) (s : Listed t p) where
    inside : (i : ℕ) → i ∈ s.places → address_at x.addresses i ≡ got (seen i)
    inside i m = let r = each_in (address_at x.addresses) s.places s.read m in r.1 ∙ ap got (sym (address-got x.addresses i r.1))

    folds : (i : ℕ) → i ∈ s.places → index d (seen i) ≡ p
    folds i m = let r = each_in (address_at x.addresses) s.places s.read m in ap (index d) (address-got x.addresses i r.1) ∙ good.folds p l r.2

    addresses : map seen s.places ≡ g p
    addresses = each-map (address_at x.addresses) seen (λ i a e. address-got x.addresses i e) s.places s.read

    some : 0 < length s.places
    some = subst (λ k. 0 < k) (each-read 0 origin (address_at x.addresses) s.places s.read).0 (good.some p l)

    -- its first image
    first_read : (a : Vec ℤ) × (first_of x.map x.addresses t p ≡ got a) × (index d a ≡ p)
    first_read =
        let r = first_found x.map n p t s.told some in
        (seen r.0, ap (λ r. r then address_at x.addresses) r.1 ∙ inside r.0 r.2, folds r.0 r.2)

  -- ---- where the call starts
  record StartsAt (t : GridType) (q0 : ℤ) (p : ℕ) : Type 0 where
    address : Vec ℤ
    read : address_of x.addresses q0 ≡ got address
    folded : index d address ≡ p
    point : point_of d t (nat_abs q0) address ≡ p
    below : p < n

  starts : (t : GridType) → Reads t d x g → (q0 : ℤ) (p : ℕ) → AtPoint t d x q0 p → StartsAt t q0 p
  starts Sparse reads q0 p (e, l) =
      let a = first_read l (listed Sparse reads p l) in
      record { address = a.0; read = ap (address_of x.addresses) e ∙ a.1; folded = a.2; point = ap nat_abs e; below = l }
  starts Dense reads q0 p (a, e, f) = record { address = a; read = e; folded = f; point = f; below = subst (λ p. p < n) f (index-lt d sides a) }

  -- ---- the triplet of a class
  module _ (t : GridType) (reads : Reads t d x g) (lqd : Mat Float) (tolerance : Float) where
    abbrev w : Walk
    w = record { lqd = lqd; tolerance = tolerance; addresses = x.addresses }

    abbrev tried : Chosen → Vec (Vec ℤ) → Chosen
    tried = try_trio lqd tolerance

    chosen-among : (v : Vec ℕ) → v.x < n → v.y < n → v.z < n
        → Finds w (chosen t n x.map w v.x v.y v.z) (nested tried start (record { x = g v.x; y = g v.y; z = g v.z }))
    unfolding chosen
    chosen-among v lx ly lz =
        let a = listed t reads v.x lx in
        let b = listed t reads v.y ly in
        let c = listed t reads v.z lz in
        let s = same-walk w (record { x = a.places; y = b.places; z = c.places }) (inside lx a) (inside ly b) (inside lz c) in (
          s.0,
          (λ i. a.told i then λ u. b.told i then λ v. c.told i then λ k. nested (try_at w) (got start) (record { x = u; y = v; z = k })) ∙ s.1,
          s.2 ∙ (λ i. nested tried start (record { x = addresses lx a i; y = addresses ly b i; z = addresses lz c i })),
        )

    one : (a0 : Vec ℤ) (p q1 : ℕ) → index d a0 ≡ p → p < n → q1 < n → Finds w (triplet_of t d x.map w a0 p q1) (triplet_among lqd tolerance d g p q1)
    unfolding triplet_of
    one a0 p q1 e l k =
        let f = first_read k (listed t reads q1 k) in
        let s = chosen-among (record { x = p; y = q1; z = partner d p q1 }) l k (partner-inside d sides p l q1) in (
          s.0,
          ap (λ r. r then λ a1. chosen t n x.map w p q1 (index d (third a0 a1))) f.1
              ∙ ap (chosen t n x.map w p q1) (partner-index d sides a0 f.0 e f.2) ∙ s.1,
          s.2,
        )

-- ---- one for each class
pub triplets-among : TripletsAmong
unfolding triplets_read
triplets-among d g fits good t x reads q0 p at classes few q lattice =
    let a = starts sides good x t reads q0 p at in
    let s = each-got (read a.address) (addressed x.addresses) among points (each a) in
    (s.0, ap (λ r. r then λ a0. read_each (read a0) points) a.read ∙ s.1, s.2)
  where
    sides : Sides (sides_of d)
    sides = record { positive = (grid-fits d fits).positive }

    points : List ℕ
    points = own_points classes (length classes)

    read : Vec ℤ → ℕ → Read State
    read = triplet_at q0 x.addresses x.map classes d q lattice t

    w : Walk
    w = walk_of x.addresses d q lattice

    among : ℕ → Chosen
    among = triplet_among w.lqd w.tolerance (sides_of d) g p

    each : (a : StartsAt sides good x t q0 p) (q1 : ℕ) → q1 ∈ points → (s : State) × (read a.address q1 ≡ got s) × (addressed x.addresses s ≡ among q1)
    each a q1 m =
        let l = lt_of_lt_of_le ((own-points classes (length classes) q1).0 m).0 few in
        let s = one sides good x t reads w.lqd w.tolerance a.address p q1 a.folded a.below l in
        (s.0, ap (λ p. triplet_of t (sides_of d) x.map w a.address p q1) a.point ∙ s.1, s.2)
