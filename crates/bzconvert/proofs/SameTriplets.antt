-- Two triplet calls on tables of the same lists, with q0 at one point: what each leaves, by address, is a function of the lists.
use mathlib.Core.Path.{◌≡◌, refl, sym, ◌∙◌, ap, ap₂, subst}
use mathlib.Core.Bool.{Bool, true, false, ◌&&◌, ◌||◌}
use mathlib.Core.List.{List, [], ◌∷◌, ◌++◌, map, map-append}
use Prim.Native.Nat.{ℕ, ◌*◌, ◌≤◌, zero-le}
use lib.Dec.{T, eqb, leb, ltb, le→leb, lt→ltb}
use lib.IntN.{ℤ, pos, negsuc}
use lib.Ieee.{Float, binary64, of_int}
use lib.LanesLaws.{map-replicate}
use lib.ListN.{length}
use Rattle.std.specs.Prelude.{Result, Ok, Err, Option, Some, None}
use Rattle.integer.proofs.Test.{and_in, is_true}
use Rattle.common.specs.Matrix.{Vec, vector, map_vec}
use Rattle.common.specs.Array.{sides_of, matrix_of, items}
use Rattle.common.specs.FloatMatrix.{float_matrix}
use Rattle.common.specs.Limits.{matrix_within, diagonal_fits, point_fits}
use Rattle.common.specs.Tested.{require, filled_or, output_of, Tested, Accepted, ◌then◌}
use Rattle.common.specs.declared.Refusal.{Refusal}
use Rattle.common.specs.declared.Refusal.TheVariants.{OutsideLimits, WrongLength}
use Rattle.grgrid.specs.Grid.{size}
use Rattle.grgrid.specs.Own.{own_places}
use Rattle.bzsearch.specs.Lattice.{lattice_fits}
use Rattle.bzgrid.specs.declared.GridType.{GridType}
use Rattle.bzgrid.specs.declared.GridType.TheVariants.{Sparse, Dense}
use Rattle.bzgrid.specs.BzGridAddresses.{grid_type_of}
use Rattle.bztable.specs.Reading.{Read, got, whole_addresses, list_of}
use Rattle.bz_triplets.specs.Choosing.{start, left, closed}
use Rattle.bz_triplets.specs.BzTriplets.{State, places_of, cells_of, mark_of, length_of, by_threes, triplet_list, cell_list, marks, lengths}
use Rattle.bz_triplets.specs.BzTriplets.{is_dense, input_tests, triplets_read, states_read, triplet_tests, BzTriplets, triplets_in, bz_triplets_at_q}
use Rattle.bz_triplets.proofs.Agreeing.{agreeing-triplets}
use Rattle.bzconvert.specs.Layout.{Table}
use Rattle.bzconvert.specs.Standing.{Good}
use Rattle.bzconvert.specs.Addressed.{AtPoint, Chosen, addressed, triplets_among, ByAddresses, address_in, by_addresses}
use Rattle.bzconvert.specs.SameTriplets.{Asked, AskedOf, triplets_of, SameTriplets}
use Rattle.bzconvert.proofs.TripletsAmong.{triplets-among}

-- ---- the outputs, by what was found
-- the addresses at the three places of a triplet
abbrev spread : Chosen → List (Option (Vec ℤ))
spread start = None ∷ None ∷ None ∷ []
spread (left x c) = items (map_vec Some c.at)
spread (closed c) = items (map_vec Some c.at)

abbrev spreads : List Chosen → List (Option (Vec ℤ))
spreads [] = []
spreads (c ∷ l) = spread c ++ spreads l

-- what the other outputs hold of it; that does not hang on its places
abbrev told : Vec ℕ → State → ℤ × Float × List ℤ
told d s = (mark_of s, length_of s, cells_of d s)

abbrev unplaced : Chosen → State
unplaced start = start
unplaced (left x c) = left x (record { at = vector (λ k. 0); sum = c.sum })
unplaced (closed c) = closed (record { at = vector (λ k. 0); sum = c.sum })

module _ (a : List ℤ) where
  spread-is : (s : State) → map (address_in a) (places_of s) ≡ spread (addressed a s)
  spread-is start = refl
  spread-is (left x c) = refl
  spread-is (closed c) = refl

  spreads-are : (m : List State) → map (address_in a) (triplet_list m) ≡ spreads (map (addressed a) m)
  spreads-are [] = refl
  spreads-are (s ∷ m) = map-append (address_in a) (places_of s) (triplet_list m) ∙ ap₂ ◌++◌ (spread-is s) (spreads-are m)

  told-bare : (d : Vec ℕ) (s : State) → told d s ≡ told d (unplaced (addressed a s))
  told-bare d start = refl
  told-bare d (left x c) = refl
  told-bare d (closed c) = refl

  abbrev bare : List State → List State
  bare m = map unplaced (map (addressed a) m)

  each-bare : {B : Type 0} (f : State → B) → ((s : State) → f s ≡ f (unplaced (addressed a s))) → (m : List State) → map f m ≡ map f (bare m)
  each-bare f e [] = refl
  each-bare f e (s ∷ m) = ap₂ ◌∷◌ (e s) (each-bare f e m)

  threes-bare : (f : State → List ℤ) → ((s : State) → f s ≡ f (unplaced (addressed a s))) → (m : List State) → by_threes f m ≡ by_threes f (bare m)
  threes-bare f e [] = refl
  threes-bare f e (s ∷ m) = ap₂ ◌++◌ (e s) (threes-bare f e m)

-- ---- the tests
abbrev lengths_fit : List ℤ → (n m l c : ℕ) → Bool
lengths_fit classes n m l c = let own = own_places classes (length classes) in eqb n (own * 3) && (eqb m own && (eqb l own && eqb c (own * 3)))

abbrev limits_fit : List ℤ → List (List ℤ) → List (List Float) → Bool
limits_fit d q lattice = diagonal_fits d && (matrix_within 1000 (matrix_of q) && lattice_fits (float_matrix lattice))

-- what can refuse a call on a table that stands: the lengths of its outputs, and the limits
abbrev other_tests : {A : Type 0} → (classes d : List ℤ) → List (List ℤ) → List (List Float) → (n m l c : ℕ) → Result A Refusal → Result A Refusal
other_tests classes d q lattice n m l c r = require (lengths_fit classes n m l c) WrongLength (require (limits_fit d q lattice) OutsideLimits r)

-- tests after which all reads are inside
then-read : {A B : Type 0} (u v : Bool) (k : A) (f : A → Read B) {b : B} → f k ≡ got b
    → (require u WrongLength (require v OutsideLimits (Ok k)) then λ k. f k then λ _. Accepted) ≡ require u WrongLength (require v OutsideLimits Accepted)
then-read true true k f e = ap (λ r. r then λ _. Accepted) e
then-read true false k f e = refl
then-read false v k f e = refl

-- q0 passes
point-passes : (k : GridType) (d : Vec ℕ) (x : Table) (q0 : ℤ) (p : ℕ) → AtPoint k d x q0 p → T (is_dense (Ok k) || point_fits q0 (pos (size d)))
point-passes Dense d x q0 p h = tt
point-passes Sparse d x q0 p (e, l) =
    subst (λ z. T (point_fits z (pos (size d)))) (sym e) (and_in (leb 0 p) (ltb p (size d)) (le→leb 0 p zero-le) (lt→ltb p (size d) l))

-- ---- what a call leaves
module _ (d : List ℤ) (g : ℕ → List (Vec ℤ)) (p : ℕ) (fits : T (diagonal_fits d)) (good : Good (sides_of d) g)
    (classes : List ℤ) (few : length classes ≤ size (sides_of d)) (q : List (List ℤ)) (lattice : List (List Float)) (n m l c : ℕ) where
  abbrev tests : Tested
  tests = other_tests classes d q lattice n m l c Accepted

  -- by the tests t and the triplets u of lists
  abbrev left_by : Tested → List Chosen → ByAddresses
  left_by t u = record {
    answer = t;
    out = filled_or None t n (spreads u);
    left = output_of t m (marks (map unplaced u));
    left_length = filled_or (of_int binary64 (negsuc 0)) t l (lengths (map unplaced u));
    cells = output_of t c (cell_list (sides_of d) (map unplaced u));
  }

  -- by the states s that were found
  abbrev left_of : Tested → List State → BzTriplets
  left_of t s = record {
    answer = t;
    out = output_of t n (triplet_list s);
    left = output_of t m (marks s);
    left_length = filled_or (of_int binary64 (negsuc 0)) t l (lengths s);
    cells = output_of t c (cell_list (sides_of d) s);
  }

  by-found : (a : List ℤ) (t : Tested) (s : List State) → by_addresses a (left_of t s) ≡ left_by t (map (addressed a) s)
  unfolding cell_list
  by-found a t s = λ i. record {
    answer = t;
    out = places t i;
    left = output_of t m (each-bare a mark_of (λ s. ap (λ t. t.0) (told-bare a (sides_of d) s)) s i);
    left_length = filled_or (of_int binary64 (negsuc 0)) t l (each-bare a length_of (λ s. ap (λ t. t.1) (told-bare a (sides_of d) s)) s i);
    cells = output_of t c (threes-bare a (cells_of (sides_of d)) (λ s. ap (λ t. t.2) (told-bare a (sides_of d) s)) s i);
  }
    where
      places : (t : Tested) → map (address_in a) (output_of t n (triplet_list s)) ≡ filled_or None t n (spreads (map (addressed a) s))
      places (Ok _) = spreads-are a s
      places (Err r) = map-replicate (address_in a) n (negsuc 0)

  module _ (i : Asked) (h : AskedOf d g p i) where
    abbrev x : Table
    x = i.table

    found : (s : List State) × (triplets_read i.q0 x.addresses x.map classes d q lattice h.kind ≡ got s)
        × (map (addressed x.addresses) s ≡ triplets_among classes d q lattice g p)
    found = triplets-among d g fits good h.kind x h.reads i.q0 p h.at classes few q lattice

    inputs-are : input_tests (Ok h.kind) i.q0 x.addresses classes d q lattice i.type n m l c ≡ other_tests classes d q lattice n m l c (Ok h.kind)
    unfolding input_tests
    inputs-are = λ j.
        require (is_true (whole_addresses x.addresses) h.whole j && lengths_fit classes n m l c) WrongLength
        (require (limits_fit d q lattice) OutsideLimits
        (require (is_true (is_dense (grid_type_of i.type) || point_fits i.q0 (pos (size (sides_of d)))) point j) OutsideLimits (Ok h.kind)))
      where
        point : T (is_dense (grid_type_of i.type) || point_fits i.q0 (pos (size (sides_of d))))
        point = subst (λ k. T (is_dense k || point_fits i.q0 (pos (size (sides_of d))))) (sym h.typed) (point-passes h.kind (sides_of d) x i.q0 p h.at)

    tests-are : triplet_tests (Ok h.kind) i.q0 x.addresses x.map classes d q lattice i.type n m l c ≡ tests
    unfolding triplet_tests
    tests-are =
        let reads = triplets_read i.q0 x.addresses x.map classes d q lattice in
        ap (λ r. r then λ k. reads k then λ _. Accepted) inputs-are ∙ then-read (lengths_fit classes n m l c) (limits_fit d q lattice) h.kind reads found.1

    states-are : states_read (Ok h.kind) i.q0 x.addresses x.map classes d q lattice ≡ found.0
    unfolding states_read
    states-are = ap list_of found.1

    call-is : bz_triplets_at_q i.q0 x.addresses x.map i.known classes d q lattice i.type n m l c ≡ left_of tests found.0
    unfolding triplets_in
    call-is =
        agreeing-triplets i.q0 x.addresses x.map i.known classes d q lattice i.type n m l c h.agrees
        ∙ ap (λ k. triplets_in k i.q0 x.addresses x.map classes d q lattice i.type n m l c) h.typed ∙ ap₂ left_of tests-are states-are

    left-is : triplets_of i classes d q lattice n m l c ≡ left_by tests (triplets_among classes d q lattice g p)
    left-is = ap (by_addresses x.addresses) call-is ∙ by-found x.addresses tests found.0 ∙ ap (left_by tests) found.2

pub same-triplets : SameTriplets
same-triplets d g p fits good i j h k classes few q lattice n m l c =
    left-is d g p fits good classes few q lattice n m l c i h ∙ sym (left-is d g p fits good classes few q lattice n m l c j k)
