-- Accepted calls: the point that the class call takes, where the triplet call starts, and what it has read.
use mathlib.Core.Path.{◌≡◌, refl, sym, ◌∙◌, ap}
use mathlib.Core.Bool.{Bool}
use mathlib.Core.List.{List}
use Prim.Native.Nat.{ℕ, ◌<◌, ◌*◌}
use lib.Dec.{T}
use lib.IntN.{ℤ}
use lib.Ieee.{Float}
use lib.ListN.{length}
use Rattle.std.specs.Prelude.{Result, Ok, Err}
use Rattle.common.specs.Matrix.{Vec}
use Rattle.common.specs.Array.{sides_of}
use Rattle.common.specs.Limits.{diagonal_fits}
use Rattle.grgrid.specs.Own.{own_places}
use Rattle.common.specs.Tested.{giving, output_of, Tested, Accepted, ◌then◌}
use Rattle.common.specs.declared.Refusal.{Refusal}
use Rattle.common.proofs.Tests.{both-accepted, refused-not-ok}
use Rattle.grgrid.specs.Grid.{index}
use Rattle.grgrid.proofs.Lists.{◌∈◌}
use Rattle.bzgrid.specs.declared.GridType.{GridType}
use Rattle.bzgrid.specs.declared.GridType.TheVariants.{Sparse, Dense}
use Rattle.bzgrid.specs.declared.TableRecord.{TableRecord}
use Rattle.bzgrid.specs.BzGridAddresses.{grid_type_of}
use Rattle.bztable.specs.Agreement.{agrees_grid, layout_where}
use Rattle.bztable.specs.Reading.{Read, got, triple_at, address_at, list_of}
use Rattle.bztable.specs.Access.{image_places, first_place}
use Rattle.bztable.proofs.Records.{layout-known}
use Rattle.bztable.proofs.TableRead.{address-got, first-stands}
use Rattle.triplet_grid.specs.IrTriplets.{triplet_tests, ir_triplets_at_q}
use Rattle.triplet_grid.proofs.Outcome.{InputAccepted, input-accepted}
use Rattle.bz_triplets.specs.BzTriplets.{State, first_of, point_of, triplet_list, cell_list, triplets_read, states_read, triplets_in, bz_triplets_at_q}
use Rattle.bz_triplets.proofs.CallOutcome.{Input, InputAccepted as CallInput, input-accepted as call-input}
use Rattle.bzgrid.proofs.Accepted.{passes-first}
use Rattle.bz_triplets.specs.BzTriplets as triplet
use Rattle.demand3.specs.FinishedList.{Starts}

-- ---- the class call takes a point of the grid
module _ (q0 : ℤ) (d rotations : List ℤ) (time_reversal swappable : Bool) (n m : ℕ) {k : ℤ} (e : (ir_triplets_at_q q0 d rotations time_reversal swappable n m).answer ≡ Ok k) where
  pub tests-accepted : triplet_tests q0 d rotations time_reversal n m ≡ Accepted
  unfolding ir_triplets_at_q
  tests-accepted = go (triplet_tests q0 d rotations time_reversal n m) _ e
    where
      go : (t : Tested) (z : ℤ) → giving t z ≡ Ok k → t ≡ Accepted
      go (Ok _) z e = refl
      go (Err r) z e = absurd (refused-not-ok e)

  pub classes-accepted : InputAccepted q0 d rotations n m
  unfolding triplet_tests
  classes-accepted = input-accepted q0 d rotations n m (both-accepted _ _ tests-accepted).0

-- ---- where the triplet call starts
module _ (map : List ℤ) (n q0 start : ℕ) where
  pub starts-point : (d : Vec ℕ) (t : GridType) → Starts t map n q0 start → (a : Vec ℤ) → index d a ≡ q0 → point_of d t start a ≡ q0
  starts-point d Sparse e a f = e
  starts-point d Dense m a f = f

-- ---- the first image of a point
pub first-got : (t : GridType) (map addresses : List ℤ) (n q1 : ℕ) {l : List ℕ} → image_places t map n q1 ≡ got l → 0 < length l → {a : Vec ℤ} → first_of map addresses t q1 ≡ got a
    → (i : ℕ) × (i ∈ l) × (triple_at addresses i ≡ a)
first-got t map addresses n q1 {l} r h e =
    let f = passes-first (first_place t map q1) (address_at addresses) e in
    (f.0, first-stands map n q1 {l = l} t r h f.1, address-got addresses f.0 f.2)

-- ---- the triplet call has read every triplet, and leaves them
pub record TripletsAccepted (q0 : ℤ) (addresses map : List ℤ) (r : TableRecord) (classes d : List ℤ) (q : List (List ℤ)) (lattice : List (List Float)) (t : ℤ) (n m l o : ℕ) : Type 0 where
  pub kind : GridType
  pub known : grid_type_of t ≡ Ok kind
  pub states : List State
  pub read : triplets_read q0 addresses map classes d q lattice kind ≡ got states
  pub written : (bz_triplets_at_q q0 addresses map r classes d q lattice t n m l o).out ≡ triplet_list states
  pub celled : (bz_triplets_at_q q0 addresses map r classes d q lattice t n m l o).cells ≡ cell_list (sides_of d) states
  pub grid : T (diagonal_fits d)
  pub counted : n ≡ own_places classes (length classes) * 3

module _ (q0 : ℤ) (addresses map : List ℤ) (r : TableRecord) (classes d : List ℤ) (q : List (List ℤ)) (lattice : List (List Float)) (t : ℤ) (n m l o : ℕ)
    (e : (bz_triplets_at_q q0 addresses map r classes d q lattice t n m l o).answer ≡ Accepted) where
  abbrev reads : GridType → Read (List State)
  reads = triplets_read q0 addresses map classes d q lattice

  abbrev layout : Result GridType Refusal
  layout = layout_where (agrees_grid r d t) t

  tests-passed : (k : GridType) × (triplet.input_tests layout q0 addresses classes d q lattice t n m l o ≡ Ok k) × ((reads k then λ _. Accepted) ≡ Accepted)
  unfolding bz_triplets_at_q triplets_in
  tests-passed = passes-first (triplet.input_tests layout q0 addresses classes d q lattice t n m l o) (λ k. reads k then λ _. Accepted) e

  abbrev kind : GridType
  kind = tests-passed.0

  abbrev given : Input
  given = record { layout = layout; q0 = q0; addresses = addresses; map = map; classes = classes; d = d; q = q; lattice = lattice; t = t; n = n; m = m; l = l; c = o }

  input : CallInput given kind
  input = call-input given refl refl (sym tests-passed.1)

  all_read : (s : List State) × (reads kind ≡ got s) × (Accepted ≡ Accepted)
  all_read = passes-first (reads kind) (λ _. Accepted) tests-passed.2

  pub triplets-accepted : TripletsAccepted q0 addresses map r classes d q lattice t n m l o
  unfolding bz_triplets_at_q triplets_in states_read
  triplets-accepted = record {
    kind = kind;
    known = (layout-known (agrees_grid r d t) t input.known).1;
    states = all_read.0;
    read = all_read.1;
    written = (λ j. output_of (e j) n (triplet_list (list_of (input.known j then reads)))) ∙ ap (λ r. triplet_list (list_of r)) all_read.1;
    celled =
        (λ j. output_of (e j) o (cell_list (sides_of d) (list_of (input.known j then reads)))) ∙ ap (λ r. cell_list (sides_of d) (list_of r)) all_read.1;
    grid = input.grid;
    counted = input.room.triplets;
  }
