-- Demand 3 of the chain: an accepted chain has made the five calls, each accepted and each given what those before it left, and its list is a group.
use mathlib.Core.Path.{◌≡◌, refl, sym, ◌∙◌, ap, subst}
use mathlib.Core.Bool.{true}
use mathlib.Core.List.{List}
use Prim.Native.Nat.{ℕ, ◌*◌, ◌<◌}
use lib.Dec.{T, leb}
use lib.IntN.{ℤ, pos, negsuc, nat_abs}
use lib.ListN.{length, take}
use lib.Signed.{non_neg}
use Rattle.std.specs.Prelude.{Result, Ok, Err, IfOk}
use Rattle.common.specs.declared.Refusal.{Refusal}
use Rattle.common.specs.Matrix.{Vec, Mat}
use Rattle.common.specs.Array.{matrix_of, matrices, items, rows}
use Rattle.common.specs.declared.Refusal.TheVariants.{WrongLength}
use Rattle.common.proofs.Tests.{passed, not-accepted, both-accepted}
use Rattle.common.specs.Tested.{after, giving, Accepted, without_value}
use Rattle.snf3x3.specs.Snf3x3.{Answer, refused, diagonalised, snf3x3}
use Rattle.snf3x3.specs.Written.{written}
use Rattle.recip_rotations.specs.PointGroup.{point_group, get_reciprocal_point_group}
use Rattle.rotation_group.specs.ReciprocalGroup.{reciprocal_tests}
use Rattle.rotation_group.proofs.Accepted.{accepted-joined, accepted-call}
use Rattle.transform_rotations.specs.TransformRotations.{transform_tests, transform_rotations}
use Rattle.bzgrid.specs.declared.GridType.{GridType}
use Rattle.bzgrid.specs.declared.GridType.TheVariants.{Sparse, Dense}
use Rattle.bzgrid.specs.declared.TableRecord.{TableRecord}
use Rattle.bzgrid.specs.declared.Built.{Built}
use Rattle.bzgrid.specs.BzGridAddresses.{grid_type_of, bz_grid_addresses}
use Rattle.bztable.specs.Reading.{got, address_of}
use Rattle.bztable.specs.Access.{image_places}
use Rattle.bztable.proofs.TableRead.{place-got, dense-first}
use Rattle.bztable.proofs.ImageTable.{some-place}
use Rattle.bztable.proofs.AcceptedCall.{CallAccepted, call-accepted, call-stands, call-found}
use Rattle.triplet_grid.specs.IrTriplets.{ir_triplets_at_q}
use Rattle.bz_triplets.specs.BzTriplets.{bz_triplets_at_q, triplets_read}
use Rattle.bz_triplets.proofs.CallOutcome.{asked-for}
use Rattle.demand3.specs.FinishedList.{Given, as-returned, Starts, Calls}
use Rattle.zone_steps.specs.Steps.{Rooms, Setting, Lists, group, transformed, rotation_tests, start_of, table_of, points_of, classified, class_map_of, count, start, chosen, list_tests, lists_of, images, table, listed}
use Rattle.zone.specs.Chain.{Job, rooms_agree, sides_in, change_in, diagonal, outcome_of, grid_of, chain_finished, chain_tests, finished_list}
use Rattle.zone.specs.declared.Finished.{Finished}
use Rattle.zone_steps.specs.StepsView.{grid}
use Rattle.zone.specs.ChainFinished.{FinishedChain}
use Rattle.zone.proofs.Outcomes.{leaving}
use Rattle.grgrid.specs.Lists.{◌∈◌}
use Rattle.grgrid.proofs.Own.{length-own}
use Rattle.bzgrid.proofs.Accepted.{passes-first}
use Rattle.demand3.proofs.AcceptedTriplets.{triplets-accepted}
use Rattle.recip_rotations.proofs.ToldPart.{told_part}
use Rattle.demand3.proofs.FinishedList.{finished-list}
use Rattle.zone_steps.proofs.ListedClasses.{class-input}

-- ---- a number that is not negative
whole : (z : ℤ) → T (non_neg z) → z ≡ pos (nat_abs z)
whole (pos n) t = refl
whole (negsuc n) t = absurd t

-- ---- an accepted call gave a value
given-by : {A : Type 0} (a : Result A Refusal) → without_value a ≡ Accepted → (v : A) × (a ≡ Ok v)
given-by (Ok v) e = (v, refl)
given-by (Err r) e = absurd (not-accepted e)

-- ---- where the triplet call starts
starts-at : (t : GridType) (map : List ℤ) (n q0 : ℕ) {l : List ℕ} → image_places t map n q0 ≡ got l → 0 < length l → Starts t map n q0 (nat_abs (start_of (Ok t) map (pos q0)))
starts-at Sparse map n q0 e h = refl
starts-at Dense map n q0 {l} e h =
    let r = dense-first map n q0 e in
    record { places = l; read = e; stands = subst (λ i. i ∈ l) (ap nat_abs (sym (place-got map q0 r.1))) (r.2 h) }

-- ---- a grid by its diagonal d and its change of basis q, with shift and rooms
module _ (j : Job) (r : Rooms) (d : Vec ℤ) (p q : Mat ℤ) (rounds : ℕ) (diagonalises : snf3x3 (matrix_of j.matrix) ≡ diagonalised d p q rounds) where
  abbrev list : List ℤ
  list = group j.rotations j.time_reversal

  abbrev turned : List ℤ
  turned = transformed j.rotations j.time_reversal (items d) (rows q)

  abbrev g : Setting
  g = grid (items d) (rows q) turned j.lattice j.time_reversal j.swappable j.type j.q0

  abbrev a : List ℤ
  a = (images g j.shift r).addresses

  abbrev m : List ℤ
  m = (images g j.shift r).map

  abbrev t : TableRecord
  t = table g j.shift r

  module _ (rotations-accepted : rotation_tests j.rotations j.time_reversal (items d) (rows q) ≡ Accepted) (grid-accepted : (listed g j.shift r).answer ≡ Accepted) where
    abbrev told : ℕ
    told = length (point_group (matrices j.rotations) j.time_reversal true)

    both : (reciprocal_tests j.rotations j.time_reversal 432 ≡ Accepted) × (transform_tests list (items d) (rows q) (length list) ≡ Accepted)
    unfolding rotation_tests
    both = both-accepted (reciprocal_tests j.rotations j.time_reversal 432) (transform_tests list (items d) (rows q) (length list)) rotations-accepted

    returned : (get_reciprocal_point_group j.rotations j.time_reversal true 432).answer ≡ Ok told
    unfolding get_reciprocal_point_group
    returned = ap (λ t. giving t told) (accepted-call j.rotations j.time_reversal 432 both.0)

    told-list : take (told * 9) (get_reciprocal_point_group j.rotations j.time_reversal true 432).out ≡ list
    unfolding group
    told-list = told_part j.rotations j.time_reversal true 432 told returned

    given : Given j.time_reversal j.rotations list
    given = subst (Given j.time_reversal j.rotations) told-list (as-returned true 432 told returned)

    transforms : (transform_rotations list (items d) (rows q) (length list)).answer ≡ Accepted
    unfolding transform_rotations
    transforms = both.1

    transforms-to : turned ≡ (transform_rotations list (items d) (rows q) (length list)).out
    unfolding transformed
    transforms-to = refl

    -- ---- images
    after-room : after (without_value (images g j.shift r).answer) (list_tests g a m t) ≡ Accepted
    unfolding listed
    after-room = (passed (leb (points_of g) r.classes) WrongLength (after (without_value (images g j.shift r).answer) (list_tests g a m t)) grid-accepted).1

    builds : (l : Built) × ((bz_grid_addresses (items d) (rows q) j.shift j.lattice j.type r.addresses r.map r.grg).answer ≡ Ok l)
    unfolding images
    builds = given-by (images g j.shift r).answer (both-accepted (without_value (images g j.shift r).answer) (list_tests g a m t) after-room).0

    call : CallAccepted (items d) (rows q) j.shift j.lattice j.type r.addresses r.map r.grg builds.0
    call = call-accepted (items d) (rows q) j.shift j.lattice j.type r.addresses r.map r.grg builds.0 builds.1

    images-are : images g j.shift r ≡ bz_grid_addresses (items d) (rows q) j.shift j.lattice j.type r.addresses r.map r.grg
    unfolding images
    images-are = refl

    -- ---- classes
    lists : (without_value (classified g).answer ≡ Accepted) × ((chosen g a m t).answer ≡ Accepted)
    unfolding list_tests
    lists = both-accepted (without_value (classified g).answer) (chosen g a m t).answer (both-accepted (without_value (images g j.shift r).answer) (list_tests g a m t) after-room).1

    q0-is : j.q0 ≡ pos (nat_abs j.q0)
    q0-is = whole j.q0 (class-input g lists.0).sign

    inside : nat_abs j.q0 < points_of g
    inside = (class-input g lists.0).point

    classes-are : classified g ≡ ir_triplets_at_q (pos (nat_abs j.q0)) (items d) turned j.time_reversal j.swappable (points_of g) (points_of g)
    unfolding classified
    classes-are = ap (λ z. ir_triplets_at_q z (items d) turned j.time_reversal j.swappable (points_of g) (points_of g)) q0-is

    counts : (k : ℤ) × ((classified g).answer ≡ Ok k)
    counts = given-by (classified g).answer lists.0

    -- ---- triplets
    start_is : start g a m t ≡ pos (nat_abs (start g a m t))
    unfolding chosen triplets_read
    start_is =
        let k = triplets-accepted (start g a m t) a m t (class_map_of g) (items d) (rows q) j.lattice j.type (count g * 3) (count g) (count g) (count g * 3) lists.1 in
        whole (start g a m t) (asked-for a (start g a m t) (sym (passes-first (address_of a (start g a m t)) _ k.read).1))

    -- the record is what the image call left
    table-left : t ≡ builds.0.table
    unfolding images
    table-left = ap table_of builds.1

    triplets-are : chosen g a m t ≡ bz_triplets_at_q (pos (nat_abs (start g a m t))) a m builds.0.table (class_map_of g) (items d) (rows q) j.lattice j.type (count g * 3) (count g) (count g) (count g * 3)
    unfolding chosen
    triplets-are = λ i. bz_triplets_at_q (start_is i) a m (table-left i) (class_map_of g) (items d) (rows q) j.lattice j.type (count g * 3) (count g) (count g) (count g * 3)

    abbrev map-written : List ℤ
    map-written = (bz_grid_addresses (items d) (rows q) j.shift j.lattice j.type r.addresses r.map r.grg).map

    abbrev addresses-written : List ℤ
    addresses-written = (bz_grid_addresses (items d) (rows q) j.shift j.lattice j.type r.addresses r.map r.grg).addresses

    abbrev kind : GridType
    kind = call.kind

    starts : Starts kind m (points_of g) (nat_abs j.q0) (nat_abs (start g a m t))
    starts =
        subst (λ z. Starts kind m (points_of g) (nat_abs j.q0) (nat_abs (start_of (grid_type_of j.type) m z))) (sym q0-is)
        (subst (λ t. Starts kind m (points_of g) (nat_abs j.q0) (nat_abs (start_of t m (pos (nat_abs j.q0))))) (sym call.input.known)
        (starts-at kind m (points_of g) (nat_abs j.q0)
        (subst (λ l. image_places kind l (points_of g) (nat_abs j.q0) ≡ got ((call-stands call).places (nat_abs j.q0))) (sym (ap (λ o. o.map) images-are)) ((call-stands call).counted (nat_abs j.q0) inside))
        (some-place (call-stands call) (nat_abs j.q0) inside (call-found call (nat_abs j.q0) inside))))

    pub calls : Calls
    calls = record {
      list = j.rotations;
      matrix = j.matrix;
      lattice = j.lattice;
      shift = j.shift;
      type = j.type;
      kind = kind;
      kind-is = call.input.known;
      time_reversal = j.time_reversal;
      swappable = j.swappable;
      q0 = nat_abs j.q0;
      rotations = list;
      given = given;
      d = d;
      p = p;
      q = q;
      rounds = rounds;
      diagonalises = diagonalises;
      transformed = turned;
      room = length list;
      transforms = transforms;
      transforms-to = transforms-to;
      addresses = a;
      map = m;
      rooms = record { x = r.addresses; y = r.map; z = r.grg };
      built = builds.0;
      builds = builds.1;
      builds-addresses = ap (λ o. o.addresses) images-are;
      builds-map = ap (λ o. o.map) images-are;
      classes = class_map_of g;
      class-room = points_of g;
      point-room = points_of g;
      count = counts.0;
      classifies = sym (ap (λ o. o.answer) classes-are) ∙ counts.1;
      classifies-to = ap (λ o. o.map_triplets) classes-are;
      start = nat_abs (start g a m t);
      starts = starts;
      triplets = (chosen g a m t).out;
      triplet-rooms = record { x = count g * 3; y = count g; z = count g };
      chooses = sym (ap (λ o. o.answer) triplets-are) ∙ lists.1;
      chooses-to = ap (λ o. o.out) triplets-are;
      cells = (chosen g a m t).cells;
      cell-room = count g * 3;
      tells-cells = ap (λ o. o.cells) triplets-are;
    }

    -- what the calls left, by the definitions of the steps
    pub record Left : Type 0 where
      pub sides-are : calls.d ≡ d
      pub room-is : calls.rooms.z ≡ r.grg
      pub classes-are : calls.classes ≡ class_map_of g
      pub triplets-are : calls.triplets ≡ (chosen g a m t).out

    pub calls-left : Left
    unfolding calls
    calls-left = record { sides-are = refl; room-is = refl; classes-are = refl; triplets-are = refl }

    finished-calls : {f : Result Finished Refusal} {x y z : List ℤ} {l : Lists}
        → leaving f x y z l ≡ outcome_of Accepted (record { d = items d; num_ir = pos (count g) }) r (listed g j.shift r)
        → IfOk f (λ v. FinishedChain j v x y l r.classes)
    unfolding listed lists_of calls
    finished-calls {f} {x} {y} {z} {l} k = subst (λ f. IfOk f (λ v. FinishedChain j v x y l r.classes)) (sym (ap (λ o. o.answer) k)) (record {
      calls = calls;
      list-is = refl;
      matrix-is = refl;
      lattice-is = refl;
      shift_is = refl;
      type-is = refl;
      time-is = refl;
      swapping-is = refl;
      q0-is = sym q0-is;
      rotations-are = refl;
      diagonal-is = refl;
      num_ir-is = ap pos (sym (length-own (class_map_of g) (length (class_map_of g))));
      start_is = sym start_is ∙ ap (λ t. start_of t m j.q0) call.input.known;
      addresses-are = ap (λ o. o.addresses) k;
      map_is = ap (λ o. o.map) k;
      classes-are = ap (λ o. o.lists.classes) k;
      triplets-are = ap (λ o. o.lists.triplets) k;
      cells-are = ap (λ o. o.lists.cells) k;
      finished = finished-list calls (accepted-joined j.rotations j.time_reversal 432 both.0);
    })

-- ---- the chain
pub chain-finished-list : (j : Job) (r : Rooms) → chain_tests j r ≡ Accepted → {f : Result Finished Refusal} {x y z : List ℤ} {l : Lists} → leaving f x y z l ≡ finished_list j r
    → IfOk f (λ v. FinishedChain j v x y l r.classes)
unfolding finished_list diagonal chain_finished grid_of
chain-finished-list j r e {f} {x} {y} {z} {l} k =
    go (snf3x3 (matrix_of j.matrix)) refl (passed (rooms_agree r) WrongLength _ e).1 (k ∙ ap (λ t. outcome_of t (chain_finished j) r (listed (grid_of j) j.shift r)) e)
  where
    grid_by : Answer → Setting
    grid_by w = grid (sides_in (written w)) (change_in (written w)) (transformed j.rotations j.time_reversal (sides_in (written w)) (change_in (written w))) j.lattice j.time_reversal j.swappable j.type j.q0

    finished_by : Answer → Finished
    finished_by w = record { d = sides_in (written w); num_ir = pos (count (grid_by w)) }

    go : (w : Answer) → snf3x3 (matrix_of j.matrix) ≡ w
        → after (without_value (written w)) (after (rotation_tests j.rotations j.time_reversal (sides_in (written w)) (change_in (written w))) (listed (grid_by w) j.shift r).answer) ≡ Accepted
        → leaving f x y z l ≡ outcome_of Accepted (finished_by w) r (listed (grid_by w) j.shift r) → IfOk f (λ v. FinishedChain j v x y l r.classes)
    go (refused c) f e k = absurd (not-accepted e)
    go (diagonalised d p q n) f e k =
        let b = both-accepted (rotation_tests j.rotations j.time_reversal (items d) (rows q)) (listed (grid_by (diagonalised d p q n)) j.shift r).answer e in
        finished-calls j r d p q n f b.0 b.1 k
