-- No step of the chain is refused by 17: the triplets are read by the layout of the type, since the record is of the grid.
use mathlib.Core.Path.{◌≡◌, refl, sym, ap, subst}
use mathlib.Core.Bool.{Bool, true, false, not, ◌&&◌, ◌||◌}
use mathlib.Core.List.{List}
use mathlib.Core.Logic.{⊎_elim}
use Prim.Native.Nat.{ℕ, ◌*◌}
use lib.Dec.{T, eqb, leb}
use lib.IntN.{ℤ, pos}
use lib.Ieee.{Float}
use lib.ListN.{length}
use Rattle.std.specs.Prelude.{None, Result, Ok, Err}
use Rattle.integer.specs.Same.{same}
use Rattle.common.specs.Matrix.{Mat}
use Rattle.common.specs.Array.{vector_of, sides_of, matrix_of, matrices}
use Rattle.common.specs.FloatMatrix.{float_matrix}
use Rattle.common.specs.Limits.{matrix_within, all_within, diagonal_fits, point_fits, rotations_fit, whole_matrices}
use Rattle.common.specs.Tested.{without_value, Tested, Accepted}
use Rattle.common.specs.Refusal.{number_of}
use Rattle.common.specs.declared.Refusal.{Refusal}
use Rattle.common.specs.declared.Refusal.TheVariants.{OtherGrid}
use Rattle.common.proofs.RefusedBy.{RefusedBy, given, by, by-test, by-case, by-giving, by-value, by-then, by-both}
use Rattle.common.proofs.Tests.{refused-not-ok}
use Rattle.grgrid.specs.Grid.{size}
use Rattle.grgrid.specs.Own.{own_places}
use Rattle.snf3x3.specs.Snf3x3.{Answer, refused, diagonalised, snf3x3}
use Rattle.snf3x3.specs.Written.{written}
use Rattle.snf3x3.proofs.FewRounds.{Within, rounds-within}
use Rattle.recip_rotations.specs.PointGroup.{transposed_if, joins, input_tests, room_tests}
use Rattle.recip_rotations.specs.Unique.{unique}
use Rattle.rotation_group.specs.Group.{is_group}
use Rattle.rotation_group.specs.ReciprocalGroup.{given_tests, reciprocal_tests}
use Rattle.transform_rotations.specs.TransformRotations.{singular_q, all_whole, transform_tests}
use Rattle.transform_rotations.specs.TransformRotations as transform
use Rattle.bzgrid.specs.declared.GridType.{GridType}
use Rattle.bzgrid.specs.declared.Built.{Built}
use Rattle.bzsearch.specs.Lattice.{singular, lattice_fits}
use Rattle.bzsearch.specs.Search.{Search, unimodular}
use Rattle.bzgrid.specs.Table.{images_at}
use Rattle.bzgrid.specs.BzGridAddresses.{grid_type_of, search_of, all_found, lengths_of, has_room, within_limits, build_tests, built, built_for, bz_grid_addresses}
use Rattle.bzgrid.specs.BzGridAddresses as image
use Rattle.bztable.specs.Reading.{whole_addresses}
use Rattle.bztable.specs.Agreement.{agrees_grid, layout_where}
use Rattle.bztable.proofs.Records.{agrees-on-grid, left-record, layout-agreed}
use Rattle.triplet_grid.specs.IrTriplets.{triplet_tests, ir_triplets_at_q}
use Rattle.triplet_grid.specs.IrTriplets as classes
use Rattle.bz_triplets.specs.BzTriplets.{triplets_in, triplets_read, bz_triplets_at_q}
use Rattle.bz_triplets.specs.BzTriplets as triplets
use Rattle.bz_triplets.proofs.ReadRefusals.{by-triplets}
use Rattle.zone_steps.specs.Steps.{Rooms, Setting, Outcome, group, rotation_tests, table_of, points_of, classified, class_map_of, count, start, chosen, list_tests, images, table, listed}
use Rattle.zone.specs.Chain.{Job, rooms_agree, diagonal, sides, change, outcome_of, grid_of, chain_finished, chain_tests, finished_list}
use Rattle.zone.specs.NeverOther.{NeverOther}

-- not 17
abbrev P : Refusal → Type 0
P r = T (not (eqb (number_of r) 17))

-- ---- diagonalising
by-diagonal : (m : Mat ℤ) → RefusedBy P (written (snf3x3 m))
by-diagonal m = go (snf3x3 m) (rounds-within m)
  where
    go : (a : Answer) → Within 82 a → RefusedBy P (written a)
    go (refused r) g =
        by P (⊎_elim (λ e. subst P (sym e) tt) (λ h. ⊎_elim (λ e. subst P (sym e) tt) (λ e. subst P (sym e) tt) h) g)
    go (diagonalised d p q n) g = given P

-- ---- the rotations
by-room : (l : List (Mat ℤ)) (time transposed : Bool) → RefusedBy P (room_tests l time transposed)
unfolding room_tests
by-room l time transposed =
    let u = transposed_if transposed (unique l) in
    by-test P (leb (length (unique l)) 48) tt (by-test P (not (joins time u) || leb (length u) 24) tt (given P))

by-rotations : (l : List ℤ) (time : Bool) (d : List ℤ) (q : List (List ℤ)) → RefusedBy P (rotation_tests l time d q)
unfolding rotation_tests reciprocal_tests given_tests input_tests transform_tests transform.input_tests
by-rotations l time d q =
    let g = group l time in
    by-both P (reciprocal_tests l time 432)
    (by-both P (given_tests l 432)
    (by-both P (input_tests l 432) (by-test P (whole_matrices l) tt (by-test P (rotations_fit 100000 l) tt (given P)))
    (λ _. by-test P (is_group (matrices l)) tt (given P)))
    (λ _. by-room (matrices l) time true))
    (λ _.
    by-both P (transform.input_tests g d q (length g))
    (by-test P (whole_matrices g) tt
    (by-test P (leb (length g) 1728) tt
    (by-test P (eqb (length g) (length g)) tt
    (by-test P (all_within 100 g && (matrix_within 1000 (matrix_of q) && diagonal_fits d)) tt
    (by-test P (not (singular_q (matrix_of q))) tt (given P))))))
    (λ _. by-test P (all_whole (vector_of d) (matrix_of q) (matrices g)) tt (given P)))

-- ---- images
by-type : (t : ℤ) → RefusedBy P (grid_type_of t)
by-type t = by-case P (same t (pos 1)) (given P) (by-case P (same t (pos 2)) (given P) (by P tt))

by-tables : (k : Result GridType Refusal) (s : Search) (a b c : ℕ) → RefusedBy P k → RefusedBy P (built_for k s None a b c).answer
unfolding built build_tests
by-tables (Ok k) s a b c h =
    by-giving P (build_tests k s None a b c) _
    (by-test P (all_found (images_at s) (size s.d)) tt (by-test P (has_room (lengths_of k s.d (images_at s)) a b c) tt (given P)))
by-tables (Err r) s a b c h = by P (h.only r refl)

by-images : (d : List ℤ) (q : List (List ℤ)) (ps : List ℤ) (lattice : List (List Float)) (t : ℤ) (a b c : ℕ) → RefusedBy P (bz_grid_addresses d q ps lattice t a b c).answer
unfolding bz_grid_addresses image.tables_told image.input_tests
by-images d q ps lattice t a b c =
    by-then P (built_for (image.input_tests d q ps lattice t) (search_of d q ps lattice) None a b c).answer
    (by-tables (image.input_tests d q ps lattice t) (search_of d q ps lattice) a b c
    (by-test P (within_limits d q ps lattice) tt
    (by-then P (grid_type_of t) (by-type t) (λ k.
    by-test P (unimodular (matrix_of q)) tt (by-test P (not (singular (float_matrix lattice))) tt (given P))))))
    (λ l. given P)

-- ---- classes
by-classes : (q0 : ℤ) (d l : List ℤ) (time swappable : Bool) (n m : ℕ) → RefusedBy P (ir_triplets_at_q q0 d l time swappable n m).answer
unfolding ir_triplets_at_q triplet_tests classes.input_tests
by-classes q0 d l time swappable n m =
    by-giving P (triplet_tests q0 d l time n m) _
    (by-both P (classes.input_tests q0 d l n m)
    (by-test P (whole_matrices l) tt
    (by-test P (diagonal_fits d) tt
    (by-test P (eqb n (size (sides_of d)) && eqb m (size (sides_of d))) tt
    (by-test P (point_fits q0 (pos (size (sides_of d)))) tt
    (by-test P (rotations_fit 100000 l) tt (given P))))))
    (λ _. by-room (matrices l) time false))

-- ---- triplets, of a layout that is not refused by 17
module _ (g : Setting) where
  by-layout : (k : Result GridType Refusal) → RefusedBy P k → (q0 : ℤ) (addresses map classes d : List ℤ) (q : List (List ℤ)) (lattice : List (List Float)) (t : ℤ) (n m l c : ℕ)
      → RefusedBy P (triplets_in k q0 addresses map classes d q lattice t n m l c).answer
  unfolding triplets_in triplets.triplet_tests triplets.input_tests
  by-layout k h q0 addresses map classes d q lattice t n m l c =
      let own = own_places classes (length classes) in
      by-then P (triplets.input_tests k q0 addresses classes d q lattice t n m l c)
      (by-test P (whole_addresses addresses && (eqb n (own * 3) && (eqb m own && (eqb l own && eqb c (own * 3))))) tt
      (by-test P (diagonal_fits d && (matrix_within 1000 (matrix_of q) && lattice_fits (float_matrix lattice))) tt
      (by-test P (triplets.is_dense (grid_type_of t) || point_fits q0 (pos (size (sides_of d)))) tt h)))
      (λ k. by-then P (triplets_read q0 addresses map classes d q lattice k) (by-triplets P tt q0 addresses map classes d q lattice k) (λ _. given P))

  -- of tables that an accepted image call left
  module _ (shift : List ℤ) (r : Rooms) where
    agreed : (b : Built) → (images g shift r).answer ≡ Ok b → T (agrees_grid (table g shift r) g.d g.type)
    unfolding images
    agreed b e =
        subst (λ t. T (agrees_grid t g.d g.type)) (sym (ap table_of e))
        (agrees-on-grid b.table g.d shift g.type (left-record g.d g.q shift g.lattice g.type r.addresses r.map r.grg b e))

    by-chosen : (b : Built) → (images g shift r).answer ≡ Ok b → RefusedBy P (chosen g (images g shift r).addresses (images g shift r).map (table g shift r)).answer
    unfolding chosen bz_triplets_at_q
    by-chosen b e =
        let a = (images g shift r).addresses in
        let m = (images g shift r).map in
        let t = table g shift r in
        by-layout (layout_where (agrees_grid t g.d g.type) g.type) (subst (RefusedBy P) (sym (layout-agreed (agrees_grid t g.d g.type) g.type (agreed b e))) (by-type g.type))
        (start g a m t) a m (class_map_of g) g.d g.q g.lattice g.type (count g * 3) (count g) (count g) (count g * 3)

    accepted : (a : Result Built Refusal) → without_value a ≡ Accepted → (b : Built) × (a ≡ Ok b)
    accepted (Ok b) e = (b, refl)
    accepted (Err r) e = absurd (refused-not-ok e)

    by-listed : RefusedBy P (listed g shift r).answer
    unfolding listed images classified list_tests
    by-listed =
        let i = images g shift r in
        by-test P (leb (points_of g) r.classes) tt
        (by-both P (without_value i.answer) (by-value P i.answer (by-images g.d g.q shift g.lattice g.type r.addresses r.map r.grg)) (λ e.
        let b = accepted i.answer e in
        by-both P (without_value (classified g).answer) (by-value P (classified g).answer (by-classes g.q0 g.d g.rotations g.time_reversal g.swappable (points_of g) (points_of g)))
        (λ _. by-chosen b.0 b.1)))

-- ---- the chain
module _ (j : Job) (r : Rooms) where
  by-chain : RefusedBy P (chain_tests j r)
  unfolding chain_tests diagonal
  by-chain =
      by-test P (rooms_agree r) tt
      (by-both P (without_value (diagonal j.matrix)) (by-value P (diagonal j.matrix) (by-diagonal (matrix_of j.matrix))) (λ _.
      by-both P (rotation_tests j.rotations j.time_reversal (sides j.matrix) (change j.matrix)) (by-rotations j.rotations j.time_reversal (sides j.matrix) (change j.matrix)) (λ _. by-listed (grid_of j) j.shift r)))

  by-outcome : {A B : Type 0} (t : Tested) (v : A) (o : Outcome B) → RefusedBy P t → RefusedBy P (outcome_of t v r o).answer
  by-outcome (Ok _) v o h = given P
  by-outcome (Err x) v o h = by P (h.only x refl)

  by-finished : RefusedBy P (finished_list j r).answer
  unfolding finished_list
  by-finished = by-outcome (chain_tests j r) (chain_finished j) (listed (grid_of j) j.shift r) by-chain

pub never-other : NeverOther
never-other j r = (by-finished j r).only OtherGrid
