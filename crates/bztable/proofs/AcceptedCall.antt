-- An accepted call of `bz_grid_addresses`: what its tests say of the input, and what it leaves.
use mathlib.Core.Path.{◌≡◌, refl, sym, ◌∙◌, ap, subst}
use mathlib.Core.Bool.{true}
use mathlib.Core.List.{List}
use Prim.Native.Nat.{ℕ, ◌<◌, ◌≤◌}
use native.Mathlib.Nat.{le_trans}
use lib.Dec.{T, eqb→eq, lit≤}
use lib.IntN.{ℤ, nat_abs}
use lib.Ieee.{Float, le}
use lib.ListN.{length}
use Rattle.std.specs.Prelude.{None, Result, Ok, Err}
use Rattle.float.specs.Value.{Bounded, zero_f}
use Rattle.integer.proofs.Test.{holds}
use Rattle.common.specs.Matrix.{det}
use Rattle.common.specs.Array.{vector_of, sides_of, matrix_of}
use Rattle.common.specs.FloatMatrix.{float_matrix}
use Rattle.common.specs.Tested.{require, ◌then◌, Accepted, giving}
use Rattle.common.specs.declared.Refusal.{Refusal}
use Rattle.common.specs.declared.Refusal.TheVariants.{SearchFailed, WrongLength}
use Rattle.common.proofs.Tests.{passed, passed-by, same-ok, refused-not-ok}
use Rattle.grgrid.specs.Grid.{size}
use Rattle.grgrid.proofs.Accepted.{grid-fits, few-points}
use Rattle.bzgrid.specs.declared.Lengths.{Lengths}
use Rattle.bzgrid.specs.declared.TableRecord.{TableRecord}
use Rattle.bzgrid.specs.declared.Built.{Built}
use Rattle.bzgrid.specs.declared.GridType.{GridType}
use Rattle.bzgrid.specs.declared.GridType.TheVariants.{Sparse}
use Rattle.bzsearch.specs.Search.{Search, images}
use Rattle.bzgrid.specs.Table.{images_at, address_list, point_list}
use Rattle.bzgrid.specs.BzGridAddresses.{search_of, table_of, map_of, all_found, lengths_of, has_room, input_tests, padded, laid_out, build_tests, built, built_for, recorded, tables_told, bz_grid_addresses}
use Rattle.bzsearch.proofs.Images.{Sound, new-sound, images-distinct, image-folds}
use Rattle.bztable.specs.Images.{FoldBack, EveryImage}
use Rattle.bztable.proofs.ImageTable.{Stands, Folded, table-stands, stands-at, image-at, place-folds, address-once}
use Rattle.bzgrid.proofs.Accepted.{InputAccepted, input-accepted}
use Rattle.bztable.proofs.DoubledMesh.{Mesh, table-mesh}
use Rattle.bzgrid.proofs.ImageBounds.{length-images, images-total}
use Rattle.bzsearch.proofs.LatticeBounds.{tolerance-length}
use Rattle.bztable.proofs.TableRead.{found}

module _ (d : List ℤ) (q : List (List ℤ)) (ps : List ℤ) (lattice : List (List Float)) {t : ℤ} {k : GridType} (i : InputAccepted d q ps lattice t k) where
  pub accepted-sound : Sound (search_of d q ps lattice)
  accepted-sound = new-sound (sides_of d) (vector_of ps) (float_matrix lattice) (record { positive = (grid-fits d i.grid).positive }) (record { unit = eqb→eq (nat_abs (det (matrix_of q))) 1 i.unit })

-- ---- the call, and what it leaves
pub record CallAccepted (d : List ℤ) (q : List (List ℤ)) (ps : List ℤ) (lattice : List (List Float)) (t : ℤ) (a b c : ℕ) (l : Built) : Type 0 where
  pub kind : GridType
  pub input : InputAccepted d q ps lattice t kind
  pub some : T (all_found (images_at (search_of d q ps lattice)) (size (sides_of d)))
  pub lengths : l.lengths ≡ lengths_of kind (sides_of d) (images_at (search_of d q ps lattice))
  pub room : T (has_room l.lengths a b c)
  pub table : l.table ≡ record { d = d; ps = ps; bz_grid_type = t }
  pub addresses : (bz_grid_addresses d q ps lattice t a b c).addresses ≡ padded (address_list (table_of kind (images_at (search_of d q ps lattice)) (size (sides_of d)))) a
  pub map : (bz_grid_addresses d q ps lattice t a b c).map ≡ padded (map_of kind (sides_of d) (images_at (search_of d q ps lattice))) b
  pub points : (bz_grid_addresses d q ps lattice t a b c).grg ≡ padded (point_list (table_of kind (images_at (search_of d q ps lattice)) (size (sides_of d)))) c

module _ (d : List ℤ) (q : List (List ℤ)) (ps : List ℤ) (lattice : List (List Float)) (t : ℤ) (a b c : ℕ) where
  abbrev s : Search
  s = search_of d q ps lattice

  abbrev table : TableRecord
  table = record { d = d; ps = ps; bz_grid_type = t }

  module _ (l : Built) (e : (bz_grid_addresses d q ps lattice t a b c).answer ≡ Ok l) where
    given : (k : GridType) × (input_tests d q ps lattice t ≡ Ok k) × (bz_grid_addresses d q ps lattice t a b c ≡ recorded table (built k s None a b c))
    unfolding bz_grid_addresses tables_told
    given = by (input_tests d q ps lattice t) e
      where
        by : (r : Result GridType Refusal) → (recorded table (built_for r s None a b c)).answer ≡ Ok l → (k : GridType) × (r ≡ Ok k) × (recorded table (built_for r s None a b c) ≡ recorded table (built k s None a b c))
        by (Ok k) e = (k, refl, refl)
        by (Err r) e = absurd (refused-not-ok e)

    abbrev kind : GridType
    kind = given.0

    abbrev lengths : Lengths
    lengths = lengths_of kind (sides_of d) (images_at s)

    tested : build_tests kind s None a b c ≡ Accepted
    unfolding built
    tested = passed-by (λ k. giving k lengths then λ l. Ok (record { lengths = l; table = table })) (λ r. refused-not-ok) (build_tests kind s None a b c) (sym (ap (λ o. o.answer) given.2) ∙ e)

    left : bz_grid_addresses d q ps lattice t a b c ≡ recorded table (laid_out kind s.d (images_at s) a b c Accepted)
    unfolding built
    left = given.2 ∙ ap (λ t. recorded table (laid_out kind s.d (images_at s) a b c t)) tested

    full : l ≡ record { lengths = lengths; table = table }
    full = same-ok (sym e ∙ ap (λ o. o.answer) left)

    pub call-accepted : CallAccepted d q ps lattice t a b c l
    unfolding build_tests
    call-accepted = record {
      kind = kind;
      input = input-accepted d q ps lattice t given.1;
      some = holds first.0;
      lengths = ap (λ l. l.lengths) full;
      room = subst (λ l. T (has_room l.lengths a b c)) (sym full) (holds second.0);
      table = ap (λ l. l.table) full;
      addresses = ap (λ o. o.addresses) left;
      map = ap (λ o. o.map) left;
      points = ap (λ o. o.grg) left;
    }
      where
        first : (all_found (images_at s) (size (sides_of d)) ≡ true) × (require (has_room lengths a b c) WrongLength Accepted ≡ Accepted)
        first = passed (all_found (images_at s) (size (sides_of d))) SearchFailed (require (has_room lengths a b c) WrongLength Accepted) tested

        second : (has_room lengths a b c ≡ true) × (Accepted ≡ Accepted)
        second = passed (has_room lengths a b c) WrongLength Accepted first.1

-- ---- its tables
module _ {d : List ℤ} {q : List (List ℤ)} {ps : List ℤ} {lattice : List (List Float)} {t : ℤ} {a b c : ℕ} {l : Built} (h : CallAccepted d q ps lattice t a b c l) where
  abbrev found_by : Search
  found_by = search_of d q ps lattice

  pub call-sound : Sound found_by
  call-sound = accepted-sound d q ps lattice h.input

  pub call-folded : Folded (sides_of d) (images found_by)
  call-folded = record { folds = λ p n. image-folds found_by p call-sound n; apart = λ p. images-distinct found_by p call-sound }

  few : size (sides_of d) ≤ 65536
  few = few-points d h.input.grid

  -- below 2 ^ 40
  pub call-total : l.lengths.grg ≤ 2363359232
  call-total = rw h.lengths (images-total found_by (size (sides_of d)) few h.kind)

  few-images : length (table_of h.kind (images_at found_by) (size (sides_of d))) ≤ 1099511627776
  few-images = le_trans (images-total found_by (size (sides_of d)) few h.kind) (lit≤ tt)

  pub call-stands : Stands h.kind (size (sides_of d)) (images found_by) (bz_grid_addresses d q ps lattice t a b c).addresses (bz_grid_addresses d q ps lattice t a b c).map (bz_grid_addresses d q ps lattice t a b c).grg l.lengths.grg
  unfolding images_at
  call-stands = rw (h.addresses, h.map, h.points, h.lengths) (table-stands (sides_of d) (images found_by) h.kind h.some few-images (le_trans few (lit≤ tt)) a b c)

  pub call-mesh : h.kind ≡ Sparse → Mesh (sides_of d) (bz_grid_addresses d q ps lattice t a b c).addresses (bz_grid_addresses d q ps lattice t a b c).map l.lengths.grg
  call-mesh e = rw (h.addresses, h.map, h.lengths) (rw e (table-mesh (sides_of d) (images_at found_by) (subst (λ k. length (table_of k (images_at found_by) (size (sides_of d))) ≤ 1099511627776) e few-images) few a b))

  pub call-found : (p : ℕ) → p < size (sides_of d) → 0 < length (images found_by p)
  call-found p k = rw (← length-images found_by p) (found (images_at found_by) (size (sides_of d)) h.some p k)

  -- the tolerance is a number and not below zero
  pub call-tolerance : Bounded 43 found_by.tolerance × T (le zero_f found_by.tolerance)
  call-tolerance = tolerance-length (float_matrix lattice) h.input.bounded (sides_of d) (grid-fits d h.input.grid)

-- ---- every image folds back to its point, and no two are equal
pub every-image : EveryImage
every-image d q ps lattice t a b c k l known e =
    let h = call-accepted d q ps lattice t a b c l e in
    subst (λ k. FoldBack d (bz_grid_addresses d q ps lattice t a b c).addresses (bz_grid_addresses d q ps lattice t a b c).map (bz_grid_addresses d q ps lattice t a b c).grg k l.lengths.grg)
    (same-ok (sym h.input.known ∙ known)) (fold-back (call-stands h) (call-folded h))
  where
    fold-back : {kind : GridType} {addresses map points : List ℤ} {m : ℕ} → Stands kind (size (sides_of d)) (images (search_of d q ps lattice)) addresses map points m
        → Folded (sides_of d) (images (search_of d q ps lattice)) → FoldBack d addresses map points kind m
    fold-back w s = record {
      folds = λ p n i o. let u = stands-at w p n o in (w.inside p n u, place-folds w s p n u, w.names p n u);
      stands = λ i n. let o = w.owner i n in (o.0, w.names o.0 o.1 o.2, o.1, image-at w o.0 o.1 o.2);
      once = address-once w s;
    }
