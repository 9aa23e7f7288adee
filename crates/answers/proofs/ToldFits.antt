-- Numbers that a call gives fit the places where they are told.
use mathlib.Core.Path.{◌≡◌, refl, sym, subst}
use mathlib.Core.Bool.{Bool, true, false, ◌&&◌}
use mathlib.Core.List.{List}
use Prim.Native.Nat.{ℕ, ◌*◌, ◌<◌, ◌≤◌}
use lib.ListN.{length}
use native.Mathlib.Omega.{arith}
use lib.Dec.{T, leb, leb→le}
use lib.Ieee.{Float}
use lib.IntN.{ℤ, pos, nat_abs}
use Rattle.std.specs.Prelude.{Option, Some, None, Result, Ok, Err, IfOk}
use Rattle.common.specs.Matrix.{Vec}
use Rattle.common.specs.Array.{vector_of, sides_of, matrix_of}
use Rattle.common.specs.Limits.{diagonal_fits, shift_fits, matrix_within, point_fits}
use Rattle.common.specs.Tested.{require, Tested, Accepted, ◌then◌, giving}
use Rattle.common.proofs.Tests.{same-ok, refused-not-ok}
use Rattle.common.specs.declared.Refusal.{Refusal}
use Rattle.common.specs.declared.Refusal.TheVariants.{OutsideLimits, SearchFailed, WrongLength, CouldNotStand}
use Rattle.grgrid.specs.declared.Folded.{Folded}
use Rattle.grgrid.specs.Grid.{size, index, rotated}
use Rattle.grgrid.specs.Folding.{grid_index_from_address, rotate_grid_index}
use Rattle.grgrid.proofs.Accepted.{few-points, grid-fits}
use Rattle.grgrid.proofs.Folding.{index-lt}
use Rattle.integer.proofs.Test.{holds, and_l, and_r}
use Rattle.bzgrid.specs.declared.Lengths.{Lengths}
use Rattle.bzgrid.specs.declared.TableRecord.{TableRecord}
use Rattle.bzgrid.specs.declared.Built.{Built}
use Rattle.bzgrid.specs.BzGridAddresses.{search_of, table_of, all_found, lengths_of, has_room, input_tests, sizes_of}
use Rattle.bzgrid.specs.BzGridAddresses.{tables_told, bz_grid_addresses, bz_grid_fill, bz_grid_sizes}
use Rattle.bzgrid.specs.declared.GridType.{GridType}
use Rattle.bzgrid.specs.declared.GridType.TheVariants.{Sparse, Dense}
use Rattle.bzgrid.specs.Table.{images_at, named}
use Rattle.bzgrid.proofs.KnownSizes.{sizes-told}
use Rattle.bzgrid.proofs.Accepted.{passes, passes-first, input-accepted}
use Rattle.bzgrid.proofs.ImageBounds.{images-total}
use Rattle.bzgrid.proofs.Mapped.{size-doubled}
use Rattle.bztable.specs.Reading.{Read}
use Rattle.bzconvert.specs.Layout.{Table, list_at, table_read, could_stand}
use Rattle.bzconvert.specs.Convert.{other, with_type, layout_tests, stand_tests, converted, converted_for, convert_bz_grid}
use Rattle.snf_steps.proofs.Divisions.{few-steps}
use Rattle.worst_pair.specs.declared.WorstPair.{WorstPair}
use Rattle.worst_pair.specs.WorstPair.{Answers}
use Rattle.worst_pair.proofs.Limit.{limit-of}
use Rattle.answers.specs.Images.{Held}
use Rattle.answers.specs.WorstPairs.{PairFits}

-- the lengths are those of at most 65,536 points and 2,363,359,232 images
module _ (d : List ℤ) (q : List (List ℤ)) (ps : List ℤ) (lattice : List (List Float)) (t : ℤ) where
  pub sizes-fit : (a : Result Lengths Refusal) → a ≡ bz_grid_sizes d q ps lattice t → IfOk a Held
  unfolding bz_grid_sizes
  sizes-fit (Ok l) e =
      let s = search_of d q ps lattice in
      let k = passes-first (input_tests d q ps lattice t) (λ k. sizes_of k s) (sym e) in
      let f = passes (all_found (images_at s) (size s.d)) SearchFailed (Ok (lengths_of k.0 s.d (images_at s))) k.2 in
      let few = few-points d (input-accepted d q ps lattice t k.1).grid in
      subst Held (same-ok f.1) (fit k.0 few (images-total s (size s.d) few k.0))
    where
      fit : (k : GridType) → size (sides_of d) ≤ 65536 → length (table_of k (images_at (search_of d q ps lattice)) (size (sides_of d))) ≤ 2363359232
          → Held (lengths_of k (sides_of d) (images_at (search_of d q ps lattice)))
      fit Sparse few m = record { addresses = omega (arith, m); map = omega (arith, size-doubled (sides_of d), few); grg = omega (arith, m) }
      fit Dense few m = record { addresses = omega (arith, m); map = omega (arith, few); grg = omega (arith, m) }
  sizes-fit (Err r) e = tt

  built-fits : (w : Option (List ℤ)) (x y z : ℕ) (a : Result Built Refusal) → a ≡ (tables_told d q ps lattice t w x y z).answer → IfOk a (λ b. Held b.lengths)
  built-fits w x y z (Ok b) e = sizes-fit (Ok b.lengths) (sym (sizes-told d q ps lattice t w x y z b (sym e)))
  built-fits w x y z (Err r) e = tt

  pub images-fit : (x y z : ℕ) (a : Result Built Refusal) → a ≡ (bz_grid_addresses d q ps lattice t x y z).answer → IfOk a (λ b. Held b.lengths)
  unfolding bz_grid_addresses
  images-fit = built-fits None

  pub filled-fit : (n : List ℤ) (x y z : ℕ) (a : Result Built Refusal) → a ≡ (bz_grid_fill d q ps lattice t n x y z).answer → IfOk a (λ b. Held b.lengths)
  unfolding bz_grid_fill
  filled-fit n = built-fits (Some n)

-- they have room in slices, of 8 bytes a place
module _ (r : TableRecord) (x : Table) (na nm ng : ℕ) where
  module _ (t : GridType) (b : Built) where
    abbrev made : Lengths
    made = lengths_of (other t) (sides_of r.d) (named (list_at t (sides_of r.d) x))

    abbrev tests : (s h : Bool) → Tested
    tests s h = require s CouldNotStand (require h WrongLength Accepted)

    abbrev told : Tested → Result Built Refusal
    told k = giving k made then λ l. Ok (record { lengths = l; table = with_type (other t) r })

    tested : (s h : Bool) → h ≡ has_room made na nm ng → told (tests s h) ≡ Ok b → T (has_room b.lengths na nm ng)
    tested true true h e = subst (λ (b : Built). T (has_room b.lengths na nm ng)) (same-ok e) (holds (sym h))
    tested true false h e = absurd (refused-not-ok e)
    tested false h f e = absurd (refused-not-ok e)

    read : (m : Read ℕ) → told (m then λ m. tests (could_stand t (sides_of r.d) x m) (has_room made na nm ng)) ≡ Ok b → T (has_room b.lengths na nm ng)
    read (Ok m) e = tested (could_stand t (sides_of r.d) x m) (has_room made na nm ng) refl e
    read (Err q) e = absurd (refused-not-ok e)

  room-for : (k : Result GridType Refusal) (b : Built) → (converted_for k r x na nm ng).answer ≡ Ok b → T (has_room b.lengths na nm ng)
  unfolding converted stand_tests
  room-for (Ok t) b e = read t b (table_read t (sides_of r.d) x) e
  room-for (Err q) b e = absurd (refused-not-ok e)

  held : (l : Lengths) → na * 8 < 0x8000000000000000 → nm * 8 < 0x8000000000000000 → ng * 8 < 0x8000000000000000 → T (has_room l na nm ng) → Held l
  held l ha hm hg h =
      let s = and_r (leb l.addresses na) (leb l.map nm && leb l.grg ng) h in
      record {
        addresses = omega (arith, leb→le l.addresses na (and_l (leb l.addresses na) (leb l.map nm && leb l.grg ng) h));
        map = omega (arith, leb→le l.map nm (and_l (leb l.map nm) (leb l.grg ng) s));
        grg = omega (arith, leb→le l.grg ng (and_r (leb l.map nm) (leb l.grg ng) s));
      }

  pub converted-fit : (a : Result Built Refusal) → na * 8 < 0x8000000000000000 → nm * 8 < 0x8000000000000000 → ng * 8 < 0x8000000000000000
      → a ≡ (convert_bz_grid r x na nm ng).answer → IfOk a (λ b. Held b.lengths)
  unfolding convert_bz_grid
  converted-fit (Ok b) ha hm hg e = held b.lengths ha hm hg (room-for (layout_tests r x) b (sym e))
  converted-fit (Err q) ha hm hg e = tt

pub pair_fits : (limit : ℤ) (w : Result WorstPair Refusal) → Answers limit w → IfOk w PairFits
pair_fits limit (Ok w) h =
    let high = (limit-of limit h.0).high in
    let u = h.1.0.worst.up_to in
    let second : w.b < 0x8000000000000000 = omega (arith, high, u.second-high) in
    (omega (arith, high, u.first-high), second, omega (arith, h.1.1, few-steps (pos w.a) (pos w.b) (omega (arith, second))))
pair_fits limit (Err r) h = tt

-- ---- an index is one of at most 65,536 points
abbrev IndexFits : Folded → Type 0
IndexFits f = f.index < 0x8000000000000000

index-fits : (d : List ℤ) → T (diagonal_fits d) → (a : Vec ℤ) → index (sides_of d) a < 0x8000000000000000
index-fits d t a = omega (arith, index-lt (sides_of d) (record { positive = (grid-fits d t).positive }) a, few-points d t)

-- behind a test
behind : (t : Bool) (a : Result Folded Refusal) → (T t → IfOk a IndexFits) → IfOk (require t OutsideLimits a) IndexFits
behind true a h = h tt
behind false a h = tt

pub folded-fits : (address d : List ℤ) (a : Result Folded Refusal) → a ≡ grid_index_from_address address d → IfOk a IndexFits
unfolding grid_index_from_address
folded-fits address d a e = subst (λ a. IfOk a IndexFits) (sym e) (behind (diagonal_fits d) _ (λ t. index-fits d t (vector_of address)))

pub carried-fits : (point : ℤ) (rotation : List (List ℤ)) (d ps : List ℤ) (a : Result Folded Refusal) → a ≡ rotate_grid_index point rotation d ps → IfOk a IndexFits
unfolding rotate_grid_index
carried-fits point rotation d ps a e =
    subst (λ a. IfOk a IndexFits) (sym e)
    (behind (diagonal_fits d) _ (λ t.
    behind (shift_fits ps) _ (λ _.
    behind (matrix_within 100000 (matrix_of rotation)) _ (λ _.
    behind (point_fits point (pos (size (sides_of d)))) _ (λ _.
    index-fits d t (rotated (sides_of d) (vector_of ps) (matrix_of rotation) (nat_abs point)))))))
