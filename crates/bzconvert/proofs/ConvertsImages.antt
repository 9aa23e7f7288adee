-- The tables of an accepted image call convert to those of the image call of the other type.
use mathlib.Core.Path.{◌≡◌, refl, sym, ◌∙◌, ap, subst}
use mathlib.Core.Bool.{Bool, true, ◌&&◌}
use mathlib.Core.List.{List}
use Prim.Native.Nat.{ℕ, ◌≤◌}
use native.Mathlib.Nat.{le_trans}
use lib.Dec.{T, le→leb, lit≤}
use lib.IntN.{ℤ, nat_abs}
use lib.Ieee.{Float}
use Rattle.std.specs.Prelude.{None, Ok}
use Rattle.integer.proofs.Test.{and_in, is_true}
use Rattle.common.specs.Matrix.{Axis, Vec, side}
use Rattle.common.specs.Array.{sides_of, matrix_of}
use Rattle.common.specs.FloatMatrix.{float_matrix}
use Rattle.common.specs.Limits.{within, matrix_within, diagonal_fits, shift_fits}
use Rattle.common.specs.Tested.{require, Accepted}
use Rattle.common.specs.declared.Refusal.TheVariants.{SearchFailed, WrongLength}
use Rattle.common.proofs.Matrix.{all-axes}
use Rattle.common.proofs.Tests.{same-ok}
use Rattle.grgrid.specs.Grid.{size}
use Rattle.grgrid.proofs.Accepted.{few-points}
use Rattle.bzsearch.specs.Lattice.{lattice_fits}
use Rattle.bzsearch.specs.Search.{Search, images, unimodular}
use Rattle.bzgrid.specs.declared.GridType.{GridType}
use Rattle.bzgrid.specs.declared.Lengths.{Lengths}
use Rattle.bzgrid.specs.declared.Built.{Built}
use Rattle.bzgrid.specs.Table.{Image, images_at, named}
use Rattle.bzgrid.specs.BzGridAddresses.{search_of, all_found, lengths_of, has_room, within_limits, input_tests, BzGridAddresses}
use Rattle.bzgrid.specs.BzGridAddresses.{laid_out, build_tests, built, recorded, bz_grid_addresses}
use Rattle.bzgrid.proofs.Accepted.{typed, accepted-call}
use Rattle.bzgrid.proofs.ImageBounds.{images-total}
use Rattle.bztable.specs.Reading.{whole_addresses, near}
use Rattle.bztable.proofs.AcceptedCall.{CallAccepted, call-accepted, call-folded, call-found}
use Rattle.bztable.proofs.CallBounds.{call-image-size}
use Rattle.bzconvert.specs.Layout.{Table}
use Rattle.bzconvert.specs.Convert.{other, type_number, convert_bz_grid}
use Rattle.bzconvert.specs.ThereAndBack.{table_in}
use Rattle.bzconvert.specs.ConvertsImages.{ConvertsImages}
use Rattle.bzconvert.proofs.Standing.{Holds}
use Rattle.bzconvert.proofs.Converting.{number-type, laid, left_of, left-holds, holds-converts}

near-in : (a : Vec ℤ) → ((k : Axis) → nat_abs (side a k) ≤ 10000000000000) → T (near a)
near-in a h = all-axes (λ k. within 10000000000000 (side a k)) (λ k. le→leb (nat_abs (side a k)) 10000000000000 (h k))

module _ {d : List ℤ} {q : List (List ℤ)} {ps : List ℤ} {lattice : List (List Float)} {type : ℤ} {a b c : ℕ} {l : Built}
    (h : CallAccepted d q ps lattice type a b c l) where
  abbrev s : Search
  s = search_of d q ps lattice

  abbrev o : Table
  o = table_in (bz_grid_addresses d q ps lattice type a b c)

  -- what the call leaves holds the images of the search
  call-holds : Holds h.kind (sides_of d) o (images s)
  unfolding images_at
  call-holds =
      subst (λ (y : Table). Holds h.kind (sides_of d) y (images s)) (sym left)
      (left-holds h.kind (sides_of d) (images s) a b c
      (record { some = call-found h; folds = (call-folded h).folds; once = λ p n. (call-folded h).apart p })
      (record { at = λ p n {a = v} m. near-in v (call-image-size h p n m) })
      (le_trans (images-total s (size (sides_of d)) (few-points d h.input.grid) h.kind) (lit≤ tt)))
    where
      left : o ≡ left_of h.kind (sides_of d) (images s) a b c
      left = λ i. record { addresses = h.addresses i; map = h.map i; grg = h.points i }

  module _ (a' b' c' : ℕ) where
    abbrev t : GridType
    t = other h.kind

    abbrev g : ℕ → List Image
    g = named (images s)

    -- the image call of the other type passes the same tests
    inputs : true ≡ within_limits d q ps lattice
    inputs = sym (λ i.
        is_true (diagonal_fits d) h.input.grid i
        && (is_true (matrix_within 1000 (matrix_of q)) h.input.entries i
        && (is_true (shift_fits ps) h.input.shift i && is_true (lattice_fits (float_matrix lattice)) h.input.bounded i)))

    tested : input_tests d q ps lattice (type_number t) ≡ Ok t
    tested =
        sym (typed d q ps lattice (type_number t) inputs (sym (number-type t)) (sym (is_true (unimodular (matrix_of q)) h.input.unit)) (sym h.input.regular))

    -- where each point has images
    abbrev outcome : Bool → BzGridAddresses Lengths
    outcome found =
        let room = has_room (lengths_of t (sides_of d) g) a' b' c' in
        laid_out t (sides_of d) g a' b' c' (require found SearchFailed (require room WrongLength Accepted))

    builds : built t s None a' b' c' ≡ laid t (sides_of d) (images s) a' b' c'
    unfolding built build_tests images_at
    builds = ap outcome (is_true (all_found (images_at s) (size (sides_of d))) h.some)

    called : recorded (record { d = d; ps = ps; bz_grid_type = type_number t }) (laid t (sides_of d) (images s) a' b' c')
        ≡ bz_grid_addresses d q ps lattice (type_number t) a' b' c'
    unfolding bz_grid_addresses
    called =
        ap (recorded (record { d = d; ps = ps; bz_grid_type = type_number t })) (sym builds)
        ∙ accepted-call d q ps lattice (type_number t) None a' b' c' tested refl

    pub call-converts : T (whole_addresses o.addresses) → convert_bz_grid l.table o a' b' c' ≡ bz_grid_addresses d q ps lattice (type_number t) a' b' c'
    call-converts whole =
        ap (λ r. convert_bz_grid r o a' b' c') h.table
        ∙ holds-converts (record { d = d; ps = ps; bz_grid_type = type }) o h.kind (images s) call-holds
        (and_in (diagonal_fits d) (shift_fits ps) h.input.grid h.input.shift) a' b' c' whole h.input.known
        ∙ called

pub converts-images : ConvertsImages
converts-images d q ps lattice type a b c l t e known whole a' b' c' =
    let h = call-accepted d q ps lattice type a b c l e in
    let o = table_in (bz_grid_addresses d q ps lattice type a b c) in
    subst (λ (k : GridType). convert_bz_grid l.table o a' b' c' ≡ bz_grid_addresses d q ps lattice (type_number (other k)) a' b' c')
    (same-ok (sym h.input.known ∙ known)) (call-converts h a' b' c' whole)
