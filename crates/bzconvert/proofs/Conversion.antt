-- What the call answers, by its tests.
use mathlib.Core.Path.{◌≡◌, sym, ◌∙◌, ap}
use mathlib.Core.Bool.{Bool, true, false, ◌&&◌}
use mathlib.Core.List.{List}
use Prim.Native.Nat.{ℕ}
use lib.Dec.{T}
use Rattle.std.specs.Prelude.{Result, Ok, Err}
use Rattle.integer.proofs.Test.{and_l, holds}
use Rattle.common.specs.Matrix.{Vec}
use Rattle.common.specs.Array.{sides_of}
use Rattle.common.specs.Limits.{diagonal_fits, shift_fits}
use Rattle.common.specs.Tested.{require, Tested, Accepted, giving, ◌then◌}
use Rattle.common.specs.declared.Refusal.{Refusal}
use Rattle.common.specs.declared.Refusal.TheVariants.{WrongLength, OutsideLimits, CouldNotStand}
use Rattle.common.proofs.Tests.{same-refusal, refused-not-ok}
use Rattle.bzgrid.specs.declared.GridType.{GridType}
use Rattle.bzgrid.specs.declared.Lengths.{Lengths}
use Rattle.bzgrid.specs.declared.TableRecord.{TableRecord}
use Rattle.bzgrid.specs.declared.Built.{Built}
use Rattle.bzgrid.specs.Table.{Image, named}
use Rattle.bzgrid.specs.BzGridAddresses.{lengths_of, has_room, BzGridAddresses, unbuilt, laid_out, recorded}
use Rattle.bzgrid.proofs.Accepted.{passes}
use Rattle.bztable.specs.Reading.{Read, got, whole_addresses}
use Rattle.bzconvert.specs.Layout.{Table, list_at, table_read, could_stand}
use Rattle.bzconvert.specs.Convert.{other, with_type, layout_tests, stand_tests, converted, converted_for, convert_bz_grid}

-- the lengths, with the record beside them
abbrev pub told : TableRecord → Result Lengths Refusal → Result Built Refusal
told r y = y then λ l. Ok (record { lengths = l; table = r })

module _ (r : TableRecord) (x : Table) where
  -- the tests of the layout leave the grid within the limits
  pub layout-fits : {t : GridType} → layout_tests r x ≡ Ok t → T (diagonal_fits r.d)
  unfolding layout_tests
  layout-fits e =
      let a = passes (whole_addresses x.addresses) WrongLength _ e in
      let b = passes (diagonal_fits r.d && shift_fits r.ps) OutsideLimits _ a.1 in
      and_l (diagonal_fits r.d) (shift_fits r.ps) (holds b.0)

  -- outputs of a, b and c places
  module _ (a b c : ℕ) where
    -- a refusal
    pub unbuilt-whole : {q : Refusal} → Err q ≡ (convert_bz_grid r x a b c).answer → unbuilt a b c q ≡ convert_bz_grid r x a b c
    unfolding convert_bz_grid converted
    unbuilt-whole {q} = by (layout_tests r x)
      where
        tested : (t : GridType) (k : Tested) (l : Lengths) → Err q ≡ told (with_type (other t) r) (giving k l)
            → unbuilt a b c q ≡ recorded (with_type (other t) r) (laid_out (other t) (sides_of r.d) (named (list_at t (sides_of r.d) x)) a b c k)
        tested t (Ok _) l e = absurd (refused-not-ok e)
        tested t (Err p) l e = ap (unbuilt a b c) (same-refusal e)

        by : (k : Result GridType Refusal) → Err q ≡ (converted_for k r x a b c).answer → unbuilt a b c q ≡ converted_for k r x a b c
        by (Ok t) e = tested t (stand_tests t r x a b c) (lengths_of (other t) (sides_of r.d) (named (list_at t (sides_of r.d) x))) e
        by (Err p) e = ap (unbuilt a b c) (same-refusal e)

    pub no_layout : {q : Refusal} → layout_tests r x ≡ Err q → unbuilt a b c q ≡ convert_bz_grid r x a b c
    unfolding convert_bz_grid
    no_layout e = ap (λ k. converted_for k r x a b c) (sym e)

    -- a table of type t of grid d
    module _ (t : GridType) (d : Vec ℕ) where
      abbrev images : ℕ → List Image
      images = named (list_at t d x)

      abbrev room : GridType → Tested
      room u = require (has_room (lengths_of u d images) a b c) WrongLength Accepted

      -- its outcome as type u, by the tests' answer
      abbrev pub outcome : GridType → Tested → BzGridAddresses Built
      outcome u k = recorded (with_type u r) (laid_out u d images a b c k)

      -- where it could stand
      abbrev pub made : GridType → BzGridAddresses Built
      made u = outcome u (room u)

    module _ {t : GridType} (e : layout_tests r x ≡ Ok t) {d : Vec ℕ} (ed : d ≡ sides_of r.d) where
      abbrev tests : Vec ℕ → Read ℕ → (ℕ → Bool) → Tested
      tests d m s = m then λ m. require (s m) CouldNotStand (room t d (other t))

      whole : outcome t d (other t) (tests d (table_read t d x) (could_stand t d x)) ≡ convert_bz_grid r x a b c
      unfolding convert_bz_grid converted stand_tests
      whole =
          (λ i. outcome t (ed i) (other t) (tests (ed i) (table_read t (ed i) x) (could_stand t (ed i) x)))
          ∙ ap (λ k. converted_for k r x a b c) (sym e)

      pub unread : {q : Refusal} → table_read t d x ≡ Err q → unbuilt a b c q ≡ convert_bz_grid r x a b c
      unread h = ap (λ m. outcome t d (other t) (tests d m (could_stand t d x))) (sym h) ∙ whole

      -- with m images
      module _ {m : ℕ} (h : table_read t d x ≡ got m) where
        by : {s : Bool} → could_stand t d x m ≡ s → outcome t d (other t) (require s CouldNotStand (room t d (other t))) ≡ convert_bz_grid r x a b c
        by s =
            ap (λ s. outcome t d (other t) (require s CouldNotStand (room t d (other t)))) (sym s)
            ∙ ap (λ m. outcome t d (other t) (tests d m (could_stand t d x))) (sym h) ∙ whole

        pub unstanding : could_stand t d x m ≡ false → unbuilt a b c CouldNotStand ≡ convert_bz_grid r x a b c
        unstanding s = by s

        pub standing : could_stand t d x m ≡ true → {u : GridType} → u ≡ other t → made t d u ≡ convert_bz_grid r x a b c
        standing s eu = ap (made t d) eu ∙ by s
