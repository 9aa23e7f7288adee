-- A table and its conversion read the same lists, so their triplets are the same.
use mathlib.Core.Path.{◌≡◌, sym, ◌∙◌, ap, subst}
use mathlib.Core.Bool.{Bool, true, false, ◌&&◌}
use Prim.Native.Nat.{ℕ}
use lib.Dec.{T}
use Rattle.std.specs.Prelude.{Result, Ok}
use Rattle.integer.proofs.Test.{and_l}
use Rattle.common.specs.Array.{sides_of}
use Rattle.common.specs.Limits.{diagonal_fits, shift_fits}
use Rattle.common.specs.Tested.{require}
use Rattle.common.specs.declared.Refusal.{Refusal}
use Rattle.common.specs.declared.Refusal.TheVariants.{WrongLength, OutsideLimits}
use Rattle.common.proofs.Tests.{refused-not-ok}
use Rattle.bzgrid.specs.declared.GridType.{GridType}
use Rattle.bzgrid.specs.declared.TableRecord.{TableRecord}
use Rattle.bzgrid.specs.declared.Built.{Built}
use Rattle.bzgrid.specs.BzGridAddresses.{grid_type_of}
use Rattle.bztable.specs.Agreement.{agrees_grid}
use Rattle.bztable.specs.Reading.{whole_addresses}
use Rattle.bztable.proofs.Records.{agrees-itself, agrees-on-grid}
use Rattle.bzconvert.specs.Layout.{Table, list_at}
use Rattle.bzconvert.specs.Convert.{other, with_type, layout_tests, converted_for, convert_bz_grid}
use Rattle.bzconvert.specs.ThereAndBack.{table_in}
use Rattle.bzconvert.specs.ConvertedTriplets.{asked, ConvertedTriplets}
use Rattle.bzconvert.proofs.Standing.{holds-reads}
use Rattle.bzconvert.proofs.Converting.{number-type, ConvertAccepted, convert-accepted, accepted-holds, converted-holds}
use Rattle.bzconvert.proofs.SameTriplets.{same-triplets}

agrees-with-itself : (r : TableRecord) → T (agrees_grid r r.d r.bz_grid_type)
agrees-with-itself r = agrees-on-grid r r.d r.ps r.bz_grid_type (agrees-itself r.d r.ps r.bz_grid_type)

-- an accepted call was given whole addresses
whole-given : (r : TableRecord) (x : Table) (a b c : ℕ) {l : Built} → (convert_bz_grid r x a b c).answer ≡ Ok l → T (whole_addresses x.addresses)
unfolding convert_bz_grid layout_tests
whole-given r x a b c {l} e = by (whole_addresses x.addresses) (require (diagonal_fits r.d && shift_fits r.ps) OutsideLimits (grid_type_of r.bz_grid_type)) e
  where
    by : (w : Bool) (k : Result GridType Refusal) → (converted_for (require w WrongLength k) r x a b c).answer ≡ Ok l → T w
    by true k e = tt
    by false k e = absurd (refused-not-ok e)

pub converted-triplets : ConvertedTriplets
converted-triplets r x a b c l t e known whole p u v from to classes few q lattice n m k o =
    same-triplets r.d (list_at t (sides_of r.d) x) p (and_l (diagonal_fits r.d) (shift_fits r.ps) h.limits) (accepted-holds h).good
    (asked u x r) (asked v y l.table)
    (record { kind = t; typed = known; agrees = agrees-with-itself r; whole = whole-given r x a b c e; reads = holds-reads (accepted-holds h); at = from })
    (record {
      kind = other t;
      typed = ap (λ s. grid_type_of s.bz_grid_type) h.table ∙ number-type (other t);
      agrees = subst (λ s. T (agrees_grid s r.d s.bz_grid_type)) (sym h.table) (agrees-with-itself (with_type (other t) r));
      whole = whole;
      reads = holds-reads (converted-holds h);
      at = to;
    })
    classes few q lattice n m k o
  where
    h : ConvertAccepted r x a b c l t
    h = convert-accepted r x a b c l t known e

    y : Table
    y = table_in (convert_bz_grid r x a b c)
