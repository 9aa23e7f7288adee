-- There and back is the same table, and the same record.
use mathlib.Core.Path.{◌≡◌, sym, ◌∙◌, ap, ap₂, subst}
use mathlib.Core.List.{List}
use Prim.Native.Nat.{ℕ}
use lib.Dec.{T}
use lib.IntN.{ℤ}
use Rattle.std.specs.Prelude.{Ok}
use Rattle.integer.proofs.Test.{is_true}
use Rattle.common.specs.Matrix.{Vec}
use Rattle.common.specs.Array.{sides_of}
use Rattle.common.specs.Tested.{require, Accepted}
use Rattle.common.specs.declared.Refusal.TheVariants.{WrongLength}
use Rattle.common.proofs.Tests.{same-ok}
use Rattle.bzgrid.specs.declared.GridType.{GridType}
use Rattle.bzgrid.specs.declared.TableRecord.{TableRecord}
use Rattle.bzgrid.specs.declared.Built.{Built}
use Rattle.bzgrid.specs.Table.{named}
use Rattle.bzgrid.specs.BzGridAddresses.{grid_type_of, lengths_of, has_room, laid_out, recorded}
use Rattle.bztable.specs.Reading.{got, whole_addresses}
use Rattle.bzconvert.specs.Layout.{Table, list_at, table_read, told, could_stand}
use Rattle.bzconvert.specs.Convert.{other, with_type, convert_bz_grid}
use Rattle.bzconvert.specs.Standing.{Laid}
use Rattle.bzconvert.specs.ThereAndBack.{table_in, told_lengths, leaving, ThereAndBack}
use Rattle.bzconvert.proofs.Standing.{stands-laid, laid-count}
use Rattle.bzconvert.proofs.Converting.{type-number, number-type, other-twice, laid, holds-converts}
use Rattle.bzconvert.proofs.Converting.{ConvertAccepted, convert-accepted, converted-holds}

module _ (r : TableRecord) (x : Table) (a b c : ℕ) (l : Built) (t : GridType) (m : ℕ) (e : (convert_bz_grid r x a b c).answer ≡ Ok l)
    (known : grid_type_of r.bz_grid_type ≡ Ok t) (read : table_read t (sides_of r.d) x ≡ got m) where
  abbrev d : Vec ℕ
  d = sides_of r.d

  abbrev g : ℕ → List (Vec ℤ)
  g = list_at t d x

  h : ConvertAccepted r x a b c l t
  h = convert-accepted r x a b c l t known e

  lists : Laid t d x m g
  lists = stands-laid t d x m (subst (λ (m : ℕ). T (could_stand t d x m)) (same-ok (sym h.read ∙ read)) h.stands)

  -- what it left
  abbrev y : Table
  y = table_in (convert_bz_grid r x a b c)

  -- as many as were read
  counts : lengths_of t d (named g) ≡ told_lengths t d m
  counts = ap (told_lengths t d) (sym (laid-count read lists))

  module _ (a' b' c' : ℕ) where
    back : T (whole_addresses y.addresses) → convert_bz_grid l.table y a' b' c' ≡ recorded r (laid t d g a' b' c')
    back whole =
        ap (λ s. convert_bz_grid s y a' b' c') h.table
        ∙ holds-converts (with_type (other t) r) y (other t) g (converted-holds h) h.limits a' b' c' whole (number-type (other t))
        ∙ ap (λ t. recorded (with_type t r) (laid t d g a' b' c')) (other-twice t)
        ∙ (λ i. recorded (record { d = r.d; ps = r.ps; bz_grid_type = type-number r.bz_grid_type known i }) (laid t d g a' b' c'))

    fits : T (has_room (told_lengths t d m) a' b' c') → require (has_room (lengths_of t d (named g)) a' b' c') WrongLength Accepted ≡ Accepted
    fits room =
        ap (λ n. require (has_room n a' b' c') WrongLength Accepted) counts
        ∙ ap (λ b. require b WrongLength Accepted) (is_true (has_room (told_lengths t d m) a' b' c') room)

    pub returns : T (whole_addresses y.addresses) → T (has_room (told_lengths t d m) a' b' c')
        → convert_bz_grid l.table y a' b' c' ≡ leaving (told t d x m) (record { lengths = told_lengths t d m; table = r }) a' b' c'
    returns whole room =
        back whole ∙ ap (λ k. recorded r (laid_out t d (named g) a' b' c' k)) (fits room)
        ∙ ap₂ (λ n (y : Table). leaving y (record { lengths = n; table = r }) a' b' c') counts (sym lists.laid)

pub there-and-back : ThereAndBack
there-and-back r x a b c l t m e known read whole a' b' c' = returns r x a b c l t m e known read a' b' c' whole
