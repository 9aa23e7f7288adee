-- A table that holds lists within the limits converts to their layout of the other type; and what an accepted call has read and left.
use mathlib.Core.Path.{◌≡◌, refl, sym, ◌∙◌, ap, ap₂, subst}
use mathlib.Core.Bool.{Bool, true, false, ◌&&◌, cond}
use mathlib.Core.List.{List}
use Prim.Native.Nat.{ℕ, ◌*◌, ◌-◌, ◌≤◌, ◌<◌}
use native.Mathlib.Omega.{arith}
use lib.Dec.{T}
use lib.IntN.{ℤ, pos, negsuc}
use lib.ListN.{length, replicate}
use Rattle.std.specs.Prelude.{Result, Ok, Err}
use Rattle.integer.specs.Same.{same}
use Rattle.integer.proofs.Same.{same-eq}
use Rattle.integer.proofs.Test.{and_l, holds, is_true}
use Rattle.common.specs.Matrix.{Vec}
use Rattle.common.specs.Array.{sides_of}
use Rattle.common.specs.Limits.{diagonal_fits, shift_fits}
use Rattle.common.specs.Tested.{require, output_of, Accepted, ◌then◌, giving}
use Rattle.common.specs.declared.Refusal.{Refusal}
use Rattle.common.specs.declared.Refusal.TheVariants.{OutsideLimits, BadGridType, WrongLength, CouldNotStand}
use Rattle.common.proofs.Tests.{same-ok, refused-not-ok, passed, passed-by}
use Rattle.grgrid.specs.Grid.{size}
use Rattle.grgrid.proofs.Accepted.{few-points}
use Rattle.bzgrid.specs.declared.GridType.{GridType}
use Rattle.bzgrid.specs.declared.GridType.TheVariants.{Sparse, Dense}
use Rattle.bzgrid.specs.declared.Lengths.{Lengths}
use Rattle.bzgrid.specs.declared.TableRecord.{TableRecord}
use Rattle.bzgrid.specs.declared.Built.{Built}
use Rattle.bzgrid.specs.Table.{Image, named, address_list, point_list}
use Rattle.bzgrid.specs.BzGridAddresses.{grid_type_of, table_of, map_length, lengths_of, has_room, BzGridAddresses, padded, laid_out, recorded}
use Rattle.bzgrid.proofs.Accepted.{passes-first}
use Rattle.bztable.specs.Reading.{got, whole_addresses}
use Rattle.bzconvert.specs.Layout.{Table, layout, list_at, table_read, could_stand}
use Rattle.bzconvert.specs.Convert.{other, type_number, with_type, layout_tests, stand_tests, converted, converted_for, convert_bz_grid}
use Rattle.bzconvert.specs.Standing.{Good}
use Rattle.bzconvert.specs.ThereAndBack.{table_in}
use Rattle.bzconvert.proofs.LayoutRead.{Near, table-agree, map-agree, length-table}
use Rattle.bzconvert.proofs.Standing.{Holds, holds-lists, holds-readable, holds-told, holds-stand, stands-holds}

-- ---- the types and their numbers
pub type-number : (k : ℤ) {t : GridType} → grid_type_of k ≡ Ok t → type_number t ≡ k
type-number k {t} = go (same k (pos 1)) (same k (pos 2)) (same-eq k (pos 1)) (same-eq k (pos 2))
  where
    go : (a b : Bool) → (T a → k ≡ pos 1) → (T b → k ≡ pos 2)
        → cond a (Ok Sparse) (cond b (Ok Dense) (Err BadGridType)) ≡ Ok t → type_number t ≡ k
    go true b f g e = ap type_number (sym (same-ok e)) ∙ sym (f tt)
    go false true f g e = ap type_number (sym (same-ok e)) ∙ sym (g tt)
    go false false f g e = absurd (refused-not-ok e)

pub number-type : (t : GridType) → grid_type_of (type_number t) ≡ Ok t
number-type Sparse = refl
number-type Dense = refl

pub other-twice : (t : GridType) → other (other t) ≡ t
other-twice Sparse = refl
other-twice Dense = refl

-- ---- the layout of lists in outputs of a, b and c places, where these have room
abbrev pub laid : GridType → Vec ℕ → (ℕ → List (Vec ℤ)) → (a b c : ℕ) → BzGridAddresses Lengths
laid t d g a b c = laid_out t d (named g) a b c (require (has_room (lengths_of t d (named g)) a b c) WrongLength Accepted)

laid-agree : (t : GridType) (d : Vec ℕ) (g h : ℕ → List (Vec ℤ)) (a b c : ℕ) → ((p : ℕ) → p < size d → g p ≡ h p)
    → laid t d g a b c ≡ laid t d h a b c
laid-agree t d g h a b c e = ap₂ outcome (table-agree g h d e t) (map-agree g h d e t)
  where
    outcome : List Image → List ℤ → BzGridAddresses Lengths
    outcome table map =
        let l : Lengths = record { addresses = 3 * length table; map = map_length t d; grg = length table } in
        let k = require (has_room l a b c) WrongLength Accepted in
        record {
          answer = giving k l;
          addresses = output_of k a (padded (address_list table) a);
          map = output_of k b (padded map b);
          grg = output_of k c (padded (point_list table) c);
        }

-- the table that a call leaves there holds them
module _ (t : GridType) (d : Vec ℕ) (g : ℕ → List (Vec ℤ)) (a b c : ℕ) where
  abbrev pub left_of : Table
  left_of = let y = layout t d g in record { addresses = padded y.addresses a; map = padded y.map b; grg = padded y.grg c }

  pub left-holds : Good d g → Near d g → length (table_of t (named g) (size d)) ≤ 1099511627776 → Holds t d left_of g
  left-holds w n few = record {
    starts = record {
      r = replicate (a - length (layout t d g).addresses) (negsuc 0);
      s = replicate (b - length (layout t d g).map) (negsuc 0);
      u = replicate (c - length (layout t d g).grg) (negsuc 0);
      addresses = refl;
      map = refl;
      grg = refl;
    };
    good = w;
    close = n;
    few = few;
  }

-- the images that are read of a table
abbrev images_read : GridType → TableRecord → Table → ℕ → List Image
images_read t r x = named (list_at t (sides_of r.d) x)

-- ---- converting a table that holds lists
module _ (r : TableRecord) (x : Table) (t : GridType) (g : ℕ → List (Vec ℤ)) (w : Holds t (sides_of r.d) x g)
    (limits : T (diagonal_fits r.d && shift_fits r.ps)) (a b c : ℕ) where
  abbrev d : Vec ℕ
  d = sides_of r.d

  abbrev m : ℕ
  m = length (table_of t (named g) (size d))

  abbrev room : Bool
  room = has_room (lengths_of (other t) d (images_read t r x)) a b c

  readable : table_read t d x ≡ got m
  readable = holds-readable w (omega (arith, few-points r.d (and_l (diagonal_fits r.d) (shift_fits r.ps) limits)))

  tests : stand_tests t r x a b c ≡ require room WrongLength Accepted
  unfolding stand_tests
  tests =
      ap (λ k. k then λ m. require (could_stand t d x m) CouldNotStand (require room WrongLength Accepted)) readable
      ∙ ap (λ b. require b CouldNotStand (require room WrongLength Accepted)) (is_true (could_stand t d x m) (holds-stand w m (holds-told w)))

  holds-converted : converted t r x a b c ≡ recorded (with_type (other t) r) (laid (other t) d g a b c)
  unfolding converted
  holds-converted =
      ap (λ k. recorded (with_type (other t) r) (laid_out (other t) d (images_read t r x) a b c k)) tests
      ∙ ap (recorded (with_type (other t) r)) (laid-agree (other t) d (list_at t d x) g a b c (holds-lists w))

  pub holds-converts : T (whole_addresses x.addresses) → grid_type_of r.bz_grid_type ≡ Ok t
      → convert_bz_grid r x a b c ≡ recorded (with_type (other t) r) (laid (other t) d g a b c)
  unfolding convert_bz_grid layout_tests
  holds-converts whole known =
      (λ i. converted_for (require (whole-true i) WrongLength (require (limits-true i) OutsideLimits (known i))) r x a b c) ∙ holds-converted
    where
      whole-true : whole_addresses x.addresses ≡ true
      whole-true = is_true (whole_addresses x.addresses) whole

      limits-true : diagonal_fits r.d && shift_fits r.ps ≡ true
      limits-true = is_true (diagonal_fits r.d && shift_fits r.ps) limits

-- ---- an accepted call
pub record ConvertAccepted (r : TableRecord) (x : Table) (a b c : ℕ) (l : Built) (t : GridType) : Type 0 where
  pub m : ℕ
  pub whole : T (whole_addresses x.addresses)
  pub limits : T (diagonal_fits r.d && shift_fits r.ps)
  pub read : table_read t (sides_of r.d) x ≡ got m
  pub stands : T (could_stand t (sides_of r.d) x m)
  pub table : l.table ≡ with_type (other t) r
  pub left : table_in (convert_bz_grid r x a b c) ≡ left_of (other t) (sides_of r.d) (list_at t (sides_of r.d) x) a b c

module _ (r : TableRecord) (x : Table) (a b c : ℕ) (l : Built) (t : GridType)
    (known : grid_type_of r.bz_grid_type ≡ Ok t) (e : (convert_bz_grid r x a b c).answer ≡ Ok l) where
  abbrev lengths : Lengths
  lengths = lengths_of (other t) (sides_of r.d) (images_read t r x)

  given : T (whole_addresses x.addresses) × T (diagonal_fits r.d && shift_fits r.ps) × (convert_bz_grid r x a b c ≡ converted t r x a b c)
  unfolding convert_bz_grid layout_tests
  given = by (whole_addresses x.addresses) (diagonal_fits r.d && shift_fits r.ps) e
    where
      tests : (u v : Bool) → Result GridType Refusal
      tests u v = require u WrongLength (require v OutsideLimits (grid_type_of r.bz_grid_type))

      by : (u v : Bool) → (converted_for (tests u v) r x a b c).answer ≡ Ok l
          → T u × T v × (converted_for (tests u v) r x a b c ≡ converted t r x a b c)
      by true true e = (tt, tt, ap (λ k. converted_for k r x a b c) known)
      by true false e = absurd (refused-not-ok e)
      by false v e = absurd (refused-not-ok e)

  tested : stand_tests t r x a b c ≡ Accepted
  unfolding converted
  tested =
      passed-by (λ k. giving k lengths then λ l. Ok (record { lengths = l; table = with_type (other t) r })) (λ r. refused-not-ok)
      (stand_tests t r x a b c) (sym (ap (λ o. o.answer) given.2) ∙ e)

  left : convert_bz_grid r x a b c ≡ recorded (with_type (other t) r) (laid_out (other t) (sides_of r.d) (images_read t r x) a b c Accepted)
  unfolding converted
  left = given.2 ∙ ap (λ k. recorded (with_type (other t) r) (laid_out (other t) (sides_of r.d) (images_read t r x) a b c k)) tested

  pub convert-accepted : ConvertAccepted r x a b c l t
  unfolding stand_tests
  convert-accepted =
      let s = passes-first (table_read t (sides_of r.d) x) _ tested in
      let u = passed (could_stand t (sides_of r.d) x s.0) CouldNotStand _ s.2 in
      record {
        m = s.0;
        whole = given.0;
        limits = given.1;
        read = s.1;
        stands = holds u.0;
        table = ap (λ l. l.table) (same-ok (sym e ∙ ap (λ o. o.answer) left));
        left = ap table_in left;
      }

-- what it left holds the lists that it read
module _ {r : TableRecord} {x : Table} {a b c : ℕ} {l : Built} {t : GridType} (h : ConvertAccepted r x a b c l t) where
  pub accepted-holds : Holds t (sides_of r.d) x (list_at t (sides_of r.d) x)
  accepted-holds = stands-holds h.read h.stands

  pub converted-holds : Holds (other t) (sides_of r.d) (table_in (convert_bz_grid r x a b c)) (list_at t (sides_of r.d) x)
  converted-holds =
      let w = accepted-holds in
      let d = sides_of r.d in
      let g = list_at t d x in
      subst (λ (y : Table). Holds (other t) d y g) (sym h.left)
      (left-holds (other t) d g a b c w.good w.close (omega (arith, w.few, length-table t (named g) (size d), length-table (other t) (named g) (size d))))
