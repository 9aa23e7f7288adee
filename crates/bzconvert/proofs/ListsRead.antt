-- A table that could stand: the code can read the images of each point, and there are some.
use mathlib.Core.Path.{◌≡◌}
use mathlib.Core.Bool.{not}
use mathlib.Core.List.{List, [], ◌∷◌, map}
use Prim.Native.Nat.{ℕ, zero, suc, ◌<◌}
use native.Mathlib.Nat.{le_refl, not-suc-le-zero}
use native.Mathlib.Omega.{arith}
use lib.Dec.{T, eqb, eqb-suc-zero}
use lib.IntN.{ℤ}
use lib.ListN.{length}
use Rattle.integer.proofs.Test.{and_in, fails}
use Rattle.common.specs.Matrix.{Vec}
use Rattle.grgrid.specs.Grid.{size}
use Rattle.grgrid.specs.Sides.{sides}
use Rattle.bzgrid.specs.Table.{image_of, named}
use Rattle.bzgrid.specs.BzGridAddresses.{all_found}
use Rattle.bzgrid.proofs.Runs.{Found}
use Rattle.bztable.specs.declared.reading.Table.{Table}
use Rattle.bztable.specs.Reading.{got}
use Rattle.bzconvert.specs.Layout.{table_read, could_stand}
use Rattle.bzconvert.specs.Code.ByPlaces.{table_view}
use Rattle.bzconvert.specs.Code.Lists.{list_held, ListsRead}
use Rattle.bzconvert.proofs.Standing.{stands-laid, reads-lists}

some-named : (p : ℕ) (l : List (Vec ℤ)) → 0 < length l → Found (map (image_of p) l)
some-named p [] h = absurd (not-suc-le-zero h)
some-named p (a ∷ l) h = fails (eqb-suc-zero (length (map (image_of p) l)))

all-some : (g : ℕ → List (Vec ℤ)) (n : ℕ) → ((p : ℕ) → p < n → 0 < length (g p)) → T (all_found (named g) n)
all-some g zero h = tt
all-some g (suc n) h =
    and_in (all_found (named g) n) (not (eqb (length (named g n)) 0)) (all-some g n (λ p l. h p (omega arith))) (some-named n (g n) (h n (le_refl (suc n))))

pub lists-read : (x : Table) (grg : List ℤ) {m : ℕ} → table_read x.t (sides x.g) (table_view x grg) ≡ got m
    → T (could_stand x.t (sides x.g) (table_view x grg) m) → ListsRead x
lists-read x grg {m} e h = record {
  reads = reads-lists x.t (sides x.g) (table_view x grg) m h e;
  some = all-some (list_held x) (size (sides x.g)) (stands-laid x.t (sides x.g) (table_view x grg) m h).good.some;
}
