-- A table that can be read could stand exactly if its counted places are the layout of good lists; and then these are the lists that are read.
use mathlib.Core.Path.{◌≡◌, refl, sym, ◌∙◌, ap, subst}
use mathlib.Core.Bool.{Bool}
use mathlib.Core.List.{List, ◌++◌}
use Prim.Native.Nat.{ℕ, ◌*◌, ◌≤◌, ◌<◌}
use native.Mathlib.Omega.{arith}
use lib.Dec.{T}
use lib.IntN.{ℤ}
use lib.ListN.{length, drop, take-append-drop}
use lib.Seq.{length-take-le}
use Rattle.integer.proofs.Test.{and_l, and_r, and_in}
use Rattle.common.specs.Matrix.{Vec}
use Rattle.common.specs.Tested.{◌then◌}
use Rattle.grgrid.specs.Grid.{size}
use Rattle.grgrid.specs.Lists.{◌∈◌}
use Rattle.bzgrid.specs.declared.GridType.{GridType}
use Rattle.bzgrid.specs.Table.{named}
use Rattle.bzgrid.specs.BzGridAddresses.{table_of, map_length}
use Rattle.bztable.specs.Access.{image_places}
use Rattle.bztable.specs.Reading.{got, near, address_at, list_of, read_each}
use Rattle.bzconvert.specs.Layout.{Table, layout, list_at, table_read, all_below, good_list, same_table, told, could_stand}
use Rattle.bzconvert.specs.Standing.{Good, Laid, StandsExactly}
use Rattle.bzconvert.proofs.Tests.{good-of, good-in, good-agree, tables-equal, table-same}
use Rattle.bzconvert.proofs.LayoutRead.{Starts, Near, layout-agree, length-points, told-layout, places-below, held-at, lists-read}
use Rattle.bzconvert.proofs.Readable.{layout-readable, read-few, read-points, read-near}

-- a table begins with its counted places
told-starts : (t : GridType) (d : Vec ℕ) (x : Table) (m : ℕ) {y : Table} → told t d x m ≡ y → Starts x y
told-starts t d x m {y} e = record {
  r = drop (3 * m) x.addresses;
  s = drop (map_length t d) x.map;
  u = drop m x.grg;
  addresses = sym (take-append-drop (3 * m) x.addresses) ∙ ap (λ (z : Table). z.addresses ++ drop (3 * m) x.addresses) e;
  map = sym (take-append-drop (map_length t d) x.map) ∙ ap (λ (z : Table). z.map ++ drop (map_length t d) x.map) e;
  grg = sym (take-append-drop m x.grg) ∙ ap (λ (z : Table). z.grg ++ drop m x.grg) e;
}

-- ---- the test
module _ (t : GridType) (d : Vec ℕ) (x : Table) (m : ℕ) where
  abbrev lists : ℕ → List (Vec ℤ)
  lists = list_at t d x

  abbrev good : Bool
  good = all_below (λ p. good_list d p (lists p)) (size d)

  abbrev same : Bool
  same = same_table (layout t d lists) (told t d x m)

  pub stands-laid : T (could_stand t d x m) → Laid t d x m lists
  unfolding could_stand
  stands-laid h = record { good = good-of d lists (and_l good same h); laid = sym (tables-equal (layout t d lists) (told t d x m) (and_r good same h)) }

  laid-stands : Laid t d x m lists → T (could_stand t d x m)
  unfolding could_stand
  laid-stands w =
      and_in good same (good-in d lists w.good)
      (subst (λ (y : Table). T (same_table (layout t d lists) y)) (sym w.laid) (table-same (layout t d lists)))

-- ---- a table that holds lists within the limits, and maybe more behind them
pub record Holds (t : GridType) (d : Vec ℕ) (x : Table) (g : ℕ → List (Vec ℤ)) : Type 0 where
  pub starts : Starts x (layout t d g)
  pub good : Good d g
  pub close : Near d g
  pub few : length (table_of t (named g) (size d)) ≤ 1099511627776

module _ {t : GridType} {d : Vec ℕ} {x : Table} {g : ℕ → List (Vec ℤ)} (w : Holds t d x g) where
  pub holds-reads : (p : ℕ) → p < size d → (image_places t x.map (size d) p then read_each (address_at x.addresses)) ≡ got (g p)
  holds-reads = lists-read t d g w.good.some x w.starts w.few w.close

  pub holds-lists : (p : ℕ) → p < size d → list_at t d x p ≡ g p
  holds-lists p l = ap list_of (holds-reads p l)

  pub holds-readable : 8 * size d ≤ 1099511627776 → table_read t d x ≡ got (length (table_of t (named g) (size d)))
  holds-readable mesh = layout-readable t d g w.good.some x w.starts w.few mesh w.close

  pub holds-told : told t d x (length (table_of t (named g) (size d))) ≡ layout t d g
  holds-told = told-layout t d g w.good.some x w.starts refl

  pub holds-stand : (m : ℕ) → told t d x m ≡ layout t d g → T (could_stand t d x m)
  holds-stand m e =
      laid-stands t d x m
      (record { good = good-agree (list_at t d x) holds-lists w.good; laid = e ∙ sym (layout-agree (list_at t d x) g d holds-lists t) })

-- ---- a table that can be read, and is the layout of good lists
module _ {t : GridType} {d : Vec ℕ} {x : Table} {m : ℕ} (e : table_read t d x ≡ got m) {g : ℕ → List (Vec ℤ)} (w : Laid t d x m g) where
  starts : Starts x (layout t d g)
  starts = told-starts t d x m w.laid

  -- its images are those of the lists
  pub laid-count : m ≡ length (table_of t (named g) (size d))
  laid-count = sym (length-take-le m x.grg (read-points t d x e)) ∙ ap (λ (z : Table). length z.grg) w.laid ∙ length-points (table_of t (named g) (size d))

  laid-near : (p : ℕ) → p < size d → {a : Vec ℤ} → a ∈ g p → T (near a)
  laid-near p l k =
      let o = held-at t d g w.good.some x starts p l k in
      let b = places-below t d g w.good.some x starts p l o.1 in
      subst (λ (a : Vec ℤ). T (near a)) o.2 (read-near t d x e o.0 (omega (arith, b, laid-count)))

  pub laid-holds : Holds t d x g
  laid-holds = record { starts = starts; good = w.good; close = record { at = laid-near }; few = omega (arith, laid-count, read-few t d x e) }

-- a table that could stand holds the lists that are read of it
pub stands-holds : {t : GridType} {d : Vec ℕ} {x : Table} {m : ℕ} → table_read t d x ≡ got m → T (could_stand t d x m) → Holds t d x (list_at t d x)
stands-holds {t} {d} {x} {m} e h = laid-holds e (stands-laid t d x m h)

pub reads-lists : (t : GridType) (d : Vec ℕ) (x : Table) (m : ℕ) → T (could_stand t d x m) → table_read t d x ≡ got m
    → (p : ℕ) → p < size d → (image_places t x.map (size d) p then read_each (address_at x.addresses)) ≡ got (list_at t d x p)
reads-lists t d x m h e = holds-reads (stands-holds e h)

pub stands-exactly : StandsExactly
stands-exactly t d x m e = (stands-laid t d x m, λ g w. let h = laid-holds e w in (holds-stand h m w.laid, holds-lists h))
