-- The class sheet of every accepted chain.
use mathlib.Core.Path.{◌≡◌, sym, ◌∙◌, ap, subst}
use mathlib.Core.List.{List, ◌∷◌}
use Prim.Native.Nat.{ℕ, ◌*◌, ◌<◌, ◌≤◌}
use native.Mathlib.Nat.{le_of_eq, le_trans}
use native.Mathlib.Omega.{arith}
use lib.Dec.{T}
use lib.IntN.{ℤ, pos}
use lib.ListN.{length, get_or}
use Rattle.common.specs.Matrix.{Axis, X, Y, Z, Vec, side}
use Rattle.common.specs.Array.{items}
use Rattle.common.specs.Tested.{Accepted}
use Rattle.grgrid.specs.Own.{is_place}
use Rattle.grgrid.proofs.Accepted.{few-points}
use Rattle.grgrid.proofs.Lists.{item_in}
use Rattle.grgrid.proofs.Numbers.{own-few}
use Rattle.grgrid.proofs.Own.{length-own, own-points}
use Rattle.grgrid.proofs.Picked.{picked-few}
use Rattle.bztable.proofs.AcceptedCall.{call-total}
use Rattle.class_sheet.specs.Sheet.{line_fits, row_widths, text_fits, place_count}
use Rattle.class_sheet.specs.ClassSheet.{weight, row, class_count, class_sheet}
use Rattle.class_sheet.proofs.Fits.{row-fits, text-fits, fitting-accepted}
use Rattle.class_sheet.proofs.ReadBack.{sheet-reads-back}
use Rattle.demand3.specs.FinishedList.{Calls, points, lowest_points, Best}
use Rattle.demand3.proofs.FinishedClasses.{sides-fit, every-number}
use Rattle.demand3.proofs.FinishedTriplets.{built, best-inside, finished-triplets}
use Rattle.finished_sheet.specs.FinishedSheet.{SmallRow, EverySheet}

-- small numbers fit their fields
small-fits : {l : List ℤ} → SmallRow l → T (line_fits row_widths l)
small-fits {l} s =
    let a = s.class-low in
    let b = s.weight-low in
    subst (λ l. T (line_fits row_widths l)) (sym s.numbers) (row-fits {p = s.class} {w = s.weight} {x = s.x} {y = s.y} {z = s.z} (omega arith) (omega arith) (wide s.x-low) (wide s.y-low) (wide s.z-low))
  where
    wide : {n : ℕ} → n < 10000000000 → n < 100000000000
    wide h = omega arith

module _ (c : Calls) where
  few : length c.classes ≤ 65536
  few = le_trans (le_of_eq (every-number c)) (few-points (items c.d) (sides-fit c))

  as-many : length (lowest_points c) ≡ class_count c.classes
  as-many = length-own c.classes (length c.classes)

  module _ (r : ℕ) (h : r < class_count c.classes) where
    abbrev p : ℕ
    p = get_or (lowest_points c) r 0

    listed : r < length (lowest_points c)
    listed = omega (arith, as-many)

    own : p < length c.classes
    own = ((own-points c.classes (length c.classes) p).0 (item_in 0 (lowest_points c) r listed)).0

    inside : p < points c
    inside = subst (λ n. p < n) (every-number c) own

    -- an image index of the tables has at most ten digits
    image-low : {i : Vec ℕ} {g : Vec ℤ} → Best c p i g → (k : Axis) → side i k < 10000000000
    image-low b k = omega (arith, best-inside c p inside b k, call-total (built c))

    small-row : SmallRow (row c.classes c.triplets r)
    unfolding row
    small-row =
        let t = (finished-triplets c (every-number c)).2 r listed in
        let i = t.0 in
        let f = few in
        let a = own in
        let b = picked-few (λ q. is_place (get_or c.classes q (pos 0)) p) (length c.classes) in
        record {
          class = p;
          weight = weight c.classes p;
          x = i.x;
          y = i.y;
          z = i.z;
          numbers = ap (λ v. pos p ∷ pos (weight c.classes p) ∷ items v) t.1;
          class-low = omega arith;
          weight-low = omega arith;
          x-low = image-low t.2 X;
          y-low = image-low t.2 Y;
          z-low = image-low t.2 Z;
        }

  every-field : T (text_fits (row c.classes c.triplets) (class_count c.classes))
  every-field = let f = few in text-fits (row c.classes c.triplets) (class_count c.classes) (omega (arith, own-few c.classes (length c.classes))) (λ r h. small-fits (small-row r h))

  never-refused : (class_sheet c.classes c.triplets (place_count (class_count c.classes))).answer ≡ Accepted
  never-refused = fitting-accepted c.classes c.triplets ((finished-triplets c (every-number c)).0 ∙ ap (λ n. n * 3) as-many) every-field

pub finished-sheet : EverySheet
finished-sheet c = record {
  small = small-row c;
  accepted = never-refused c;
  reads-back = sheet-reads-back c.classes c.triplets (place_count (class_count c.classes)) (never-refused c);
}
