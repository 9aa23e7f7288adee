-- A class map as an output holds it; the lower of a number and its partner's; and a turn of the swapped pass.
use mathlib.Core.Path.{◌≡◌, refl, sym, ◌∙◌, ap, ap₂, subst}
use mathlib.Core.Logic.{⊎_elim}
use mathlib.Core.Bool.{Bool, true, false, cond}
use mathlib.Core.List.{List, map}
use Prim.Native.Nat.{ℕ, ◌+◌, ◌<◌, ◌≤◌}
use native.Mathlib.Nat.{eq-or-lt_of_le, le_antisymm}
use native.Mathlib.Omega.{arith}
use lib.IntN.{ℤ, pos, nat_abs}
use lib.ListN.{length, get_or, set, length-map}
use lib.Dec.{ltb}
use borrow.Author.Tests.{ltb-true, ltb-false}
use Rattle.std.specs.Int.{int_min}
use Rattle.common.specs.Matrix.{Vec, Mat, origin}
use Rattle.common.specs.Array.{vector_of, items}
use Rattle.grgrid.specs.Grid.{size, index, address}
use Rattle.grgrid.specs.ClassMap.{Numbered}
use Rattle.grgrid.specs.Own.{own_places}
use Rattle.grgrid.proofs.Built.{length-build, build-at, build-list, written, written-more, written_read}
use Rattle.grgrid.proofs.Numbers.{numbers_of as numbers_of_lem, numbered}
use Rattle.recip_rotations.specs.PointGroup.{point_group}
use Rattle.triplet_grid.specs.Partner.{stabilizer, third, partner}
use Rattle.triplet_grid.specs.IrTriplets.{lower_of, swapped_number, numbers_of, map_triplets_of, classes_at}

pub classes-numbered : (q0 : ℕ) (d : Vec ℕ) (ms : List (Mat ℤ)) (time : Bool) {l : List ℤ} → l ≡ map pos (classes_at q0 d ms time) → Numbered (size d) l
unfolding classes_at
classes-numbered q0 d ms time e = numbered d origin (stabilizer d q0 (point_group ms time false)) e

pub classes-low : (q0 : ℕ) (d : Vec ℕ) (ms : List (Mat ℤ)) (time : Bool) (p : ℕ) → p < size d → get_or (classes_at q0 d ms time) p 0 ≤ p
classes-low q0 d ms time p h =
    subst (λ l. get_or l p 0 ≤ p) (numbers_of_lem (classes_at q0 d ms time) refl) ((classes-numbered q0 d ms time {l = map pos (classes_at q0 d ms time)} refl).low p h)

-- the partner, from the address of q0
pub partner-is : (d : Vec ℕ) (q0 q1 : ℕ) {a : List ℤ} → a ≡ items (address d q0) → index d (third (vector_of a) (address d q1)) ≡ partner d q0 q1
unfolding partner
partner-is d q0 q1 e = ap (λ a. index d (third (vector_of a) (address d q1))) e

-- ---- the lower of two
pub lower-is : (a b : ℕ) → int_min (pos a) (pos b) ≡ pos (lower_of a b)
lower-is a b = by (ltb b a) refl (ltb a b) refl
  where
    by : (s : Bool) → ltb b a ≡ s → (t : Bool) → ltb a b ≡ t → cond s (pos b) (pos a) ≡ pos (cond t a b)
    by true h true k = let i = ltb-true b a h in let j = ltb-true a b k in absurd (omega arith)
    by true h false k = refl
    by false h true k = refl
    by false h false k = ap pos (le_antisymm (ltb-false b a h) (ltb-false a b k))

-- ---- a turn of the pass: place q1 of the output, where the points below q1 have their numbers
module _ (d : Vec ℕ) (q0 : ℕ) {n : ℕ} {l : List ℤ} (c : Numbered n l) where
  abbrev pub swapped : ℕ → List ℕ → ℕ
  swapped q1 done = swapped_number d q0 (map nat_abs l) q1

  module _ (before : List ℤ) {q1 : ℕ} {out : List ℤ} (e : out ≡ written swapped pos q1 before) (h : q1 < length before) where
    -- a point with its own number
    pub own-stored : get_or (map nat_abs l) q1 0 ≡ q1 → {z : ℤ} → z ≡ pos (lower_of (get_or (map nat_abs l) (partner d q0 q1) 0) q1) → set out q1 z ≡ written swapped pos (q1 + 1) before
    own-stored f r = written-more swapped pos q1 before e h (r ∙ ap (λ q. pos (lower_of (get_or (map nat_abs l) (partner d q0 q) 0) q)) (sym f))

    -- any other has what its number has
    pub other-stored : q1 < n → (get_or (map nat_abs l) q1 0 ≡ q1 → ⊥) → {q : ℕ} → q ≡ get_or (map nat_abs l) q1 0 → {z : ℤ} → z ≡ get_or out q (pos 0) → set out q1 z ≡ written swapped pos (q1 + 1) before
    other-stored k g {q} f r =
        let lower : q < q1 = ⊎_elim (λ i. absurd (g i)) (λ i. omega arith) (eq-or-lt_of_le (c.low q1 k)) in
        let own : get_or (map nat_abs l) q 0 ≡ get_or (map nat_abs l) q1 0 = ap (λ p. get_or (map nat_abs l) p 0) f ∙ c.own q1 k in
        written-more swapped pos q1 before e h
        (r ∙ ap (λ o. get_or o q (pos 0)) e ∙ written_read swapped pos q1 q before 0 lower ∙ ap pos (build-at swapped 0 q1 q lower ∙ ap (λ q. lower_of (get_or (map nat_abs l) (partner d q0 q) 0) q) own))

-- ---- the classes of triplets, for either flag
pub plain : (d : Vec ℕ) (q0 : ℕ) (classes : List ℕ) → length classes ≡ size d → map_triplets_of false d q0 classes ≡ classes
unfolding map_triplets_of
plain d q0 classes e = build-list classes 0 (size d) e

lower-low : (a b n : ℕ) → b ≤ n → lower_of a b ≤ n
lower-low a b n h = by (ltb a b) refl
  where
    by : (t : Bool) → ltb a b ≡ t → cond t a b ≤ n
    by true e = let l = ltb-true a b e in omega arith
    by false e = h

-- no number lies above its point
pub triplets-low : (swappable : Bool) (d : Vec ℕ) (q0 : ℕ) (classes : List ℕ) → ((p : ℕ) → p < size d → get_or classes p 0 ≤ p) → (p : ℕ) → p < size d → get_or (map_triplets_of swappable d q0 classes) p 0 ≤ p
unfolding map_triplets_of
triplets-low swappable d q0 classes low p h = rw (build-at (λ q1 done. numbers_of swappable d q0 classes q1) 0 (size d) p h) (by swappable)
  where
    by : (s : Bool) → numbers_of s d q0 classes p ≤ p
    by true = lower-low (get_or classes (partner d q0 (get_or classes p 0)) 0) (get_or classes p 0) p (low p h)
    by false = low p h

module _ (swappable : Bool) (d : Vec ℕ) (q0 : ℕ) (classes : List ℕ) {out : List ℤ} (e : out ≡ map pos (map_triplets_of swappable d q0 classes)) where
  pub length-triplets : length out ≡ size d
  unfolding map_triplets_of
  length-triplets = ap length e ∙ length-map (map_triplets_of swappable d q0 classes) pos ∙ length-build (λ q1 done. numbers_of swappable d q0 classes q1) (size d)

  pub kept-triplets : own_places out (length out) ≡ own_places (map pos (map_triplets_of swappable d q0 classes)) (size d)
  kept-triplets = ap₂ own_places e length-triplets
