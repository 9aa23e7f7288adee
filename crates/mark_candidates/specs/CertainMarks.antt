-- What the marks say, in the words of document 02, and that narrower ranges never change a certain one.
use Rattle.std.specs.Prelude.{◌≡◌, ◌↔◌, List, ℕ, ◌<◌, T, ℤ, pos, length, get_or}
use Rattle.common.specs.Tested.{Accepted}
use Rattle.common.specs.Matrix.{Vec, origin}
use Rattle.mark_candidates.specs.InnerProducts.{Ranges, ordered, Narrower, NeverLonger, Shorter, never_longer, shorter}
use Rattle.mark_candidates.specs.ScaledCoordinates.{candidates125}
use Rattle.mark_candidates.specs.MarkCandidates.{NearestForCertain, BeatenForCertain, ranges_of, placed, mark_candidates}

abbrev pub mark_at : List ℤ → ℕ → ℤ
mark_at l i = get_or l i (pos 0)

-- candidate i in the order of `for_each_candidate`
abbrev pub candidate : ℕ → Vec ℤ
candidate i = get_or candidates125 i origin

-- ---- of an accepted call: 1 exactly if nearest for certain, 2 exactly if beaten for certain, 0 exactly if neither
module _ (d : List ℤ) (q : List (List ℤ)) (ps lowest highest : List ℤ) (point : ℤ) where
  abbrev pub Nearest : ℕ → Type 0
  Nearest i = NearestForCertain (ranges_of lowest highest) (placed d q ps point) candidates125 (candidate i)

  abbrev pub Beaten : ℕ → Type 0
  Beaten i = BeatenForCertain (ranges_of lowest highest) (placed d q ps point) candidates125 (candidate i)

  pub record MarksSay (l : List ℤ) : Type 0 where
    pub places : length l ≡ 125
    pub nearest : (i : ℕ) → i < 125 → (mark_at l i ≡ pos 1) ↔ Nearest i
    pub beaten : (i : ℕ) → i < 125 → (mark_at l i ≡ pos 2) ↔ Beaten i
    pub open-else : (i : ℕ) → i < 125 → (mark_at l i ≡ pos 0) ↔ ((¬ Nearest i) × (¬ Beaten i))

pub record CertainMarks : Type 0 where
  -- the test of one corner of the ranges says the same of all six numbers in them
  pub corner-never-longer : (r : Ranges) (v w : Vec ℤ) → T (ordered r) → T (never_longer r v w) ↔ NeverLonger r v w
  pub corner-shorter : (r : Ranges) (v w : Vec ℤ) → T (ordered r) → T (shorter r v w) ↔ Shorter r v w
  -- no candidate is both
  pub exclude : (r : Ranges) (at : Vec ℤ → Vec ℤ) (ms : List (Vec ℤ)) (m : Vec ℤ) → T (ordered r)
      → NearestForCertain r at ms m → BeatenForCertain r at ms m → ⊥
  -- two accepted calls that differ in their ranges only, those of the second inside those of the first
  pub stays : (d : List ℤ) (q : List (List ℤ)) (ps : List ℤ) (point : ℤ) (lowest highest low high : List ℤ) (n : ℕ)
      → let wide = mark_candidates d q ps lowest highest point n in
      let narrow = mark_candidates d q ps low high point n in
      wide.answer ≡ Accepted → narrow.answer ≡ Accepted → Narrower (ranges_of low high) (ranges_of lowest highest)
      → (i : ℕ) → i < 125
      → (mark_at wide.marks i ≡ pos 1 → mark_at narrow.marks i ≡ pos 1) × (mark_at wide.marks i ≡ pos 2 → mark_at narrow.marks i ≡ pos 2)
