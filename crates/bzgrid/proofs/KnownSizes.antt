-- The three calls on one input.
use mathlib.Core.Path.{◌≡◌, refl, sym, ◌∙◌, ap}
use mathlib.Core.Bool.{Bool, true, false}
use mathlib.Core.List.{List}
use Prim.Native.Nat.{ℕ}
use lib.Dec.{T}
use lib.IntN.{ℤ}
use lib.Ieee.{Float}
use Rattle.std.specs.Prelude.{Option, Some, None, Result, Ok, Err}
use Rattle.common.specs.Matrix.{same_vector}
use Rattle.common.specs.Array.{vector_of}
use Rattle.common.specs.Tested.{require, giving, Tested, Accepted, ◌then◌}
use Rattle.common.specs.declared.Refusal.{Refusal}
use Rattle.common.specs.declared.Refusal.TheVariants.{SearchFailed, OtherSizes, WrongLength}
use Rattle.common.proofs.Tests.{same-ok, same-refusal, refused-not-ok}
use Rattle.common.proofs.Same.{same-itself, same-vectors}
use Rattle.grgrid.specs.Grid.{size}
use Rattle.bzgrid.specs.declared.GridType.{GridType}
use Rattle.bzgrid.specs.declared.Lengths.{Lengths}
use Rattle.bzgrid.specs.declared.TableRecord.{TableRecord}
use Rattle.bzgrid.specs.declared.Built.{Built}
use Rattle.bzsearch.specs.Search.{Search}
use Rattle.bzgrid.specs.Table.{images_at}
use Rattle.bzgrid.specs.BzGridAddresses.{search_of, all_found, lengths_of, as_told, has_room, input_tests, BzGridAddresses, unbuilt, laid_out, build_tests, built, built_for, sizes_of, recorded, tables_told, bz_grid_addresses, bz_grid_fill, bz_grid_sizes}
use Rattle.bzgrid.specs.KnownSizes.{numbers, KnownSizes}

abbrev sizes_for : Result GridType Refusal → Search → Result Lengths Refusal
sizes_for k s = k then λ k. sizes_of k s

-- ---- by the tests
module _ (t : GridType) (s : Search) (a b c : ℕ) where
  abbrev l : Lengths
  l = lengths_of t s.d (images_at s)

  abbrev tests : (f u : Bool) → Tested
  tests f u = require f SearchFailed (require u OtherSizes (require (has_room l a b c) WrongLength Accepted))

  module _ (w : Option (List ℤ)) where
    -- with lengths that are the tables'
    pub built-as : as_told w l ≡ true → built t s w a b c ≡ built t s None a b c
    unfolding built build_tests
    built-as e = ap (λ u. laid_out t s.d (images_at s) a b c (tests (all_found (images_at s) (size s.d)) u)) e

    -- with others, or where the search failed
    pub built-other : {k : Lengths} → sizes_of t s ≡ Ok k → as_told w l ≡ false → built t s w a b c ≡ unbuilt a b c OtherSizes
    unfolding built build_tests
    built-other h e = by (all_found (images_at s) (size s.d)) (as_told w l) h e
      where
        by : (f u : Bool) {k : Lengths} → require f SearchFailed (Ok l) ≡ Ok k → u ≡ false → laid_out t s.d (images_at s) a b c (tests f u) ≡ unbuilt a b c OtherSizes
        by true u h e = ap (λ u. laid_out t s.d (images_at s) a b c (tests true u)) e
        by false u h e = absurd (refused-not-ok h)

    pub built-refused : {r : Refusal} → sizes_of t s ≡ Err r → built t s w a b c ≡ unbuilt a b c r
    unfolding built build_tests
    built-refused h = by (all_found (images_at s) (size s.d)) (as_told w l) h
      where
        by : (f u : Bool) {r : Refusal} → require f SearchFailed (Ok l) ≡ Err r → laid_out t s.d (images_at s) a b c (tests f u) ≡ unbuilt a b c r
        by true u h = absurd (refused-not-ok (sym h))
        by false u h = ap (unbuilt a b c) (same-refusal h)

    pub built-sized : {k : Lengths} → (built t s w a b c).answer ≡ Ok k → sizes_of t s ≡ Ok k
    unfolding built build_tests
    built-sized h = by (all_found (images_at s) (size s.d)) (as_told w l) (has_room l a b c) h
      where
        by : (f u v : Bool) {k : Lengths} → giving (require f SearchFailed (require u OtherSizes (require v WrongLength Accepted))) l ≡ Ok k → require f SearchFailed (Ok l) ≡ Ok k
        by true true true h = h
        by true true false h = absurd (refused-not-ok h)
        by true false v h = absurd (refused-not-ok h)
        by false u v h = absurd (refused-not-ok h)

-- ---- by the tests of the input
module _ (r : TableRecord) (s : Search) (a b c : ℕ) where
  abbrev table : Result GridType Refusal → Option (List ℤ) → BzGridAddresses Built
  table k w = recorded r (built_for k s w a b c)

  same-sized : (k : GridType) {l : Lengths} → sizes_of k s ≡ Ok l → l ≡ lengths_of k s.d (images_at s)
  same-sized k h = by (all_found (images_at s) (size s.d)) h
    where
      by : (f : Bool) {l : Lengths} → require f SearchFailed (Ok (lengths_of k s.d (images_at s))) ≡ Ok l → l ≡ lengths_of k s.d (images_at s)
      by true h = sym (same-ok h)
      by false h = absurd (refused-not-ok h)

  known : (l : Lengths) (k : Result GridType Refusal) → sizes_for k s ≡ Ok l → table k (Some (numbers l)) ≡ table k None
  known l (Ok k) h = ap (recorded r) (built-as k s a b c (Some (numbers l)) (ap (λ m. as_told (Some (numbers l)) m) (sym (same-sized k h)) ∙ same-itself (vector_of (numbers l))))
  known l (Err x) h = absurd (refused-not-ok h)

  unlike : (l : Lengths) (k : Result GridType Refusal) → sizes_for k s ≡ Ok l → (n : List ℤ) → ¬ (vector_of n ≡ vector_of (numbers l)) → table k (Some n) ≡ unbuilt a b c OtherSizes
  unlike l (Ok k) h n d =
      ap (recorded r) (built-other k s a b c (Some n) h (ap (λ m. as_told (Some n) m) (sym (same-sized k h)) ∙ differ (same_vector (vector_of n) (vector_of (numbers l))) (λ t. d (same-vectors (vector_of n) (vector_of (numbers l)) t))))
    where
      differ : (b : Bool) → (T b → ⊥) → b ≡ false
      differ true h = absurd (h tt)
      differ false h = refl
  unlike l (Err x) h n d = absurd (refused-not-ok h)

  none : (x : Refusal) (k : Result GridType Refusal) → sizes_for k s ≡ Err x → (w : Option (List ℤ)) → table k w ≡ unbuilt a b c x
  none x (Ok k) h w = ap (recorded r) (built-refused k s a b c w h)
  none x (Err y) h w = ap (unbuilt a b c) (same-refusal h)

  tells : (w : Option (List ℤ)) (l : Built) (k : Result GridType Refusal) → (table k w).answer ≡ Ok l → sizes_for k s ≡ Ok l.lengths
  tells w l (Ok k) h = built-sized k s a b c w (by (built k s w a b c).answer h)
    where
      by : (x : Result Lengths Refusal) → (x then λ m. Ok (record { lengths = m; table = r })) ≡ Ok l → x ≡ Ok l.lengths
      by (Ok m) h = ap (λ b. Ok b.lengths) (same-ok h)
      by (Err y) h = absurd (refused-not-ok h)
  tells w l (Err x) h = absurd (refused-not-ok h)

-- an accepted call tells what the sizes are
module _ (d : List ℤ) (q : List (List ℤ)) (ps : List ℤ) (lattice : List (List Float)) (t : ℤ) where
  pub sizes-told : (w : Option (List ℤ)) (a b c : ℕ) (l : Built) → (tables_told d q ps lattice t w a b c).answer ≡ Ok l → bz_grid_sizes d q ps lattice t ≡ Ok l.lengths
  unfolding tables_told bz_grid_sizes
  sizes-told w a b c l h = tells (record { d = d; ps = ps; bz_grid_type = t }) (search_of d q ps lattice) a b c w l (input_tests d q ps lattice t) h

pub known-sizes : (d : List ℤ) (q : List (List ℤ)) (ps : List ℤ) (lattice : List (List Float)) (t : ℤ) (a b c : ℕ) → KnownSizes d q ps lattice t a b c
unfolding bz_grid_addresses bz_grid_fill bz_grid_sizes tables_told
known-sizes d q ps lattice t a b c =
    let r : TableRecord = record { d = d; ps = ps; bz_grid_type = t } in
    let s = search_of d q ps lattice in
    let k = input_tests d q ps lattice t in
    record {
      same = λ l h. known r s a b c l k h;
      others = λ l h n d. unlike r s a b c l k h n d;
      refused = λ x h. (none r s a b c x k h None, λ n. none r s a b c x k h (Some n));
      told = λ l h. sizes-told d q ps lattice t None a b c l h;
    }
