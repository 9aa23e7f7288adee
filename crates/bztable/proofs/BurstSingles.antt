-- A burst against the single call.
use mathlib.Core.Path.{◌≡◌, refl, sym, ◌∙◌, ap, subst}
use mathlib.Core.Bool.{Bool, ◌&&◌}
use mathlib.Core.List.{List, [], ◌∷◌, map as map_list}
use Prim.Native.Nat.{ℕ, zero, suc, ◌<◌}
use native.Mathlib.Nat.{not-suc-le-zero, le_of_suc-le-suc}
use lib.Dec.{eqb}
use lib.IntN.{ℤ, pos}
use lib.ListN.{length, get_or}
use borrow.Author.Tests.{eq-eqb}
use Rattle.std.specs.Prelude.{Result, Ok, Err}
use Rattle.common.specs.Array.{vector_of, sides_of, matrix_of}
use Rattle.common.specs.Tested.{require, output_of, Accepted, ◌then◌, without_value}
use Rattle.common.specs.declared.Refusal.{Refusal}
use Rattle.common.specs.declared.Refusal.TheVariants.{WrongLength}
use Rattle.common.proofs.Tests.{same-refusal, refused-not-ok, passed}
use Rattle.bzgrid.specs.declared.GridType.{GridType}
use Rattle.bzgrid.specs.declared.TableRecord.{TableRecord}
use Rattle.bzgrid.proofs.Accepted.{passes-first}
use Rattle.bztable.specs.declared.rotate.Rotated.{Rotated}
use Rattle.bztable.specs.declared.rotate.Rotated.TheVariants.{Image}
use Rattle.bztable.specs.Agreement.{agrees, layout_where}
use Rattle.bztable.specs.Reading.{Read, got, list_of, read_each}
use Rattle.bztable.specs.Rotate.{rotate_tests, rotated_at, rotate_in, rotate_bz_grid_index}
use Rattle.bztable.specs.Burst.{place_told, fallback_told, RotatedIndices, each_rotated, burst_tests, burst_in, rotate_bz_grid_indices}
use Rattle.bztable.specs.BurstSingles.{BurstSingles}
use Rattle.bztable.proofs.EachRead.{each-read, first-refused}

-- ---- what is told of each of a list
told-length : (g : Rotated → ℤ) (l : List Rotated) → length (map_list g l) ≡ length l
told-length g [] = refl
told-length g (a ∷ l) = ap suc (told-length g l)

told-at : (g : Rotated → ℤ) (e : Rotated) (l : List Rotated) (j : ℕ) → j < length l → get_or (map_list g l) j (pos 0) ≡ g (get_or l j e)
told-at g e [] j k = absurd (not-suc-le-zero k)
told-at g e (a ∷ l) zero k = refl
told-at g e (a ∷ l) (suc j) k = told-at g e l j (le_of_suc-le-suc k)

-- where a list has ended
abbrev none : Rotated
none = Image (pos 0)

module _ (indices : List ℤ) (f : ℤ → Read Rotated) (tested : Result GridType Refusal) (reads : GridType → ℤ → Read Rotated) (is : (i : ℤ) → f i ≡ (tested then λ t. reads t i)) where
  abbrev each : Read (List Rotated)
  each = tested then λ t. read_each (reads t) indices

  -- all are read
  module _ {l : List Rotated} (e : each ≡ got l) where
    all-told : (length l ≡ length indices) × ((j : ℕ) → j < length indices → f (get_or indices j (pos 0)) ≡ got (get_or l j none))
    all-told =
        let t = passes-first tested (λ t. read_each (reads t) indices) e in
        let r = each-read (pos 0) none (reads t.0) indices t.2 in
        (r.0, λ j k. is (get_or indices j (pos 0)) ∙ ap (λ x. x then λ t. reads t (get_or indices j (pos 0))) t.1 ∙ r.1 j k)

  -- one is refused, where there is one
  some-refused : 0 < length indices → {x : Refusal} → each ≡ Err x
      → (j : ℕ) × (j < length indices) × (f (get_or indices j (pos 0)) ≡ Err x) × ((i : ℕ) → i < j → (w : Rotated) × (f (get_or indices i (pos 0)) ≡ Ok w))
  some-refused some {x} e = go tested refl e
    where
      go : (r : Result GridType Refusal) → tested ≡ r → (r then λ t. read_each (reads t) indices) ≡ Err x
          → (j : ℕ) × (j < length indices) × (f (get_or indices j (pos 0)) ≡ Err x) × ((i : ℕ) → i < j → (w : Rotated) × (f (get_or indices i (pos 0)) ≡ Ok w))
      go (Err y) u e =
          (0, some, is (get_or indices 0 (pos 0)) ∙ ap (λ r. r then λ t. reads t (get_or indices 0 (pos 0))) u ∙ ap Err (same-refusal e), λ i k. absurd (not-suc-le-zero k))
      go (Ok t) u e =
          let k = first-refused (pos 0) none (reads t) indices e in
          let by : (i : ℕ) → f (get_or indices i (pos 0)) ≡ reads t (get_or indices i (pos 0)) = λ i. is (get_or indices i (pos 0)) ∙ ap (λ r. r then λ t. reads t (get_or indices i (pos 0))) u in
          (k.0, k.1, by k.0 ∙ k.2, λ i h. let b = k.3 i h in (b.0, by i ∙ b.1))

-- ---- the calls
module _ (indices : List ℤ) (rotation : List (List ℤ)) (addresses map : List ℤ) (r : TableRecord) (d ps : List ℤ) (t : ℤ) where
  abbrev tested : Result GridType Refusal
  tested = rotate_tests rotation addresses d ps (layout_where (agrees r d ps t) t)

  abbrev reads : GridType → ℤ → Read Rotated
  reads t = rotated_at t (sides_of d) addresses map (matrix_of rotation) (vector_of ps)

  abbrev read : Read (List Rotated)
  read = tested then λ t. read_each (reads t) indices

  abbrev single : ℤ → Read Rotated
  single i = rotate_bz_grid_index i rotation addresses map r d ps t

  single-is : (i : ℤ) → single i ≡ (tested then λ t. reads t i)
  unfolding rotate_bz_grid_index rotate_in
  single-is i = refl

  not-accepted-by : (y : Read (List Rotated)) {x : Refusal} → (y then λ _. Accepted) ≡ Err x → y ≡ Err x
  not-accepted-by (Ok l) e = absurd (refused-not-ok (sym e))
  not-accepted-by (Err y) e = ap Err (same-refusal e)

  no-index : (k : Result GridType Refusal) → ((k then λ t. read_each (reads t) []) then λ _. Accepted) ≡ without_value k
  no-index (Ok t) = refl
  no-index (Err x) = refl

  module _ (n m : ℕ) where
    abbrev fit : Bool
    fit = eqb n (length indices) && eqb m (length indices)

    fits : n ≡ length indices → m ≡ length indices → require fit WrongLength (read then λ _. Accepted) ≡ (read then λ _. Accepted)
    fits e f = λ i. require (eq-eqb n (length indices) e i && eq-eqb m (length indices) f i) WrongLength (read then λ _. Accepted)

    abbrev burst : RotatedIndices
    burst = rotate_bz_grid_indices indices rotation addresses map r d ps t n m

    read-all : burst.answer ≡ Accepted → (l : List Rotated) × (read ≡ got l) × (burst.out ≡ map_list place_told l) × (burst.fallbacks ≡ map_list fallback_told l)
    unfolding rotate_bz_grid_indices burst_in burst_tests each_rotated
    read-all e =
        let a = passed fit WrongLength (read then λ _. Accepted) e in
        let l = passes-first read (λ _. Accepted) a.1 in
        (l.0, l.1, λ i. output_of (e i) n (map_list place_told (list_of (l.1 i))), λ i. output_of (e i) m (map_list fallback_told (list_of (l.1 i))))

    read-none : n ≡ length indices → m ≡ length indices → burst.answer ≡ (read then λ _. Accepted)
    unfolding rotate_bz_grid_indices burst_in burst_tests each_rotated
    read-none = fits

    pub burst-singles : BurstSingles indices rotation addresses map r d ps t n m
    burst-singles = record {
      accepted = λ e.
          let l = read-all e in
          let w = all-told indices single tested reads single-is l.1 in (
            ap length l.2 ∙ told-length place_told l.0 ∙ w.0,
            ap length l.3 ∙ told-length fallback_told l.0 ∙ w.0,
            λ j k.
                let h : j < length l.0 = subst (λ n. j < n) (sym w.0) k in
                (get_or l.0 j none, w.1 j k, ap (λ o. get_or o j (pos 0)) l.2 ∙ told-at place_told none l.0 j h, ap (λ o. get_or o j (pos 0)) l.3 ∙ told-at fallback_told none l.0 j h),
          );
      refused = λ en em some x e. some-refused indices single tested reads single-is some (not-accepted-by read (sym (read-none en em) ∙ e));
      none = λ el en em. read-none (en ∙ ap length (sym el)) (em ∙ ap length (sym el)) ∙ ap (λ l. (tested then λ t. read_each (reads t) l) then λ _. Accepted) el ∙ no-index tested;
    }
