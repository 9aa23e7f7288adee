-- The walk of a burst: what it has read stands in the front of its outputs; and its outcome.
use mathlib.Core.Path.{◌≡◌, refl, sym, ◌∙◌, ap, ap₂}
use mathlib.Core.Logic.{◌⊎◌, inl, inr}
use mathlib.Core.Bool.{Bool, true, false, ◌&&◌, true≢false}
use mathlib.Core.List.{List, [], ◌∷◌, ◌++◌, map as map_list}
use Prim.Native.Nat.{ℕ, suc, ◌+◌, ◌<◌, ◌≤◌}
use native.Mathlib.Numerals.{add-one}
use lib.Dec.{eqb}
use lib.IntN.{ℤ, negsuc}
use lib.ListN.{length, get_or, set, take, drop, replicate}
use lib.Seq.{take_all, take-suc, drop-cons}
use borrow.Author.Tests.{eq-eqb, ne_eqb}
use Rattle.std.specs.Prelude.{Result, Ok, Err, is_err, IfOk}
use Rattle.std.proofs.lemmas.List.{take-append-drop}
use Rattle.common.specs.Matrix.{Vec}
use Rattle.common.specs.Array.{vector_of, sides_of, matrix_of}
use Rattle.common.specs.Tested.{require, giving, output_of, Tested, Accepted, ◌then◌}
use Rattle.common.specs.declared.Refusal.{Refusal}
use Rattle.common.specs.declared.Refusal.TheVariants.{WrongLength}
use Rattle.common.proofs.Tests.{same-ok, refused-not-ok}
use Rattle.bzgrid.specs.declared.GridType.{GridType}
use Rattle.bztable.specs.declared.rotate.Rotated.{Rotated}
use Rattle.bztable.specs.Reading.{Read, got, list_of, read_each}
use Rattle.bztable.specs.Rotate.{rotate_tests, rotated_at}
use Rattle.bztable.specs.Burst.{place_told, fallback_told, RotatedIndices, each_rotated, burst_tests, burst_in}
use Rattle.bztable.proofs.EachRead.{each_more, each-refused, mapped-more}

-- ---- the walk: f reads each of l, and g tells what was read
module _ {A B : Type 0} (f : A → Read B) (l : List A) where
  -- after i of them
  pub record Filled (g h : B → ℤ) (i : ℕ) (out back : List ℤ) : Type 0 where
    pub states : List B
    pub read : read_each f (take i l) ≡ got states
    pub out_is : take i out ≡ map_list g states
    pub back_is : take i back ≡ map_list h states

  module _ {g h : B → ℤ} {i : ℕ} {out back : List ℤ} (w : Filled g h i out back) (d : A) where
    pub filled-more : i < length l → i < length out → i < length back → {b : B} → f (get_or l i d) ≡ got b → {j k : ℕ} → j ≡ i → k ≡ i → {x y : ℤ} → x ≡ g b → y ≡ h b
        → Filled g h (i + 1) (set out j x) (set back k y)
    filled-more p m n {b} e ej ek ex ey = record {
      states = w.states ++ (b ∷ []);
      read = ap (λ j. read_each f (take j l)) (add-one i) ∙ ap (read_each f) (take-suc l i d p) ∙ each_more f (take i l) (get_or l i d) w.read e;
      out_is = ap₂ (λ j x. take (i + 1) (set out j x)) ej ex ∙ mapped-more g out i w.states b m w.out_is;
      back_is = ap₂ (λ k y. take (i + 1) (set back k y)) ek ey ∙ mapped-more h back i w.states b n w.back_is;
    }

    pub filled-refused : i < length l → {r : Refusal} → f (get_or l i d) ≡ Err r → (t : B → ℤ) → Err r ≡ (read_each f l then λ s. got (map_list t s))
    filled-refused k e t = ap (λ x. x then λ s. got (map_list t s)) (each-refused f (take i l) (get_or l i d) (drop (suc i) l) w.read e ∙ ap (read_each f) whole)
      where
        whole : take i l ++ (get_or l i d ∷ drop (suc i) l) ≡ l
        whole = ap (λ r. take i l ++ r) (sym (drop-cons l i d k)) ∙ take-append-drop i l

  module _ {g h : B → ℤ} {i : ℕ} {out back : List ℤ} (w : Filled g h i out back) (k : length l ≤ i) where
    all-read : read_each f l ≡ got w.states
    all-read = ap (read_each f) (sym (take_all i l k)) ∙ w.read

    pub filled-out : length out ≤ i → got out ≡ (read_each f l then λ s. got (map_list g s))
    filled-out m = ap got (sym (take_all i out m) ∙ w.out_is) ∙ ap (λ x. x then λ s. got (map_list g s)) (sym all-read)

    pub filled-back : length back ≤ i → got back ≡ (read_each f l then λ s. got (map_list h s))
    filled-back m = ap got (sym (take_all i back m) ∙ w.back_is) ∙ ap (λ x. x then λ s. got (map_list h s)) (sym all-read)

-- ---- the call
module _ (k : Result GridType Refusal) (indices : List ℤ) (rotation : List (List ℤ)) (addresses map d ps : List ℤ) where
  abbrev pub each : Read (List Rotated)
  each = each_rotated k indices rotation addresses map d ps

  abbrev reads : GridType → ℤ → Read Rotated
  reads t = rotated_at t (sides_of d) addresses map (matrix_of rotation) (vector_of ps)

  pub each-by : {r : Result GridType Refusal} → r ≡ rotate_tests rotation addresses d ps k → (r then λ t. read_each (reads t) indices) ≡ each
  unfolding each_rotated
  each-by e = ap (λ r. r then λ t. read_each (reads t) indices) e

  -- by the code's names of the grid and of the shift
  pub walked : {t : GridType} → Ok t ≡ rotate_tests rotation addresses d ps k → {g : Vec ℕ} → g ≡ sides_of d → {v : List ℤ} → v ≡ ps
      → read_each (rotated_at t g addresses map (matrix_of rotation) (vector_of v)) indices ≡ each
  walked {t} e eg ev = (λ i. read_each (rotated_at t (eg i) addresses map (matrix_of rotation) (vector_of (ev i))) indices) ∙ each-by e

  -- where the walk gave r and left x
  module _ {B : Type 0} (g : Rotated → B) (r : Tested) (x : List B) (w : giving r x ≡ (each then λ l. got (map_list g l))) where
    pub walk-answer : r ≡ (each then λ _. Accepted)
    walk-answer = go r ∙ ap (λ y. y then λ _. Accepted) w ∙ dropped each
      where
        go : (r : Tested) → r ≡ (giving r x then λ _. Accepted)
        go (Ok _) = refl
        go (Err e) = refl

        dropped : (y : Read (List Rotated)) → ((y then λ l. got (map_list g l)) then λ _. Accepted) ≡ (y then λ _. Accepted)
        dropped (Ok l) = refl
        dropped (Err e) = refl

    pub walk-output : r ≡ Accepted → x ≡ map_list g (list_of each)
    walk-output e = go each (ap (λ r. giving r x) (sym e) ∙ w)
      where
        go : (y : Read (List Rotated)) → got x ≡ (y then λ l. got (map_list g l)) → x ≡ map_list g (list_of y)
        go (Ok l) h = same-ok h
        go (Err e) h = absurd (refused-not-ok (sym h))

  module _ (n m : ℕ) where
    abbrev tests : Tested
    tests = burst_tests k indices rotation addresses map d ps n m

    abbrev fit : Bool
    fit = eqb n (length indices) && eqb m (length indices)

    pub lengths-differ : (n ≡ length indices → ⊥) ⊎ ((n ≡ length indices) × (m ≡ length indices → ⊥)) → Err WrongLength ≡ tests
    unfolding burst_tests
    lengths-differ h = ap (λ b. require b WrongLength (each then λ _. Accepted)) (sym (differ h))
      where
        differ : (n ≡ length indices → ⊥) ⊎ ((n ≡ length indices) × (m ≡ length indices → ⊥)) → fit ≡ false
        differ (inl h) = ap (λ t. t && eqb m (length indices)) (ne_eqb n (length indices) h)
        differ (inr h) = ap₂ ◌&&◌ (eq-eqb n (length indices) h.0) (ne_eqb m (length indices) h.1)

    pub lengths-fit : n ≡ length indices → m ≡ length indices → (each then λ _. Accepted) ≡ tests
    unfolding burst_tests
    lengths-fit e f = ap (λ b. require b WrongLength (each then λ _. Accepted)) (sym (ap₂ ◌&&◌ (eq-eqb n (length indices) e) (eq-eqb m (length indices) f)))

    abbrev outcome : Tested → RotatedIndices
    outcome s = record { answer = s; out = output_of s n (map_list place_told (list_of each)); fallbacks = output_of s m (map_list fallback_told (list_of each)) }

    module _ {out fallbacks : List ℤ} where
      pub told-if : (r : Tested) → r ≡ tests → (r ≡ Accepted → out ≡ map_list place_told (list_of each)) → (r ≡ Accepted → fallbacks ≡ map_list fallback_told (list_of each))
          → IfOk r (λ _. record { answer = Accepted; out = out; fallbacks = fallbacks } ≡ burst_in k indices rotation addresses map d ps n m)
      unfolding burst_in
      told-if (Ok _) e f g = (λ i. record { answer = Accepted; out = f refl i; fallbacks = g refl i }) ∙ ap outcome e
      told-if (Err r) e f g = tt

      pub refused : (r : Tested) → is_err r ≡ true → r ≡ tests → out ≡ replicate n (negsuc 0) → fallbacks ≡ replicate m (negsuc 0)
          → record { answer = r; out = out; fallbacks = fallbacks } ≡ burst_in k indices rotation addresses map d ps n m
      unfolding burst_in
      refused (Ok _) h e f g = absurd (true≢false (sym h))
      refused (Err r) h e f g = (λ i. record { answer = Err r; out = f i; fallbacks = g i }) ∙ ap outcome e
