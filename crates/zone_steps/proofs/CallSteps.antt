-- The outcome of a step of the chain, from those of its calls. A front part of n places of a list l, lent to a call, is `take (n - 0) l`.
use mathlib.Core.Path.{◌≡◌, refl, sym, ◌∙◌, ap, ap₂, subst}
use mathlib.Core.Bool.{Bool, true}
use mathlib.Core.List.{List, ◌++◌}
use Prim.Native.Nat.{ℕ, ◌*◌, ◌-◌, ◌≤◌}
use native.Mathlib.Omega.{arith}
use lib.IntN.{ℤ}
use lib.Ieee.{Float}
use lib.ListN.{length, take, drop}
use lib.Seq.{length-take-le, take_at}
use Rattle.std.specs.Prelude.{Result, Ok, Err}
use Rattle.common.specs.Array.{matrices}
use Rattle.common.specs.declared.Refusal.{Refusal}
use Rattle.common.proofs.Reading.{length-flat}
use Rattle.common.specs.Tested.{after, Tested, without_value}
use Rattle.grgrid.specs.Own.{own_places}
use Rattle.recip_rotations.specs.PointGroup.{count_of, point_group, get_reciprocal_point_group}
use Rattle.recip_rotations.proofs.Room.{count_small}
use Rattle.rotation_group.specs.ReciprocalGroup.{reciprocal_group}
use Rattle.rotation_group.proofs.Outcome.{tests-accepted, tests-refused, same_answer, same-written}
use Rattle.transform_rotations.specs.TransformRotations.{transform_tests, transform_rotations}
use Rattle.bzgrid.specs.declared.TableRecord.{TableRecord}
use Rattle.bzgrid.specs.BzGridAddresses.{grid_type_of}
use Rattle.triplet_grid.specs.IrTriplets.{ir_triplets_at_q}
use Rattle.bz_triplets.specs.BzTriplets.{bz_triplets_at_q}
use Rattle.zone_steps.specs.Steps.{Setting, group, transformed, rotation_tests, start_of, points_of, classified, class_map_of, count, chosen}
use Rattle.zone_steps.specs.StepsView.{numbered, in_front}
use Rattle.recip_rotations.proofs.ToldPart.{told-count, told_part}

pub front_length : {A : Type 0} (n : ℕ) (l : List A) → n ≤ length l → length (take (n - 0) l) ≡ n
front_length n l h = length-take-le (n - 0) l (omega arith) ∙ whole n
  where
    whole : (n : ℕ) → n - 0 ≡ n
    whole n = omega arith

front-drop : {A : Type 0} (n : ℕ) (l : List A) → drop (n - 0) l ≡ drop n l
front-drop n l = ap (λ k. drop k l) whole
  where
    whole : n - 0 ≡ n
    whole = omega arith

-- ---- the rotations in the basis of the grid
module _ (list : List ℤ) (time : Bool) {a : Result ℕ Refusal} {g : List ℤ} (e : record { answer = a; out = g } ≡ reciprocal_group list time 432) where
  module _ {n : ℕ} (f : a ≡ Ok n) where
    accepted : (reciprocal_group list time 432).answer ≡ Ok n
    accepted = sym (ap (λ o. o.answer) e) ∙ f

    call : (get_reciprocal_point_group list time true 432).answer ≡ Ok n
    call = same_answer list time 432 accepted

    pub few-rotations : n * 9 ≤ 432
    few-rotations = let h : n ≤ 48 = rw (ap count_of call) at (count_small list time true 432) in omega arith

    told-group : take (n * 9 - 0) g ≡ group list time
    unfolding group
    told-group = ap₂ take whole (ap (λ o. o.out) e ∙ same-written list time 432 accepted) ∙ told_part list time true 432 n call
      where
        whole : n * 9 - 0 ≡ n * 9
        whole = omega arith

    told-length : length (group list time) ≡ n * 9
    unfolding group
    told-length = length-flat (point_group (matrices list) time true) ∙ ap (λ k. k * 9) (sym (told-count list time true 432 n call).1)

    -- what the transforming call leaves in the front of out
    module _ (d : List ℤ) (q : List (List ℤ)) (out : List ℤ) (room : length out ≡ 432) where
      abbrev places : ℕ
      places = length (take (n * 9 - 0) out)

      places-are : places ≡ length (group list time)
      places-are = front_length (n * 9) out (subst (λ m. n * 9 ≤ m) (sym room) few-rotations) ∙ sym told-length

      module _ {t : Tested} {x : List ℤ} (o : record { answer = t; out = x } ≡ transform_rotations (take (n * 9 - 0) g) d q places) where
        turned : record { answer = t; out = x } ≡ transform_rotations (group list time) d q (length (group list time))
        turned = o ∙ ap₂ (λ l m. transform_rotations l d q m) told-group places-are

        pub turned-tested : without_value t ≡ rotation_tests list time d q
        unfolding rotation_tests transform_rotations
        turned-tested =
            let tests = transform_tests (group list time) d q (length (group list time)) in
            ap (λ o. without_value o.answer) turned ∙ again tests ∙ sym (ap (λ t. after t tests) (tests-accepted list time 432 accepted))
          where
            again : (t : Tested) → without_value t ≡ t
            again (Ok _) = refl
            again (Err r) = refl

        pub turned-list : length x ≡ places → (rest : List ℤ) → take (n * 9) (x ++ rest) ≡ transformed list time d q
        unfolding transformed
        turned-list m rest = take_at x rest (n * 9) (m ∙ places-are ∙ told-length) ∙ ap (λ o. o.out) turned

  pub turned-refused : {r : Refusal} → a ≡ Err r → (d : List ℤ) (q : List (List ℤ)) → Err r ≡ rotation_tests list time d q
  unfolding rotation_tests
  turned-refused f d q = sym (ap (λ t. after t (transform_tests (group list time) d q (length (group list time)))) (tests-refused list time 432 (sym f ∙ ap (λ o. o.answer) e)))

module _ (g : Setting) where
  -- ---- classes, in the front of two outputs
  module _ {n : ℕ} (en : n ≡ points_of g) (classes points : List ℤ) (room : (n ≤ length classes) × (n ≤ length points)) where
    pub classes-numbered : {i : ℤ} {r : Result ℤ Refusal} {x y : List ℤ} {v : Tested} → i ≡ g.q0
        → record { answer = r; map_triplets = x; map_q = y } ≡ ir_triplets_at_q i g.d g.rotations g.time_reversal g.swappable (length (take (n - 0) classes)) (length (take (n - 0) points))
        → v ≡ without_value r → record { answer = v; classes = x ++ drop (n - 0) classes; points = y ++ drop (n - 0) points } ≡ numbered (classified g) n classes points
    unfolding classified
    classes-numbered ei e ev =
        let m = front_length n classes room.0 ∙ en in
        let k = front_length n points room.1 ∙ en in
        let o = e ∙ (λ j. ir_triplets_at_q (ei j) g.d g.rotations g.time_reversal g.swappable (m j) (k j)) in
        λ j. record {
          answer = (ev ∙ ap (λ o. without_value o.answer) o) j;
          classes = (o j).map_triplets ++ front-drop n classes j;
          points = (o j).map_q ++ front-drop n points j;
        }

  -- ---- triplets, in the front of four outputs
  module _ (addresses map : List ℤ) (table : TableRecord) {start : ℤ} {classes : List ℤ} (es : start ≡ start_of (grid_type_of g.type) map g.q0) (ec : classes ≡ class_map_of g)
      (triplets left : List ℤ) (lengths : List Float) (cells : List ℤ)
      (room : (length classes * 3 ≤ length triplets) × (length classes ≤ length left) × (length classes ≤ length lengths) × (length classes * 3 ≤ length cells)) where
    pub triplets-chosen : {k : ℕ} → k ≡ own_places classes (length classes) → k ≤ length classes → {i u : ℤ} {r : Tested} {x y : List ℤ} {z : List Float} {w : List ℤ} → i ≡ start → u ≡ g.type
        → record { answer = r; out = x; left = y; left_length = z; cells = w } ≡ bz_triplets_at_q i addresses map table classes g.d g.q g.lattice u (length (take (k * 3 - 0) triplets)) (length (take (k - 0) left)) (length (take (k - 0) lengths)) (length (take (k * 3 - 0) cells))
        → record { answer = r; out = x ++ drop (k * 3 - 0) triplets; left = y ++ drop (k - 0) left; left_length = z ++ drop (k - 0) lengths; cells = w ++ drop (k * 3 - 0) cells } ≡ in_front (chosen g addresses map table) (count g) triplets left lengths cells
    unfolding chosen
    triplets-chosen {k} own few ei eu e =
        let ek : k ≡ count g = own ∙ ap (λ l. own_places l (length l)) ec in
        let a = front_length (k * 3) triplets (omega arith) ∙ ap (λ k. k * 3) ek in
        let b = front_length k left (omega arith) ∙ ek in
        let c = front_length k lengths (omega arith) ∙ ek in
        let d = front_length (k * 3) cells (omega arith) ∙ ap (λ k. k * 3) ek in
        let o = e ∙ (λ j. bz_triplets_at_q ((ei ∙ es) j) addresses map table (ec j) g.d g.q g.lattice (eu j) (a j) (b j) (c j) (d j)) in
        λ j. record {
          answer = (o j).answer;
          out = (o j).out ++ (front-drop (k * 3) triplets ∙ ap (λ k. drop (k * 3) triplets) ek) j;
          left = (o j).left ++ (front-drop k left ∙ ap (λ k. drop k left) ek) j;
          left_length = (o j).left_length ++ (front-drop k lengths ∙ ap (λ k. drop k lengths) ek) j;
          cells = (o j).cells ++ (front-drop (k * 3) cells ∙ ap (λ k. drop (k * 3) cells) ek) j;
        }
