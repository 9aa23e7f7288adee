-- The outcome of the chain, from those of its steps.
use mathlib.Core.Path.{◌≡◌, refl, sym, ◌∙◌, ap, ap₂}
use mathlib.Core.Bool.{true, false, ◌&&◌}
use mathlib.Core.List.{List, ◌++◌}
use Prim.Native.Nat.{ℕ, zero, suc, ◌+◌, ◌*◌, ◌-◌, ◌≤◌}
use native.Mathlib.Nat.{le_of_lt, le_refl}
use native.Mathlib.Omega.{arith}
use lib.Dec.{eqb}
use lib.IntN.{ℤ, pos, negsuc}
use lib.ListN.{length, get_or, replicate, length-append, length-replicate, get_or-replicate, get_or-append}
use lib.Seq.{get_or-append-add}
use borrow.Author.Tests.{eqb-true}
use Rattle.std.specs.Prelude.{⊤, Result, Ok, Err, is_err}
use Rattle.integer.proofs.Test.{holds, and_l, and_r, is_true}
use Rattle.common.specs.Array.{matrix_at, matrix_of, rows}
use Rattle.common.specs.Tested.{require, after, Tested, Accepted, without_value}
use Rattle.common.specs.declared.Refusal.{Refusal}
use Rattle.common.specs.declared.Refusal.TheVariants.{WrongLength}
use Rattle.grgrid.specs.Own.{is_place, own_places}
use Rattle.snf3x3.specs.declared.Snf.{Snf}
use Rattle.snf3x3.specs.Snf3x3.{snf3x3}
use Rattle.snf3x3.specs.Written.{written}
use Rattle.zone.specs.declared.Finished.{Finished}
use Rattle.zone_steps.specs.Steps.{Rooms, Setting, Lists, Outcome, transformed, rotation_tests, class_map_of, count, lists_of, listed}
use Rattle.zone.specs.Chain.{Job, rooms_agree, sides_in, change_in, diagonal, diagonal_tests, sides, change, wiped, outcome_of, grid_of, chain_finished, chain_tests, finished_list}
use Rattle.zone_steps.specs.StepsView.{grid, Agreed}
use Rattle.zone.proofs.Outcomes.{no-refusal, leaving, answer-by, tests-told, left-wiped}

-- ---- -1 is no place
abbrev counted-on : ℕ → ℤ → ℕ → ℕ
counted-on n z r = elim (is_place z n) [ true ↦ suc r | false ↦ r ]

own-front : (l x : List ℤ) (n : ℕ) → n ≤ length l → own_places (l ++ x) n ≡ own_places l n
own-front l x zero h = refl
own-front l x (suc n) h = ap₂ (counted-on n) (get_or-append l x (pos 0) n h) (own-front l x n (le_of_lt h))

own-blank : (l : List ℤ) (k j : ℕ) → j ≤ k → own_places (l ++ replicate k (negsuc 0)) (length l + j) ≡ own_places l (length l)
own-blank l k zero h = ap (own_places (l ++ replicate k (negsuc 0))) whole ∙ own-front l (replicate k (negsuc 0)) (length l) (le_refl (length l))
  where
    whole : length l + 0 ≡ length l
    whole = omega arith
own-blank l k (suc j) h = ap (own_places (l ++ replicate k (negsuc 0))) next ∙ ap (λ z. counted-on (length l + j) z before) blank ∙ own-blank l k j (le_of_lt h)
  where
    next : length l + suc j ≡ suc (length l + j)
    next = omega arith

    before : ℕ
    before = own_places (l ++ replicate k (negsuc 0)) (length l + j)

    blank : get_or (l ++ replicate k (negsuc 0)) (length l + j) (pos 0) ≡ negsuc 0
    blank = get_or-append-add l (replicate k (negsuc 0)) j (pos 0) ∙ get_or-replicate k j (negsuc 0) (pos 0) h

own-padded : (l : List ℤ) (k : ℕ) → own_places (l ++ replicate k (negsuc 0)) (length (l ++ replicate k (negsuc 0))) ≡ own_places l (length l)
own-padded l k = ap (own_places (l ++ replicate k (negsuc 0))) (length-append l (replicate k (negsuc 0)) ∙ ap (λ n. length l + n) (length-replicate k (negsuc 0))) ∙ own-blank l k k (le_refl k)

pub rooms-agreed : (r : Rooms) → rooms_agree r ≡ true → Agreed r.classes r.points r.triplets r.left r.lengths r.cells
rooms-agreed r e =
    let p = eqb r.points r.classes in
    let t = eqb r.triplets (r.classes * 3) in
    let l = eqb r.left r.classes in
    let f = eqb r.lengths r.classes in
    let c = eqb r.cells (r.classes * 3) in
    let h = holds e in
    let i = and_r p (t && (l && (f && c))) h in
    let k = and_r t (l && (f && c)) i in
    let n = and_r l (f && c) k in
    record {
      points-agree = eqb-true r.points r.classes (is_true p (and_l p (t && (l && (f && c))) h));
      triplets-agree = eqb-true r.triplets (r.classes * 3) (is_true t (and_l t (l && (f && c)) i));
      left-agree = eqb-true r.left r.classes (is_true l (and_l l (f && c) k));
      lengths-agree = eqb-true r.lengths r.classes (is_true f (and_l f c n));
      cells-agree = eqb-true r.cells (r.classes * 3) (is_true c (and_r f c n));
    }

module _ (j : Job) (r : Rooms) where
  abbrev gridded : Tested
  gridded = after (rotation_tests j.rotations j.time_reversal (sides j.matrix) (change j.matrix)) (listed (grid_of j) j.shift r).answer

  -- ---- the refusals
  answered : {x : Refusal} → Err x ≡ chain_tests j r → Err x ≡ (finished_list j r).answer
  unfolding finished_list
  answered e = ap (λ t. (outcome_of t (chain_finished j) r (listed (grid_of j) j.shift r)).answer) e

  pub rooms-refused : rooms_agree r ≡ false → Err WrongLength ≡ (finished_list j r).answer
  unfolding chain_tests
  rooms-refused h = answered (sym (ap (λ b. require b WrongLength (after (diagonal_tests j.matrix) gridded)) h))

  module _ (h : rooms_agree r ≡ true) {s : Result Snf Refusal} (es : s ≡ written (snf3x3 (matrix_of j.matrix))) where
    diagonal-is : s ≡ diagonal j.matrix
    unfolding diagonal
    diagonal-is = es

    tests-are : {t : Tested} → without_value s ≡ t → after t gridded ≡ chain_tests j r
    unfolding chain_tests
    tests-are e =
        sym (ap (λ t. after t gridded) (sym (ap without_value diagonal-is) ∙ e))
        ∙ sym (ap (λ b. require b WrongLength (after (diagonal_tests j.matrix) gridded)) h)

    pub diagonal-refused : {x : Refusal} → s ≡ Err x → Err x ≡ (finished_list j r).answer
    diagonal-refused e = answered (tests-are (ap without_value e))

    -- ---- the grid, by what stands for its change of basis, type and q0
    module _ {w : Snf} (f : s ≡ Ok w) {q : List (List ℤ)} (eq : q ≡ rows (matrix_at w.q 0)) {u p : ℤ} (eu : u ≡ j.type) (ep : p ≡ j.q0) where
      abbrev given : (d : List ℤ) → List (List ℤ) → ℤ → ℤ → Setting
      given d q u p = grid d q (transformed j.rotations j.time_reversal d q) j.lattice j.time_reversal j.swappable u p

      side-path : w.d_diag ≡ sides j.matrix
      side-path = sym (ap sides_in f) ∙ ap sides_in diagonal-is

      change-path : q ≡ change j.matrix
      change-path = eq ∙ sym (ap change_in f) ∙ ap change_in diagonal-is

      meant : given (sides j.matrix) (change j.matrix) j.type j.q0 ≡ grid_of j
      unfolding grid_of
      meant = refl

      grid-path : given w.d_diag q u p ≡ grid_of j
      grid-path = (λ i. given (side-path i) (change-path i) (eu i) (ep i)) ∙ meant

      module _ {v : Tested} (ev : v ≡ after (rotation_tests j.rotations j.time_reversal w.d_diag q) (listed (given w.d_diag q u p) j.shift r).answer) where
        tested : v ≡ chain_tests j r
        tested = ev ∙ (λ i. after (rotation_tests j.rotations j.time_reversal (side-path i) (change-path i)) (listed (grid-path i) j.shift r).answer) ∙ tests-are (ap without_value f)

        pub grid-refused : {x : Refusal} → v ≡ Err x → Err x ≡ (finished_list j r).answer
        grid-refused n = answered (sym n ∙ tested)

        module _ (n : v ≡ Accepted) {a b c : List ℤ} {l : Lists} (o : leaving Accepted a b c l ≡ listed (given w.d_diag q u p) j.shift r) where
          left : leaving Accepted a b c l ≡ listed (grid_of j) j.shift r
          left = o ∙ ap (λ g. listed g j.shift r) grid-path

          counted : own_places l.classes (length l.classes) ≡ count (grid_of j)
          unfolding listed lists_of
          counted = ap (λ o. own_places o.lists.classes (length o.lists.classes)) left ∙ own-padded (class_map_of (grid_of j)) (r.classes - length (class_map_of (grid_of j)))

          pub chain-given : (k : ℤ) → k ≡ pos (own_places l.classes (length l.classes)) → leaving (Ok (record { d = w.d_diag; num_ir = k })) a b c l ≡ finished_list j r
          unfolding chain_finished finished_list
          chain-given k e = λ i. outcome_of ((sym n ∙ tested) i) (record { d = side-path i; num_ir = (e ∙ ap pos counted) i }) r (left i)

  -- ---- by the answer
  module _ {f : Result Finished Refusal} (e : f ≡ (finished_list j r).answer) where
    abbrev tables : Outcome ⊤
    tables = listed (grid_of j) j.shift r

    pub passed-tests : is_err f ≡ false → chain_tests j r ≡ Accepted
    unfolding finished_list
    passed-tests h = sym (ap without_value e ∙ tests-told (chain_finished j) r tables (chain_tests j r)) ∙ no-refusal f h

    pub chain-wiped : is_err f ≡ true → {x y z : List ℤ} {l : Lists} → x ≡ replicate r.addresses (negsuc 0) → y ≡ replicate r.map (negsuc 0) → z ≡ replicate r.grg (negsuc 0) → l ≡ wiped r
        → leaving f x y z l ≡ finished_list j r
    unfolding finished_list
    chain-wiped = left-wiped (chain_finished j) r tables (chain_tests j r) (e ∙ answer-by (chain_finished j) r tables (chain_tests j r))
