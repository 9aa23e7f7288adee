-- The numbers in an accepted chain's list, whatever the list of rotations: each class number is a point, and each image index lies in the tables.
use mathlib.Core.Path.{◌≡◌, refl, sym, ◌∙◌, ap, subst}
use mathlib.Core.List.{List, ◌++◌}
use Prim.Native.Nat.{ℕ, zero, suc, ◌+◌, ◌*◌, ◌/◌, ◌%◌, ◌<◌}
use native.Mathlib.Omega.{arith}
use lib.IntN.{ℤ, pos, nat_abs}
use lib.ListN.{length, get_or, take}
use lib.Seq.{take_at}
use Rattle.common.specs.Matrix.{Axis, X, Y, Z, Vec, side, map_vec}
use Rattle.common.specs.Array.{matrix_of, items, rows, sides_of}
use Rattle.common.specs.Tested.{after, Tested, Accepted, without_value}
use Rattle.common.specs.declared.Refusal.TheVariants.{WrongLength}
use Rattle.common.proofs.Tests.{passed, not-accepted, both-accepted}
use Rattle.grgrid.specs.Grid.{size}
use Rattle.grgrid.specs.Own.{own_places}
use Rattle.grgrid.proofs.Lists.{item_in}
use Rattle.bztable.specs.Reading.{triple_at}
use Rattle.grgrid.proofs.Own.{length-own, own-points}
use Rattle.snf3x3.specs.Snf3x3.{Answer, refused, diagonalised, snf3x3}
use Rattle.snf3x3.specs.Written.{written}
use Rattle.zone_steps.specs.Steps.{Rooms, Setting, Lists, transformed, rotation_tests, count, listed, lists_of}
use Rattle.zone_steps.specs.StepsView.{grid}
use Rattle.demand3.specs.FinishedList.{Calls, points, lowest_points}
use Rattle.zone.specs.Chain.{Job, rooms_agree, sides_in, change_in, diagonal, outcome_of, grid_of, chain_finished, chain_tests, finished_list}
use Rattle.demand3.proofs.FinishedClasses.{every-number, number-low}
use Rattle.demand3.proofs.FinishedTriplets.{finished-triplets, best-inside, images-room}
use Rattle.zone.proofs.ChainFinished.{calls, calls-left}

-- every number of a list is natural and below m
abbrev pub Below : ℕ → List ℤ → Type 0
Below m l = (i : ℕ) → i < length l → (n : ℕ) × (get_or l i (pos 0) ≡ pos n) × (n < m)

-- of a list of triplets
triples-below : (l : List ℤ) (m n : ℕ) → length l ≡ n * 3 → ((j : ℕ) → j < n → (i : Vec ℕ) × (triple_at l j ≡ map_vec pos i) × ((k : Axis) → side i k < m)) → Below m l
triples-below l m n e h t b = by (t % 3) refl
  where
    found : (i : Vec ℕ) × (triple_at l (t / 3) ≡ map_vec pos i) × ((k : Axis) → side i k < m)
    found = h (t / 3) (omega arith)

    at : (p : ℕ) → p ≡ t → (k : Axis) → get_or l p (pos 0) ≡ pos (side found.0 k) → (n : ℕ) × (get_or l t (pos 0) ≡ pos n) × (n < m)
    at p f k g = (side found.0 k, ap (λ p. get_or l p (pos 0)) (sym f) ∙ g, found.2 k)

    by : (r : ℕ) → t % 3 ≡ r → (n : ℕ) × (get_or l t (pos 0) ≡ pos n) × (n < m)
    by zero f = at (3 * (t / 3)) (omega arith) X (ap (λ v. v.x) found.1)
    by (suc zero) f = at (3 * (t / 3) + 1) (omega arith) Y (ap (λ v. v.y) found.1)
    by (suc (suc zero)) f = at (3 * (t / 3) + 2) (omega arith) Z (ap (λ v. v.z) found.1)
    by (suc (suc (suc r))) f = absurd (omega arith)

module _ (c : Calls) where
  classes-below : Below (points c) c.classes
  classes-below p h =
      let inside : p < points c = subst (λ n. p < n) (every-number c) h in
      let r = number-low c p inside in
      (r.0, r.1, omega (arith, r.2))

  triplets-below : Below c.rooms.z c.triplets
  triplets-below =
      let t = finished-triplets c (every-number c) in
      triples-below c.triplets c.rooms.z (length (lowest_points c)) t.0
      (λ j h. let b = t.2 j h in (b.0, b.1, λ k. omega (arith, best-inside c (get_or (lowest_points c) j 0) (inside j h) b.2 k, images-room c)))
    where
      inside : (j : ℕ) → j < length (lowest_points c) → get_or (lowest_points c) j 0 < points c
      inside j h =
          let q1 = get_or (lowest_points c) j 0 in
          subst (λ n. q1 < n) (every-number c) ((own-points c.classes (length c.classes) q1).0 (item_in 0 (lowest_points c) j h)).0

-- ---- the chain: three sides d, k classes, and the class map and the triplets of its calls in the front of its lists, whose image indices lie below m
pub record Told (d : List ℤ) (k : ℕ) (l : Lists) (m : ℕ) : Type 0 where
  pub calls : Calls
  pub three-sides : length d ≡ 3
  pub points-are : points calls ≡ size (sides_of d)
  pub count-is : own_places calls.classes (length calls.classes) ≡ k
  pub room-is : calls.rooms.z ≡ m
  pub classes-are : take (size (sides_of d)) l.classes ≡ calls.classes
  pub triplets-are : take (k * 3) l.triplets ≡ calls.triplets

-- so a class number is a point and an image index lies below m
pub record Numbers (d : List ℤ) (k : ℕ) (l : Lists) (m : ℕ) : Type 0 where
  pub three-sides : length d ≡ 3
  pub classes-listed : Below (size (sides_of d)) (take (size (sides_of d)) l.classes)
  pub triplets-listed : Below m (take (k * 3) l.triplets)

numbers-of : {d : List ℤ} {k : ℕ} {l : Lists} {m : ℕ} → Told d k l m → Numbers d k l m
numbers-of {d} {k} {l} t = record {
  three-sides = t.three-sides;
  classes-listed = subst (λ n. Below n (take (size (sides_of d)) l.classes)) t.points-are (subst (Below (points t.calls)) (sym t.classes-are) (classes-below t.calls));
  triplets-listed = subst (λ m. Below m (take (k * 3) l.triplets)) t.room-is (subst (Below t.calls.rooms.z) (sym t.triplets-are) (triplets-below t.calls));
}

-- a list in front of others
front : {n : ℕ} {l x : List ℤ} (y : List ℤ) → l ≡ x → length l ≡ n → take n (x ++ y) ≡ l
front {n} {l} {x} y e f = take_at x y n (ap length (sym e) ∙ f) ∙ sym e

module _ (j : Job) (r : Rooms) where
  abbrev grid_by : Answer → Setting
  grid_by w =
      let d = (sides_in (written w)) in
      let q = change_in (written w) in
      grid d q (transformed j.rotations j.time_reversal d q) j.lattice j.time_reversal j.swappable j.type j.q0

  abbrev tests_by : Answer → Tested
  tests_by w =
      after (without_value (written w))
      (after (rotation_tests j.rotations j.time_reversal (sides_in (written w)) (change_in (written w))) (listed (grid_by w) j.shift r).answer)

  told-by : (w : Answer) → snf3x3 (matrix_of j.matrix) ≡ w → tests_by w ≡ Accepted → Told (sides_in (written w)) (count (grid_by w)) (listed (grid_by w) j.shift r).lists r.grg
  unfolding listed lists_of
  told-by (refused c) f e = absurd (not-accepted e)
  told-by (diagonalised d p q n) f e =
      let w = diagonalised d p q n in
      let b = both-accepted (rotation_tests j.rotations j.time_reversal (items d) (rows q)) (listed (grid_by w) j.shift r).answer e in
      let c = calls j r d p q n f b.0 b.1 in
      let l = calls-left j r d p q n f b.0 b.1 in
      let sides : points c ≡ size (sides_of (items d)) = ap (λ d. size (sides_of (items d))) l.sides-are in
      let own : own_places c.classes (length c.classes) ≡ count (grid_by w) = ap (λ x. own_places x (length x)) l.classes-are in
      record {
        calls = c;
        three-sides = refl;
        points-are = sides;
        count-is = own;
        room-is = l.room-is;
        classes-are = front _ l.classes-are (every-number c ∙ sides);
        triplets-are = front _ l.triplets-are ((finished-triplets c (every-number c)).0 ∙ ap (λ k. k * 3) (length-own c.classes (length c.classes) ∙ own));
      }

  module _ (e : chain_tests j r ≡ Accepted) where
    pub chain-told : Told (chain_finished j).d (nat_abs (chain_finished j).num_ir) (finished_list j r).lists r.grg
    unfolding finished_list diagonal
    chain-told =
        subst (λ t. Told (chain_finished j).d (nat_abs (chain_finished j).num_ir) (outcome_of t (chain_finished j) r (listed (grid_of j) j.shift r)).lists r.grg) (sym e)
        (told-by (snf3x3 (matrix_of j.matrix)) refl (passed (rooms_agree r) WrongLength _ e).1)

    pub chain-numbers : Numbers (chain_finished j).d (nat_abs (chain_finished j).num_ir) (finished_list j r).lists r.grg
    chain-numbers = numbers-of chain-told
