-- The walk over a class map: the triplets of the classes that it has passed stand in the front of the three outputs.
use mathlib.Core.Path.{◌≡◌, refl, sym, ◌∙◌, ap, ap₂}
use mathlib.Core.Logic.{⊎_elim}
use mathlib.Core.Bool.{true, false, cond}
use mathlib.Core.List.{List, [], ◌∷◌, ◌++◌, append-nil, append_assoc}
use Prim.Native.Nat.{ℕ, zero, suc, ◌+◌, ◌*◌, ◌<◌, ◌≤◌}
use native.Mathlib.Nat.{le_of_suc-le-suc, not-suc-le-zero, eq-or-lt_of_le}
use native.Mathlib.Numerals.{add-one, add-two}
use native.Mathlib.Omega.{arith}
use lib.IntN.{ℤ, pos, negsuc}
use lib.Ieee.{Float}
use lib.ListN.{length, get_or, set, take, drop, length-append, length-drop, length-set}
use lib.Seq.{length-take-le, take_all, sets-eq}
use Rattle.std.specs.Prelude.{Err}
use Rattle.common.specs.declared.Refusal.{Refusal}
use Rattle.common.specs.Matrix.{Vec}
use Rattle.grgrid.specs.Own.{is_place, own_places, own_points}
use Rattle.grgrid.proofs.Numbers.{own-more, own_same}
use Rattle.grgrid.proofs.Own.{own-rises, points_more, points_same}
use Rattle.common.specs.Tested.{◌then◌}
use Rattle.bztable.specs.Reading.{Read, got, read_each}
use Rattle.bztable.proofs.EachRead.{each_more, each-refused, taken, mapped-more}
use Rattle.bz_triplets.specs.declared.choices.Step.{Step}
use Rattle.bz_triplets.specs.declared.choices.Step.TheVariants as step
use Rattle.bz_triplets.specs.declared.choices.Triplet.{Triplet}
use Rattle.bz_triplets.specs.Choosing.{start, left, closed}
use Rattle.bz_triplets.specs.BzTriplets.{State, places_of, cells_of, mark_of, length_of, by_threes, triplet_list, cell_list, marks, lengths}
use Rattle.bz_triplets.specs.Code.TripletsView.{found_by, summed, state_of, step_place, RoomFor}

-- ---- the three places of a triplet, one after the other
pub places-stored : (t : Triplet) (at : ℕ) (out : List ℤ) → at + 3 ≤ length out → {a b c : ℤ} → a ≡ step_place t.step t.choice.x.at → b ≡ step_place t.step t.choice.y.at → c ≡ step_place t.step t.choice.z.at
    → (last : ℕ) → last ≡ at + 2 → set (set (set out at a) (at + 1) b) last c ≡ take at out ++ (places_of (state_of t) ++ drop (at + 3) out)
places-stored t at out h ea eb ec last el = (λ i. set (set (set out at (ea i)) (add-one at i) (eb i)) ((el ∙ add-two at) i) (ec i)) ∙ go t.step
  where
    stored : (x y z : ℤ) → set (set (set out at x) (suc at) y) (suc (suc at)) z ≡ take at out ++ ((x ∷ y ∷ z ∷ []) ++ drop (at + 3) out)
    stored x y z = sets-eq (x ∷ y ∷ z ∷ []) out at h ∙ append_assoc (take at out) (x ∷ y ∷ z ∷ []) (drop (at + 3) out)

    go : (s : Step) → set (set (set out at (step_place s t.choice.x.at)) (suc at) (step_place s t.choice.y.at)) (suc (suc at)) (step_place s t.choice.z.at) ≡ take at out ++ (places_of (found_by s (summed t)) ++ drop (at + 3) out)
    go step.Empty = stored (negsuc 0) (negsuc 0) (negsuc 0)
    go (step.Left x) = stored (pos t.choice.x.at) (pos t.choice.y.at) (pos t.choice.z.at)
    go step.Closed = stored (pos t.choice.x.at) (pos t.choice.y.at) (pos t.choice.z.at)

pub length-places : (s : State) → length (places_of s) ≡ 3
length-places start = refl
length-places (left x c) = refl
length-places (closed c) = refl

pub length-cells : (d : Vec ℕ) (s : State) → length (cells_of d s) ≡ 3
length-cells d start = refl
length-cells d (left x c) = refl
length-cells d (closed c) = refl

-- ---- three numbers of each: what f tells of state s goes to the places of triplet `at`
module _ (f : State → List ℤ) (three : (s : State) → length (f s) ≡ 3) where
  threes-more : (r : List State) (s : State) → by_threes f (r ++ (s ∷ [])) ≡ by_threes f r ++ f s
  threes-more [] s = append-nil (f s)
  threes-more (t ∷ r) s = ap (λ l. f t ++ l) (threes-more r s) ∙ sym (append_assoc (f t) (by_threes f r) (f s))

  abbrev put : State → ℕ → List ℤ → List ℤ
  put s at out = take (at * 3) out ++ (f s ++ drop (at * 3 + 3) out)

  module _ (s : State) (at : ℕ) (out : List ℤ) (room : at * 3 + 3 ≤ length out) where
    put-more : (states : List State) → take (at * 3) out ≡ by_threes f states → take ((at + 1) * 3) (put s at out) ≡ by_threes f (states ++ (s ∷ []))
    put-more states e =
        ap (λ n. take n (put s at out)) (third (three s))
        ∙ taken out (f s) (drop (at * 3 + 3) out) (at * 3) (omega (arith, room)) ∙ ap (λ l. l ++ f s) e ∙ sym (threes-more states s)
      where
        third : {n : ℕ} → n ≡ 3 → (at + 1) * 3 ≡ at * 3 + n
        third r = omega arith

    put-length : length (put s at out) ≡ length out
    put-length =
        length-append (take (at * 3) out) (f s ++ drop (at * 3 + 3) out)
        ∙ ap₂ ◌+◌ (length-take-le (at * 3) out (omega (arith, room))) (length-append (f s) (drop (at * 3 + 3) out))
        ∙ omega (arith, three s, length-drop (at * 3 + 3) out, room)

pub same-room : {classes : List ℤ} {n m l c n' m' l' c' : ℕ} → RoomFor classes n m l c → RoomFor classes n' m' l' c' → (n ≡ n') × (m ≡ m') × (l ≡ l') × (c ≡ c')
same-room a b = (a.triplets ∙ sym b.triplets, a.left ∙ sym b.left, a.lengths ∙ sym b.lengths, a.cells ∙ sym b.cells)

-- ---- f reads the triplet of a class; those of the first q points stand in the first `at` places
pub record Filled (f : ℕ → Read State) (d : Vec ℕ) (classes : List ℤ) (q at : ℕ) (out marked : List ℤ) (measured : List Float) (celled : List ℤ) : Type 0 where
  pub states : List State
  pub read : read_each f (own_points classes q) ≡ got states
  pub count : at ≡ own_places classes q
  pub places : take (at * 3) out ≡ triplet_list states
  pub marks : take at marked ≡ marks states
  pub lengths : take at measured ≡ lengths states
  pub cells : take (at * 3) celled ≡ by_threes (cells_of d) states
  pub room : RoomFor classes (length out) (length marked) (length measured) (length celled)

-- of outputs that are told by equations
pub filled-as : {f : ℕ → Read State} {g : Vec ℕ} {classes : List ℤ} {q at at' : ℕ} {out out' marked marked' : List ℤ} {measured measured' : List Float} {celled celled' : List ℤ}
    → at' ≡ at → out' ≡ out → marked' ≡ marked → measured' ≡ measured → celled' ≡ celled → Filled f g classes q at out marked measured celled → Filled f g classes q at' out' marked' measured' celled'
filled-as ea eo em el ec d = rw (ea, eo, em, el, ec) d

module _ (f : ℕ → Read State) (grid : Vec ℕ) (classes : List ℤ) where
  pub filled_none : (out marked : List ℤ) (measured : List Float) (celled : List ℤ) → RoomFor classes (length out) (length marked) (length measured) (length celled)
      → Filled f grid classes 0 0 out marked measured celled
  filled_none out marked measured celled h = record { states = []; read = refl; count = refl; places = refl; marks = refl; lengths = refl; cells = refl; room = h }

  module _ {q at : ℕ} {out marked : List ℤ} {measured : List Float} {celled : List ℤ} (d : Filled f grid classes q at out marked measured celled) where
    -- a point that is in a class of another
    pub filled_on : is_place (get_or classes q (pos 0)) q ≡ false → Filled f grid classes (q + 1) at out marked measured celled
    filled_on e = record {
      states = d.states;
      read = ap (read_each f) (points_same classes q e) ∙ d.read;
      count = d.count ∙ own_same classes q e;
      places = d.places;
      marks = d.marks;
      lengths = d.lengths;
      cells = d.cells;
      room = d.room;
    }

    module _ (h : q < length classes) (e : is_place (get_or classes q (pos 0)) q ≡ true) where
      pub filled-below : at < own_places classes (length classes)
      filled-below = let k = own-rises classes (q + 1) (length classes) (omega arith) in omega (arith, k, d.count, own-more classes q e)

      pub filled-room : at * 3 + 3 ≤ length out
      filled-room = omega (arith, filled-below, d.room.triplets)

      pub filled-cells-room : at * 3 + 3 ≤ length celled
      filled-cells-room = omega (arith, filled-below, d.room.cells)

      -- a point that gives its class its number, with its triplet written
      pub filled_more : (s : State) → f q ≡ got s
          → Filled f grid classes (q + 1) (at + 1) (take (at * 3) out ++ (places_of s ++ drop (at * 3 + 3) out)) (set marked at (mark_of s)) (set measured at (length_of s))
          (take (at * 3) celled ++ (cells_of grid s ++ drop (at * 3 + 3) celled))
      filled_more s g = record {
        states = d.states ++ (s ∷ []);
        read = ap (read_each f) (points_more classes q e) ∙ each_more f (own_points classes q) q d.read g;
        count = ap (λ n. n + 1) d.count ∙ own-more classes q e;
        places = put-more places_of length-places s at out filled-room d.states d.places;
        marks = mapped-more mark_of marked at d.states s (omega (arith, filled-below, d.room.left)) d.marks;
        lengths = mapped-more length_of measured at d.states s (omega (arith, filled-below, d.room.lengths)) d.lengths;
        cells = put-more (cells_of grid) (length-cells grid) s at celled filled-cells-room d.states d.cells;
        room = record {
          triplets = put-length places_of length-places s at out filled-room ∙ d.room.triplets;
          left = length-set marked at (mark_of s) ∙ d.room.left;
          lengths = length-set measured at (length_of s) ∙ d.room.lengths;
          cells = put-length (cells_of grid) (length-cells grid) s at celled filled-cells-room ∙ d.room.cells;
        };
      }

    -- all points passed
    module _ (e : q ≡ length classes) where
      abbrev all : Read (List State)
      all = read_each f (own_points classes (length classes))

      end : {B : Type 0} (g : List State → List B) (n : ℕ) (l : List B) → length l ≤ n → take n l ≡ g d.states → got l ≡ (all then λ r. got (g r))
      end g n l h k = ap got (sym (take_all n l h) ∙ k) ∙ sym (ap (λ x. x then λ r. got (g r)) (ap (λ q. read_each f (own_points classes q)) (sym e) ∙ d.read))

      reached : at ≡ own_places classes (length classes)
      reached = d.count ∙ ap (own_places classes) e

      pub filled-triplets : got out ≡ (all then λ r. got (triplet_list r))
      filled-triplets = end triplet_list (at * 3) out (omega (arith, reached, d.room.triplets)) d.places

      pub filled-marks : got marked ≡ (all then λ r. got (marks r))
      filled-marks = end marks at marked (omega (arith, reached, d.room.left)) d.marks

      pub filled-lengths : got measured ≡ (all then λ r. got (lengths r))
      filled-lengths = end lengths at measured (omega (arith, reached, d.room.lengths)) d.lengths

      pub filled-cells : got celled ≡ (all then λ r. got (cell_list grid r))
      unfolding cell_list
      filled-cells = end (by_threes (cells_of grid)) (at * 3) celled (omega (arith, reached, d.room.cells)) d.cells

  -- the points from one in its own class on
  split : (n q : ℕ) → q < n → is_place (get_or classes q (pos 0)) q ≡ true → (m : List ℕ) × (own_points classes n ≡ own_points classes q ++ (q ∷ m))
  split zero q h e = absurd (not-suc-le-zero h)
  split (suc n) q h e = ⊎_elim (λ k. ([], ap (λ n. own_points classes (suc n)) (sym k) ∙ ap (own_points classes) (sym (add-one q)) ∙ points_more classes q e)) (λ k. later (split n q k e)) (eq-or-lt_of_le (le_of_suc-le-suc h))
    where
      later : (m : List ℕ) × (own_points classes n ≡ own_points classes q ++ (q ∷ m)) → (m : List ℕ) × (own_points classes (suc n) ≡ own_points classes q ++ (q ∷ m))
      later r =
          let last = cond (is_place (get_or classes n (pos 0)) n) (n ∷ []) [] in
          (r.0 ++ last, ap (λ l. l ++ last) r.1 ∙ append_assoc (own_points classes q) (q ∷ r.0) last)

  -- a triplet that is refused, and all is refused
  pub filled-refused : {q at : ℕ} {out marked : List ℤ} {measured : List Float} {celled : List ℤ} → Filled f grid classes q at out marked measured celled → {B : Type 0} (g : List State → Read B) → q < length classes → is_place (get_or classes q (pos 0)) q ≡ true
      → {r : Refusal} → f q ≡ Err r → Err r ≡ (read_each f (own_points classes (length classes)) then g)
  filled-refused {q} d g h e k =
      let m = split (length classes) q h e in
      ap (λ x. x then g) (each-refused f (own_points classes q) q m.0 d.read k ∙ ap (read_each f) (sym m.1))
