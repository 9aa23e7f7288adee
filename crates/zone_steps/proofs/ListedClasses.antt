-- What `list_classes` answers and leaves, from what its steps do: outputs of m points are wiped to -1, and the lists are written to their fronts.
use mathlib.Core.Path.{◌≡◌, refl, sym, ◌∙◌, ap, ap₂}
use mathlib.Core.List.{List, ◌++◌}
use Prim.Native.Nat.{ℕ, ◌+◌, ◌*◌, ◌-◌, ◌≤◌}
use native.Mathlib.Nat.{le_trans}
use native.Mathlib.Omega.{arith}
use lib.IntN.{ℤ, negsuc}
use lib.Ieee.{Float, binary64, of_int}
use lib.ListN.{length, take, drop, replicate, length-append, length-replicate}
use lib.Seq.{take_at}
use Rattle.std.specs.Prelude.{Ok, Err}
use Rattle.common.specs.declared.Refusal.{Refusal}
use Rattle.common.specs.Tested.{after, giving, Tested, Accepted, without_value}
use Rattle.common.proofs.Tests.{not-accepted, both-accepted}
use Rattle.grgrid.proofs.Numbers.{own-few}
use Rattle.bzgrid.specs.declared.TableRecord.{TableRecord}
use Rattle.bzgrid.proofs.Runs.{drop-same}
use Rattle.triplet_grid.specs.IrTriplets.{triplet_tests}
use Rattle.triplet_grid.proofs.Outcome.{InputAccepted, input-accepted}
use Rattle.zone_steps.specs.Steps.{Setting, points_of, classified, class_map_of, count, chosen, list_tests, lists_of}
use Rattle.zone_steps.specs.StepsView.{lists, in_front}

-- a list in the front of an output of m places that held v
module _ {A : Type 0} (v : A) (list : List A) (n m : ℕ) {before now : List A} (blank : before ≡ replicate m v) (written : now ≡ list ++ drop n before) (kept : length now ≡ m) (fits : n ≤ m) where
  rest : drop n before ≡ replicate (m - n) v
  rest = ap (drop n) blank ∙ drop-same m n v

  pub front-full : length list ≡ n
  front-full =
      let a : length now ≡ length list + length (drop n before) = ap length written ∙ length-append list (drop n before) in
      let b : length (drop n before) ≡ m - n = ap length rest ∙ length-replicate (m - n) v in
      omega arith

  pub front-padded : now ≡ list ++ replicate (m - length list) v
  front-padded = written ∙ ap (λ r. list ++ r) (rest ∙ ap (λ k. replicate (m - k) v) (sym front-full))

module _ (g : Setting) where
  -- what accepted classes say of the grid
  pub class-input : without_value (classified g).answer ≡ Accepted → InputAccepted g.q0 g.d g.rotations (points_of g) (points_of g)
  unfolding classified triplet_tests
  class-input e = input-accepted g.q0 g.d g.rotations (points_of g) (points_of g) (both-accepted _ _ (go (triplet_tests g.q0 g.d g.rotations g.time_reversal (points_of g) (points_of g)) _ e)).0
    where
      go : (t : Tested) (k : ℤ) → without_value (giving t k) ≡ Accepted → t ≡ Accepted
      go (Ok _) k e = refl
      go (Err r) k e = absurd (not-accepted e)

  module _ (addresses map : List ℤ) (table : TableRecord) where
    module _ {s : Tested} (e : s ≡ without_value (classified g).answer) where
      pub list-refused : {r : Refusal} → s ≡ Err r → Err r ≡ list_tests g addresses map table
      unfolding list_tests
      list-refused f = sym (ap (λ t. after t (chosen g addresses map table).answer) (sym e ∙ f))

      pub list-tested : s ≡ Accepted → {v : Tested} → v ≡ (chosen g addresses map table).answer → v ≡ list_tests g addresses map table
      unfolding list_tests
      list-tested f h = h ∙ sym (ap (λ t. after t (chosen g addresses map table).answer) (sym e ∙ f))

  -- ---- in outputs of m points
  module _ {n : ℕ} (en : n ≡ points_of g) (m : ℕ) (fits : n ≤ m) {x x' : List ℤ} (bx : x ≡ replicate m (negsuc 0)) (wx : x' ≡ class_map_of g ++ drop n x) (kx : length x' ≡ m) where
    long : length (class_map_of g) ≡ n
    long = front-full (negsuc 0) (class_map_of g) n m bx wx kx fits

    few : count g ≤ m
    few = le_trans (rw (← long) (own-few (class_map_of g) (length (class_map_of g)))) fits

    -- the class map is read back from the front of its output
    pub classes-front : take (n - 0) x' ≡ class_map_of g
    classes-front = ap₂ take whole wx ∙ take_at (class_map_of g) (drop n x) n long
      where
        whole : n - 0 ≡ n
        whole = omega arith

    pub lists-left : {y y' : List ℤ} → y ≡ replicate m (negsuc 0) → y' ≡ (classified g).map_q ++ drop n y → (addresses map : List ℤ) (table : TableRecord) {v : Tested} {t l t' l' : List ℤ} {f f' : List Float} {c c' : List ℤ}
        → record { answer = v; out = t'; left = l'; left_length = f'; cells = c' } ≡ in_front (chosen g addresses map table) (count g) t l f c
        → t ≡ replicate (m * 3) (negsuc 0) → l ≡ replicate m (negsuc 0) → f ≡ replicate m (of_int binary64 (negsuc 0)) → c ≡ replicate (m * 3) (negsuc 0)
        → length y' ≡ m → length t' ≡ m * 3 → length l' ≡ m → length f' ≡ m → length c' ≡ m * 3 → lists x' y' t' l' f' c' ≡ lists_of g addresses map table m
    unfolding lists_of
    lists-left by wy addresses map table call bt bl bf bc ky kt kl kf kc =
        let o = chosen g addresses map table in
        let h : count g * 3 ≤ m * 3 = (let h = few in omega arith) in
        let ex = front-padded (negsuc 0) (class_map_of g) n m bx wx kx fits in
        let ey = front-padded (negsuc 0) (classified g).map_q n m by wy ky fits in
        let et = front-padded (negsuc 0) o.out (count g * 3) (m * 3) bt (ap (λ o. o.out) call) kt h in
        let el = front-padded (negsuc 0) o.left (count g) m bl (ap (λ o. o.left) call) kl few in
        let ef = front-padded (of_int binary64 (negsuc 0)) o.left_length (count g) m bf (ap (λ o. o.left_length) call) kf few in
        let ec = front-padded (negsuc 0) o.cells (count g * 3) (m * 3) bc (ap (λ o. o.cells) call) kc h in
        λ j. lists (ex j) (ey j) (et j) (el j) (ef j) (ec j)
