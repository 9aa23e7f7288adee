-- Three nested walks over the places of a table find what the same walks find over the addresses that stand there.
use mathlib.Core.Path.{◌≡◌, refl, ◌∙◌, ap}
use mathlib.Core.Bool.{Bool, true, false, cond}
use mathlib.Core.List.{List, map}
use Prim.Native.Nat.{ℕ}
use lib.IntN.{ℤ}
use lib.Ieee.{Float, binary64, sub, lt}
use Rattle.common.specs.Matrix.{Vec, map_vec}
use Rattle.common.specs.Tested.{◌then◌}
use Rattle.grgrid.specs.Lists.{◌∈◌}
use Rattle.bztable.specs.Reading.{Read, got, triple_at, address_at}
use Rattle.bz_triplets.specs.Choosing.{start, left, closed, nested}
use Rattle.bz_triplets.specs.BzTriplets.{State, Walk, sum_of, is_zero, squared_distance, tried_sum, try_read, try_at}
use Rattle.bz_triplets.proofs.Walking.{nested-beside}
use Rattle.bzconvert.specs.Addressed.{Chosen, addressed, try_trio}

-- ---- one choice
module _ (w : Walk) where
  abbrev seen : ℕ → Vec ℤ
  seen i = triple_at w.addresses i

  abbrev view : State → Chosen
  view s = addressed w.addresses s

  abbrev step : Chosen → Vec (Vec ℤ) → Chosen
  step = try_trio w.lqd w.tolerance

  view-cond : (b : Bool) (x y : State) → view (cond b x y) ≡ cond b (view x) (view y)
  view-cond true x y = refl
  view-cond false x y = refl

  module _ (c : Vec ℕ) where
    abbrev total : Vec ℤ
    total = sum_of (seen c.x) (seen c.y) (seen c.z)

    abbrev len : Float
    len = squared_distance w.lqd total

    same-choice : (s : State) → view (tried_sum w s c total) ≡ step (view s) (map_vec seen c)
    same-choice start = view-cond (is_zero total) (closed (record { at = c; sum = total })) (left len (record { at = c; sum = total }))
    same-choice (left x b) =
        let near = lt len (sub binary64 x w.tolerance) in
        view-cond (is_zero total) (closed (record { at = c; sum = total })) (cond near (left len (record { at = c; sum = total })) (left x b))
        ∙ ap (cond (is_zero total) (view (closed (record { at = c; sum = total })))) (view-cond near (left len (record { at = c; sum = total })) (left x b))
    same-choice (closed b) = refl

  -- ---- all choices, at places where an address can be read
  abbrev pub Inside : ℕ → Type 0
  Inside i = address_at w.addresses i ≡ got (triple_at w.addresses i)

  -- a walk of reads has found what one over addresses has
  abbrev pub Finds : Read State → Chosen → Type 0
  Finds r u = (s : State) × (r ≡ got s) × (addressed w.addresses s ≡ u)

  module _ (c : Vec ℕ) (x : Inside c.x) (y : Inside c.y) (z : Inside c.z) where
    choice-read : (s : State) → try_read w s c ≡ got (tried_sum w s c (total c))
    choice-read s = λ i. x i then λ u. y i then λ v. z i then λ k. got (tried_sum w s c (sum_of u v k))

    on : (s : State) → Finds (try_at w (got s) c) (step (view s) (map_vec seen c))
    unfolding try_at
    on start = (tried_sum w start c (total c), choice-read start, same-choice c start)
    on (left u b) = (tried_sum w (left u b) c (total c), choice-read (left u b), same-choice c (left u b))
    on (closed b) = (closed b, refl, refl)

    next : (r : Read State) (u : Chosen) → Finds r u → Finds (try_at w r c) (step u (map_vec seen c))
    next r u (s, e, f) = let t = on s in (t.0, ap (λ r. try_at w r c) e ∙ t.1, t.2 ∙ ap (λ u. step u (map_vec seen c)) f)

  pub same-walk : (l : Vec (List ℕ)) → ((i : ℕ) → i ∈ l.x → Inside i) → ((i : ℕ) → i ∈ l.y → Inside i) → ((i : ℕ) → i ∈ l.z → Inside i)
      → Finds (nested (try_at w) (got start) l) (nested (try_trio w.lqd w.tolerance) start (map_vec (map (triple_at w.addresses)) l))
  same-walk l x y z =
      nested-beside Finds seen (try_at w) step l (λ r u c m n k. next c (x c.x m) (y c.y n) (z c.z k) r u) (got start) start (start, refl, refl)
