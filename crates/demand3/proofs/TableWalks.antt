-- Reads of an image table that were all inside, and the walks made of them: they are the walks over what stands in the table.
use mathlib.Core.Path.{◌≡◌, refl, sym, ◌∙◌, ap, subst}
use mathlib.Core.Bool.{Bool}
use mathlib.Core.List.{List, [], ◌∷◌, ◌++◌, foldl}
use Prim.Native.Nat.{ℕ, zero, suc, ◌+◌, ◌*◌, ◌<◌}
use native.Mathlib.Nat.{not-suc-le-zero, le_of_suc-le-suc}
use native.Mathlib.Omega.{arith}
use lib.IntN.{ℤ, pos}
use lib.ListN.{length, get_or, length-append}
use lib.Ieee.{Float, binary64, sub, lt}
use Rattle.std.specs.Prelude.{Ok, Err}
use Rattle.common.specs.Matrix.{Axis, X, Y, Z, Vec, side}
use Rattle.common.specs.Array.{vector_of}
use Rattle.common.specs.Tested.{◌then◌}
use Rattle.common.proofs.Tests.{same-ok, refused-not-ok}
use Rattle.bzgrid.proofs.Accepted.{passes-first}
use Rattle.bzgrid.specs.declared.GridType.{GridType}
use Rattle.bztable.specs.Reading.{Read, got, triple_at, address_at}
use Rattle.bztable.specs.Access.{image_places}
use Rattle.bztable.proofs.TableRead.{address-got}
use Rattle.bz_triplets.specs.Choosing.{start, left, closed, tried, nested}
use Rattle.bz_triplets.specs.BzTriplets.{squared_distance, sum_of, is_zero, Choice, State, Walk, tried_sum, try_read, try_at, chosen, by_threes}
use Rattle.bz_triplets.proofs.Choosing.{choices, nested_is}

-- ---- the walk over the choices
module _ (w : Walk) where
  abbrev pub choice_at : Vec ℕ → Choice
  choice_at p = record { at = p; sum = sum_of (triple_at w.addresses p.x) (triple_at w.addresses p.y) (triple_at w.addresses p.z) }

  abbrev pub closes : Choice → Bool
  closes c = is_zero c.sum

  abbrev pub squared : Choice → Float
  squared c = squared_distance w.lqd c.sum

  abbrev pub less_at : Float → Float
  less_at x = sub binary64 x w.tolerance

  abbrev pub step : State → Vec ℕ → State
  step s p = tried closes squared lt less_at s (choice_at p)

  read_step : (s : State) (p : Vec ℕ) {r : State} → try_read w s p ≡ got r → step s p ≡ r
  read_step s p e =
      let x = passes-first (address_at w.addresses p.x) _ e in
      let y = passes-first (address_at w.addresses p.y) _ x.2 in
      let z = passes-first (address_at w.addresses p.z) _ y.2 in
      let a = address-got w.addresses p.x x.1 in
      let b = address-got w.addresses p.y y.1 in
      let c = address-got w.addresses p.z z.1 in
      (λ t. tried_sum w s p (sum_of (a t) (b t) (c t))) ∙ same-ok z.2

  try-got : (r : Read State) (p : Vec ℕ) {u : State} → try_at w r p ≡ got u → (s : State) × (r ≡ got s) × (step s p ≡ u)
  unfolding try_at
  try-got (Ok start) p e = (start, refl, read_step start p e)
  try-got (Ok (left x b)) p e = (left x b, refl, read_step (left x b) p e)
  try-got (Ok (closed b)) p e = (closed b, refl, same-ok e)
  try-got (Err r) p e = absurd (refused-not-ok e)

  walk-got : (r : Read State) (l : List (Vec ℕ)) {u : State} → foldl (try_at w) r l ≡ got u → (s : State) × (r ≡ got s) × (foldl step s l ≡ u)
  walk-got r [] {u} e = (u, e, refl)
  walk-got r (p ∷ l) e =
      let h = walk-got (try_at w r p) l e in
      let k = try-got r p h.1 in
      (k.0, k.1, ap (λ s. foldl step s l) k.2 ∙ h.2)

  pub nested-got : (l : Vec (List ℕ)) {s : State} → nested (try_at w) (got start) l ≡ got s → nested step start l ≡ s
  nested-got l e =
      let r = walk-got (got start) (choices l) (sym (nested_is l (try_at w) (got start)) ∙ e) in
      nested_is l step start ∙ ap (λ s. foldl step s (choices l)) (same-ok r.1) ∙ r.2

  -- the triplet of a class, where the map tells the places of each of its points
  pub chosen-got : (t : GridType) (n : ℕ) (map : List ℤ) (v : Vec ℕ) (l : Vec (List ℕ)) → ((k : Axis) → image_places t map n (side v k) ≡ got (side l k))
      → {s : State} → chosen t n map w v.x v.y v.z ≡ got s → nested step start l ≡ s
  unfolding chosen
  chosen-got t n map v l h {s} e =
      nested-got l
      (subst (λ r. (r then λ z. nested (try_at w) (got start) (record { x = l.x; y = l.y; z = z })) ≡ got s) (h Z)
      (subst (λ r. (r then λ y. image_places t map n v.z then λ z. nested (try_at w) (got start) (record { x = l.x; y = y; z = z })) ≡ got s) (h Y)
      (subst (λ r. (r then λ x. image_places t map n v.y then λ y. image_places t map n v.z then λ z. nested (try_at w) (got start) (record { x = x; y = y; z = z })) ≡ got s) (h X) e)))

-- ---- three numbers a state
triple-first : (x l : List ℤ) → length x ≡ 3 → triple_at (x ++ l) 0 ≡ vector_of x
triple-first (a ∷ b ∷ c ∷ []) l e = refl
triple-first [] l e = absurd (omega (arith, e))
triple-first (a ∷ []) l e = absurd (omega (arith, e))
triple-first (a ∷ b ∷ []) l e = absurd (omega (arith, e))
triple-first (a ∷ b ∷ c ∷ d ∷ x) l e = absurd (omega (arith, e))

triple-later : (x l : List ℤ) (n : ℕ) → length x ≡ 3 → triple_at (x ++ l) (suc n) ≡ triple_at l n
triple-later (a ∷ b ∷ c ∷ []) l n e =
    λ t. record { x = at (3 * suc n) (3 * n) (omega arith) t; y = at (3 * suc n + 1) (3 * n + 1) (omega arith) t; z = at (3 * suc n + 2) (3 * n + 2) (omega arith) t }
  where
    at : (i j : ℕ) → i ≡ suc (suc (suc j)) → get_or (a ∷ b ∷ c ∷ l) i (pos 0) ≡ get_or l j (pos 0)
    at i j e = ap (λ i. get_or (a ∷ b ∷ c ∷ l) i (pos 0)) e
triple-later [] l n e = absurd (omega (arith, e))
triple-later (a ∷ []) l n e = absurd (omega (arith, e))
triple-later (a ∷ b ∷ []) l n e = absurd (omega (arith, e))
triple-later (a ∷ b ∷ c ∷ d ∷ x) l n e = absurd (omega (arith, e))

module _ (g : State → List ℤ) (three : (s : State) → length (g s) ≡ 3) where
  pub threes-length : (r : List State) → length (by_threes g r) ≡ length r * 3
  threes-length [] = refl
  threes-length (s ∷ r) = omega (arith, length-append (g s) (by_threes g r), three s, threes-length r)

  pub threes-item : (r : List State) (j : ℕ) → j < length r → triple_at (by_threes g r) j ≡ vector_of (g (get_or r j start))
  threes-item [] j h = absurd (not-suc-le-zero h)
  threes-item (s ∷ r) zero h = triple-first (g s) (by_threes g r) (three s)
  threes-item (s ∷ r) (suc j) h = triple-later (g s) (by_threes g r) j (three s) ∙ threes-item r j (le_of_suc-le-suc h)
