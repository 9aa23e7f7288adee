-- The forward pass over any list of maps. Where the points that the maps carry a point to are its class, the pass gives it the least of its class.
use mathlib.Core.Path.{◌≡◌, refl, sym, ◌∙◌, ap}
use mathlib.Core.Logic.{⊎_elim, ◌↔◌}
use mathlib.Core.Bool.{Bool, true, false}
use mathlib.Core.List.Memᴰ.{cases_cons as cases}
use mathlib.Core.List.Memᴰ.{head as here}
use mathlib.Core.List.Memᴰ.{not-nil}
use mathlib.Core.List.Memᴰ.{tail as there}
use mathlib.Core.List.{List, [], ◌∷◌}
use Prim.Native.Nat.{ℕ, ◌≤◌, ◌<◌}
use native.Mathlib.Nat.{le_of_eq, le_antisymm}
use native.Mathlib.Omega.{arith}
use lib.Dec.{ltb, ltb→lt, nltb→le}
use lib.ListN.{get_or}
use Rattle.std.specs.Prelude.{Option, None, Some}
use Rattle.integer.proofs.Test.{holds, fails}
use Rattle.grgrid.specs.ClassMap.{first_lower, number, pass}
use Rattle.grgrid.specs.Orbits.{Least}
use Rattle.grgrid.proofs.Lists.{◌∈◌}
use Rattle.grgrid.proofs.Built.{build-at, build-all}

-- ---- an equivalence of the points below N
pub record Equiv (N : ℕ) (E : ℕ → ℕ → Type 0) : Type 0 where
  pub inside : (p q : ℕ) → p < N → E p q → q < N
  pub same : (p : ℕ) → p < N → E p p
  pub back : (p q : ℕ) → p < N → E p q → E q p
  pub on : (p q r : ℕ) → p < N → E p q → E q r → E p r

module _ {N : ℕ} {E : ℕ → ℕ → Type 0} (e : Equiv N E) where
  least-back : (p q x : ℕ) → p < N → E p q → Least (E q) x → Least (E p) x
  least-back p q x h k l = record { is-in = e.on p q x h k l.is-in; lowest = λ y m. l.lowest y (e.on q p y (e.inside p q h k) (e.back p q h k) m) }

  -- numbers that are the least of each point's class tell the classes apart
  module _ (f : ℕ → ℕ) (least : (p : ℕ) → p < N → Least (E p) (f p)) where
    pub one_number : (p q : ℕ) → p < N → q < N → (f p ≡ f q) ↔ E p q
    one_number p q h k = (
      λ i. e.on p (f p) q h (least p h).is-in (rw i (e.back q (f q) k (least q k).is-in)),
      λ i. let l = least-back p q (f q) h i (least q k) in le_antisymm ((least p h).lowest (f q) l.is-in) (l.lowest (f p) (least p h).is-in),
    )

    pub below : (p : ℕ) → p < N → f p < N
    below p h = e.inside p (f p) h (least p h).is-in

    pub not-above : (p : ℕ) → p < N → f p ≤ p
    not-above p h = (least p h).lowest p (e.same p h)

    -- the number of a class bears itself
    pub again : (p : ℕ) → p < N → f (f p) ≡ f p
    again p h = (one_number (f p) p (below p h) h).1 (e.back p (f p) h (least p h).is-in)

-- ---- the pass
-- what `number` answers: the number of a lower point that some map carries p to; or p, if no map carries p lower
data Answer (gs : List (ℕ → ℕ)) (p : ℕ) (done : List ℕ) (x : ℕ) : Type 0 where
  lower : (g : ℕ → ℕ) → g ∈ gs → g p < p → x ≡ get_or done (g p) 0 → Answer gs p done x
  own : ((g : ℕ → ℕ) → g ∈ gs → p ≤ g p) → x ≡ p → Answer gs p done x

-- where the first map that carries p lower carries it
abbrev Carried : List (ℕ → ℕ) → ℕ → Option ℕ → Type 0
Carried gs p (Some q) = (g : ℕ → ℕ) × (g ∈ gs) × (g p ≡ q) × (q < p)
Carried gs p None = (g : ℕ → ℕ) → g ∈ gs → p ≤ g p

carried : (gs : List (ℕ → ℕ)) (p : ℕ) → Carried gs p (first_lower gs p)
carried [] p = λ g m. absurd (not-nil m)
carried (g ∷ gs) p = first (ltb (g p) p) refl (carried gs p)
  where
    later : (o : Option ℕ) → p ≤ g p → Carried gs p o → Carried (g ∷ gs) p o
    later (Some q) h c = (c.0, there c.1, c.2, c.3)
    later None h c = λ k m. ⊎_elim (λ i. rw i h) (c k) (cases m)

    first : (b : Bool) → ltb (g p) p ≡ b → Carried gs p (first_lower gs p) → Carried (g ∷ gs) p (elim b [ true ↦ Some (g p) | false ↦ first_lower gs p ])
    first true e c = (g, here refl, refl, ltb→lt (g p) p (holds e))
    first false e c = later (first_lower gs p) (nltb→le (g p) p (fails e)) c

answer : (gs : List (ℕ → ℕ)) (p : ℕ) (done : List ℕ) → Answer gs p done (number gs p done)
answer gs p done = go (first_lower gs p) (carried gs p)
  where
    go : (o : Option ℕ) → Carried gs p o → Answer gs p done (elim o as (λ _. ℕ) [ Some q ↦ get_or done q 0 | None ↦ p ])
    go (Some q) c = lower c.0 c.1 (rw c.2 c.3) (ap (λ q. get_or done q 0) (sym c.2))
    go None c = own c refl

-- of any maps: a number is at most its point and bears itself
module _ (gs : List (ℕ → ℕ)) (N : ℕ) where
  abbrev pub Own : ℕ → ℕ → Type 0
  Own p x = (x ≤ p) × (get_or (pass gs N) x 0 ≡ x)

  pub pass-own : (p : ℕ) → p < N → Own p (get_or (pass gs N) p 0)
  pass-own = build-all (number gs) 0 Own N (λ n h ih. step n ih (answer gs n (pass gs n)) (build-at (number gs) 0 N n h))
    where
      step : (n : ℕ) → ((p : ℕ) → p < n → Own p (get_or (pass gs n) p 0)) → {x : ℕ} → Answer gs n (pass gs n) x → get_or (pass gs N) n 0 ≡ x → Own n x
      step n ih (lower g m l e) k = rw e (omega (arith, (ih (g n) l).0), (ih (g n) l).1)
      step n ih (own f e) k = (le_of_eq e, ap (λ (y : ℕ). get_or (pass gs N) y 0) e ∙ k)

-- ---- maps that carry each point to just the points of its class
pub record Steps (N : ℕ) (gs : List (ℕ → ℕ)) (E : ℕ → ℕ → Type 0) : Type 0 where
  pub each : (g : ℕ → ℕ) → g ∈ gs → (p : ℕ) → p < N → E p (g p)
  pub all : (p q : ℕ) → p < N → E p q → (g : ℕ → ℕ) × (g ∈ gs) × (g p ≡ q)

module _ {N : ℕ} {E : ℕ → ℕ → Type 0} (e : Equiv N E) (gs : List (ℕ → ℕ)) (s : Steps N gs E) where
  pub pass-least : (p : ℕ) → p < N → Least (E p) (get_or (pass gs N) p 0)
  pass-least = build-all (number gs) 0 (λ p x. Least (E p) x) N (λ p h ih. least p h ih (answer gs p (pass gs p)))
    where
      least : (p : ℕ) → p < N → ((q : ℕ) → q < p → Least (E q) (get_or (pass gs p) q 0)) → {x : ℕ} → Answer gs p (pass gs p) x → Least (E p) x
      least p h ih (lower g m l i) = rw i (least-back e p (g p) (get_or (pass gs p) (g p) 0) h (s.each g m p h) (ih (g p) l))
      least p h ih (own f i) = rw i (record { is-in = e.same p h; lowest = λ y k. let r = s.all p y h k in omega (arith, r.2, f r.0 r.1) })
