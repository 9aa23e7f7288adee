-- Groups under a product: a finite list closed under it is one, and the points that a group carries a point to are a class. A group is a predicate, so that neither
-- the order nor repeats of a list matter.
use mathlib.Core.Path.{◌≡◌, sym, ◌∙◌, ap}
use mathlib.Core.Logic.{◌↔◌}
use mathlib.Core.List.Memᴰ.{map as map-in}
use mathlib.Core.List.Memᴰ.{of_map}
use mathlib.Core.List.{List, map}
use Prim.Native.Nat.{ℕ, ◌<◌}
use Rattle.grgrid.specs.Orbits.{Orbit, Keeps}
use Rattle.grgrid.proofs.Lists.{◌∈◌, Distinct, onto}
use Rattle.grgrid.proofs.Pass.{Equiv, Steps}

pub record Group {A : Type 0} (op : A → A → A) (e : A) (P : A → Type 0) : Type 0 where
  pub one : P e
  pub times : (x y : A) → P x → P y → P (op x y)
  pub inverse : (x : A) → P x → (y : A) × P y × (op y x ≡ e)

-- multiplying by a member permutes a finite list, so that it has an inverse
pub closed-group : {A : Type 0} {op : A → A → A} {e : A} (l : List A) → e ∈ l → Distinct l
    → ((x y : A) → x ∈ l → y ∈ l → op x y ∈ l) → ((x y z : A) → x ∈ l → op y x ≡ op z x → y ≡ z) → Group op e (λ x. x ∈ l)
closed-group {op = op} l one distinct times cancel = record {
  one = one;
  times = times;
  inverse = λ x k. onto (λ y. op y x) l distinct (λ y j. times y x j k) (λ y z _ _. cancel x y z k) one;
}

-- ---- maps of points
pub record Action {A : Type 0} (op : A → A → A) (e : A) (N : ℕ) (act : A → ℕ → ℕ) (P : A → Type 0) : Type 0 where
  pub inside : (x : A) (p : ℕ) → P x → p < N → act x p < N
  pub one : (p : ℕ) → p < N → act e p ≡ p
  pub times : (x y : A) (p : ℕ) → P x → P y → p < N → act (op x y) p ≡ act x (act y p)

-- the maps of a list carry each point to just its orbit
pub orbit-steps : {A : Type 0} {act : A → ℕ → ℕ} {P : A → Type 0} (N : ℕ) (l : List A) → ((x : A) → (x ∈ l) ↔ P x) → Steps N (map act l) (Orbit act P)
orbit-steps {act = act} N l s = record {
  each = λ g m p h. let r = of_map act l m in record { by = r.0; is-in = (s r.0).0 r.1; lands = ap (λ f. f p) r.2 };
  all = λ p q h o. (act o.by, map-in act ((s o.by).1 o.is-in), o.lands);
}

module _ {A : Type 0} {op : A → A → A} {e : A} {N : ℕ} {act : A → ℕ → ℕ} {P : A → Type 0} (g : Group op e P) (a : Action op e N act P) where
  undo : (x : A) (k : P x) {p q : ℕ} → p < N → act x p ≡ q → act (g.inverse x k).0 q ≡ p
  undo x k {p} h i = let r = g.inverse x k in sym (ap (act r.0) i) ∙ sym (a.times r.0 x p r.1 k h) ∙ ap (λ y. act y p) r.2 ∙ a.one p h

  pub orbit-equiv : Equiv N (Orbit act P)
  orbit-equiv = record {
    inside = λ p q h o. rw (← o.lands) (a.inside o.by p o.is-in h);
    same = λ p h. record { by = e; is-in = g.one; lands = a.one p h };
    back = λ p q h o. let r = g.inverse o.by o.is-in in record { by = r.0; is-in = r.1; lands = undo o.by o.is-in h o.lands };
    on = λ p q r h o u. record {
      by = op u.by o.by;
      is-in = g.times u.by o.by u.is-in o.is-in;
      lands = a.times u.by o.by p u.is-in o.is-in h ∙ ap (act u.by) o.lands ∙ u.lands;
    };
  }

  pub keeps-group : (q : ℕ) → q < N → Group op e (Keeps act P q)
  keeps-group q h = record {
    one = (g.one, a.one q h);
    times = λ x y k l. (g.times x y k.0 l.0, a.times x y q k.0 l.0 h ∙ ap (act x) l.1 ∙ k.1);
    inverse = λ x k. let r = g.inverse x k.0 in (r.0, (r.1, undo x k.0 h k.1), r.2);
  }
