-- The walk over the choices closes if any choice does; else no choice lies below the length left over minus the tolerance. The walk goes by that threshold, which only
-- falls: each new least is below it, and the next threshold is not above the new least.
use mathlib.Core.Path.{◌≡◌, refl, sym, ◌∙◌, ap, subst}
use mathlib.Core.Logic.{◌⊎◌, ⊎_elim}
use mathlib.Core.Bool.{Bool, not, cond}
use mathlib.Core.List.Memᴰ.{append_cases}
use mathlib.Core.List.Memᴰ.{append_left}
use mathlib.Core.List.Memᴰ.{append_right}
use mathlib.Core.List.Memᴰ.{cases_cons as cases}
use mathlib.Core.List.Memᴰ.{head as here}
use mathlib.Core.List.Memᴰ.{map as map-in}
use mathlib.Core.List.Memᴰ.{not-nil}
use mathlib.Core.List.Memᴰ.{of_map}
use mathlib.Core.List.Memᴰ.{tail as there}
use mathlib.Core.List.{List, [], ◌∷◌, ◌++◌, map, flat_map, foldl, foldl-append, foldl-map, append-nil}
use lib.Dec.{T, T_not, not_T}
use lib.Ieee.{Float, binary64, sub, lt, le, fits}
use lib.Ieee.Scale.{finite}
use lib.Seq.{append_snoc}
use Rattle.integer.proofs.Test.{pick-cases}
use Rattle.float.specs.Value.{zero_f}
use Rattle.float.proofs.Order.{finite_number, numbers, not-lt, lt→not, lt_trans, lt-cut}
use Rattle.float.proofs.Operations.{sub-le}
use Rattle.common.specs.Matrix.{Axis, X, Y, Z, Vec, side}
use Rattle.grgrid.proofs.Lists.{◌∈◌}
use Rattle.bz_triplets.specs.Choosing.{Found, start, left, closed, tried, nested}

-- ---- three nested walks are one walk over the choices
foldl-flat : {A C S : Type 0} (step : S → C → S) (f : A → List C) (s : S) (l : List A) → foldl step s (flat_map f l) ≡ foldl (λ s a. foldl step s (f a)) s l
unfolding flat_map
foldl-flat step f s [] = refl
foldl-flat step f s (a ∷ l) = foldl-append step s (f a) (flat_map f l) ∙ foldl-flat step f (foldl step s (f a)) l

in-flat : {A C : Type 0} (f : A → List C) {a : A} {c : C} (l : List A) → a ∈ l → c ∈ f a → c ∈ flat_map f l
unfolding flat_map
in-flat f [] m k = absurd (not-nil m)
in-flat f {c = c} (x ∷ l) m k = ⊎_elim (λ e. append_left (flat_map f l) (subst (λ z. c ∈ f z) e k)) (λ j. append_right (f x) (in-flat f l j k)) (cases m)

of-flat : {A C : Type 0} (f : A → List C) {c : C} (l : List A) → c ∈ flat_map f l → (a : A) × (a ∈ l) × (c ∈ f a)
unfolding flat_map
of-flat f [] m = absurd (not-nil m)
of-flat f (x ∷ l) m = ⊎_elim (λ k. (x, here refl, k)) (λ k. let r = of-flat f l k in (r.0, there r.1, r.2)) (append_cases (f x) m)

module _ {A : Type 0} where
  -- one of each list
  abbrev pub Picks : Vec (List A) → Vec A → Type 0
  Picks l c = (k : Axis) → side c k ∈ side l k

  module _ (l : Vec (List A)) where
    abbrev line : A → A → List (Vec A)
    line a b = map (λ c. record { x = a; y = b; z = c }) l.z

    abbrev plane : A → List (Vec A)
    plane a = flat_map (line a) l.y

    abbrev pub choices : List (Vec A)
    choices = flat_map plane l.x

    pub in-choices : (c : Vec A) → Picks l c → c ∈ choices
    in-choices c p = in-flat plane l.x (p X) (in-flat (line c.x) l.y (p Y) (map-in (λ z. record { x = c.x; y = c.y; z = z }) (p Z)))

    pub of-choices : (c : Vec A) → c ∈ choices → Picks l c
    of-choices c k =
        let r = of-flat plane l.x k in
        let s = of-flat (line r.0) l.y r.2 in
        let t = of_map (λ z. record { x = r.0; y = s.0; z = z }) l.z s.2 in
        subst (Picks l) t.2 (λ j. elim j as (λ j. side (record { x = r.0; y = s.0; z = t.0 }) j ∈ side l j) [ X ↦ r.1 | Y ↦ s.1 | Z ↦ t.1 ])

    pub nested_is : {S : Type 0} (step : S → Vec A → S) (s : S) → nested step s l ≡ foldl step s choices
    nested_is {S} step s = sym (foldl-flat step plane s l.x ∙ ap (λ f. foldl f s l.x) (λ t s a. planes s a t))
      where
        lines : (s : S) (a b : A) → foldl step s (line a b) ≡ foldl (λ s c. step s (record { x = a; y = b; z = c })) s l.z
        lines s a b = foldl-map (λ c. record { x = a; y = b; z = c }) step l.z s

        planes : (s : S) (a : A) → foldl step s (plane a) ≡ foldl (λ s b. foldl (λ s c. step s (record { x = a; y = b; z = c })) s l.z) s l.y
        planes s a = foldl-flat step (line a) s l.y ∙ ap (λ f. foldl f s l.y) (λ t s b. lines s a b t)

-- ---- the walk
-- what the order has to obey, where `less x` is x minus the tolerance and `Len` says that x may be a squared length
pub record Order {F : Type 0} (lt : F → F → Bool) (less : F → F) (Len : F → Type 0) : Type 0 where
  pub trans : (x y z : F) → T (lt x y) → T (lt y z) → T (lt x z)
  pub cut : (x y z : F) → Len y → T (lt x z) → T (lt x y) ⊎ T (lt y z)
  pub not_more : (x : F) → Len x → ¬ T (lt x (less x))

module _ {C F : Type 0} (closes : C → Bool) (len : C → F) (lt : F → F → Bool) (less : F → F) where
  -- a choice that closes ends the walk
  pub closed-stays : (b : C) (l : List C) → foldl (tried closes len lt less) (closed b) l ≡ closed b
  closed-stays b [] = refl
  closed-stays b (c ∷ l) = closed-stays b l

  -- a choice that does not close and does not lie below x minus the tolerance
  abbrev Above : F → C → Type 0
  Above x c = T (not (closes c)) × (¬ T (lt (len c) (less x)))

  -- what is found after the choices l
  abbrev pub Says : List C → Found C F → Type 0
  Says l start = l ≡ []
  Says l (left x b) = (b ∈ l) × (x ≡ len b) × ((c : C) → c ∈ l → Above x c)
  Says l (closed b) = (b ∈ l) × T (closes b)

  module _ {Len : F → Type 0} (o : Order lt less Len) where
    module _ (l : List C) (c : C) (k : Len (len c)) where
      abbrev After : Found C F → Type 0
      After = Says (l ++ (c ∷ []))

      last : c ∈ l ++ (c ∷ [])
      last = append_right l (here refl)

      one_more : (x : F) → ((y : C) → y ∈ l → Above x y) → Above x c → (y : C) → y ∈ l ++ (c ∷ []) → Above x y
      one_more x f a y m = ⊎_elim (f y) (λ n. ⊎_elim (λ i. subst (Above x) (sym i) a) (λ n. absurd (not-nil n)) (cases n)) (append_cases l m)

      -- what was not below the old threshold is not below the new one
      fallen : (x : F) (y : C) → T (lt (len c) (less x)) → Above x y → Above (len c) y
      fallen x y h a = (a.0, λ t. ⊎_elim (λ u. a.1 (o.trans (len y) (len c) (less x) u h)) (o.not_more (len c) k) (o.cut (len y) (len c) (less (len c)) k t))

      said : (s : Found C F) → Says l s → After (tried closes len lt less s c)
      said start e =
          pick-cases (closes c) (closed c) (left (len c) c) After
          (λ t. (last, t))
          (λ t. (last, refl, one_more (len c) (λ y m. absurd (not-nil (subst (λ l. y ∈ l) e m))) (t, o.not_more (len c) k)))
      said (left x b) (m, e, a) =
          pick-cases (closes c) (closed c) (cond (lt (len c) (less x)) (left (len c) c) (left x b)) After
          (λ t. (last, t))
          (λ t. pick-cases (lt (len c) (less x)) (left (len c) c) (left x b) After
          (λ u. (last, refl, one_more (len c) (λ y n. fallen x y u (a y n)) (t, o.not_more (len c) k)))
          (λ u. (append_left (c ∷ []) m, e, one_more x a (t, T_not (lt (len c) (less x)) u))))
      said (closed b) (m, t) = (append_left (c ∷ []) m, t)

    from : (done l : List C) (s : Found C F) → ((c : C) → c ∈ l → Len (len c)) → Says done s → Says (done ++ l) (foldl (tried closes len lt less) s l)
    from done [] s k h = rw (append-nil done) h
    from done (c ∷ l) s k h = rw (← append_snoc done c l) (from (done ++ (c ∷ [])) l (tried closes len lt less s c) (λ c m. k c (there m)) (said done c (k c (here refl)) s h))

    pub walk-said : (l : List C) → ((c : C) → c ∈ l → Len (len c)) → Says l (foldl (tried closes len lt less) start l)
    walk-said l k = from [] l start k refl

-- ---- what a walk finds is one of the choices, whatever the lengths
module _ {C F : Type 0} (closes : C → Bool) (len : C → F) (lt : F → F → Bool) (less : F → F) where
  abbrev Among : List C → Found C F → Type 0
  Among l start = l ≡ []
  Among l (left x b) = b ∈ l
  Among l (closed b) = b ∈ l

  among-on : (l : List C) (c : C) (s : Found C F) → Among l s → Among (l ++ (c ∷ [])) (tried closes len lt less s c)
  among-on l c start e =
      pick-cases (closes c) (closed c) (left (len c) c) (Among (l ++ (c ∷ []))) (λ t. append_right l (here refl)) (λ t. append_right l (here refl))
  among-on l c (left x b) m =
      pick-cases (closes c) (closed c) (cond (lt (len c) (less x)) (left (len c) c) (left x b)) (Among (l ++ (c ∷ []))) (λ t. append_right l (here refl))
      (λ t. pick-cases (lt (len c) (less x)) (left (len c) c) (left x b) (Among (l ++ (c ∷ []))) (λ u. append_right l (here refl)) (λ u. append_left (c ∷ []) m))
  among-on l c (closed b) m = append_left (c ∷ []) m

  among-from : (done l : List C) (s : Found C F) → Among done s → Among (done ++ l) (foldl (tried closes len lt less) s l)
  among-from done [] s h = rw (append-nil done) h
  among-from done (c ∷ l) s h = rw (← append_snoc done c l) (among-from (done ++ (c ∷ [])) l (tried closes len lt less s c) (among-on done c s h))

  pub walk-among : (l : List C) → Among l (foldl (tried closes len lt less) start l)
  walk-among l = among-from [] l start refl

-- ---- the triplet that demand 3 asks for, where pick p counts as choice `of p`
module _ {A C F : Type 0} (of : Vec A → C) (closes : C → Bool) (len : C → F) (lt : F → F → Bool) (less : F → F) (l : Vec (List A)) where
  abbrev pub step : Found C F → Vec A → Found C F
  step s p = tried closes len lt less s (of p)

  pub record Picked (c : C) : Type 0 where
    pub by : Vec A
    pub picks : Picks l by
    pub is : of by ≡ c

  abbrev counted : List C
  counted = map of (choices l)

  in-counted : (y : Vec A) → Picks l y → of y ∈ counted
  in-counted y p = map-in of (in-choices l y p)

  of-counted : {c : C} → c ∈ counted → Picked c
  of-counted m = let r = of_map of (choices l) m in record { by = r.0; picks = of-choices l r.0 r.1; is = r.2 }

  walk_is : nested step start l ≡ foldl (tried closes len lt less) start counted
  walk_is = nested_is l step start ∙ sym (foldl-map of (tried closes len lt less) (choices l) start)

  -- nothing, where there is no choice
  abbrev pub Chosen : Found C F → Type 0
  Chosen start = (y : Vec A) → ¬ Picks l y
  Chosen (left x c) = Picked c
  Chosen (closed c) = Picked c

  pub triplet-chosen : Chosen (nested step start l)
  triplet-chosen = rw walk_is (go (foldl (tried closes len lt less) start counted) (walk-among closes len lt less counted))
    where
      go : (s : Found C F) → Among closes len lt less counted s → Chosen s
      go start e = λ y p. not-nil (subst (λ l. of y ∈ l) e (in-counted y p))
      go (left x c) m = of-counted m
      go (closed c) m = of-counted m

  pub record Best (c : C) : Type 0 where
    pub picked : Picked c
    pub closed-if : (y : Vec A) → Picks l y → T (closes (of y)) → T (closes c)
    pub least : ¬ T (closes c) → (y : Vec A) → Picks l y → ¬ T (lt (len (of y)) (less (len c)))

  -- with what is told beside it
  abbrev pub Triplet : Found C F → Type 0
  Triplet start = (y : Vec A) → ¬ Picks l y
  Triplet (left x c) = Best c × (x ≡ len c) × (¬ T (closes c))
  Triplet (closed c) = Best c × T (closes c)

  best : (s : Found C F) → Says closes len lt less counted s → Triplet s
  best start e = λ y p. not-nil (subst (λ l. of y ∈ l) e (in-counted y p))
  best (left x b) (m, e, a) = (
    record {
      picked = of-counted m;
      closed-if = λ y p t. absurd (T_not (closes (of y)) (a (of y) (in-counted y p)).0 t);
      least = λ _ y p t. (a (of y) (in-counted y p)).1 (subst (λ z. T (lt (len (of y)) (less z))) (sym e) t);
    },
    e,
    T_not (closes b) (a b m).0,
  )
  best (closed b) (m, t) = (record { picked = of-counted m; closed-if = λ y p _. t; least = λ n. absurd (n t) }, t)

  pub triplet-best : {Len : F → Type 0} → Order lt less Len → ((y : Vec A) → Picks l y → Len (len (of y))) → Triplet (nested step start l)
  triplet-best {Len} o k =
      rw walk_is (best (foldl (tried closes len lt less) start counted)
      (walk-said closes len lt less o counted (λ c m. let r = of-counted m in subst (λ c. Len (len c)) r.is (k r.by r.picks))))

-- ---- squared lengths in binary64
pub record Length (x : Float) : Type 0 where
  pub held : T (fits binary64 x)
  pub number : T (finite x)

module _ (t : Float) (h : T (le zero_f t)) where
  less-le : (x : Float) → Length x → T (le (sub binary64 x t) x)
  less-le x k = sub-le binary64 x t k.held k.number h

  pub float-order : Order lt (λ x. sub binary64 x t) Length
  float-order = record {
    trans = lt_trans;
    cut = λ x y z k. lt-cut x y z (finite_number y k.number);
    not_more = λ x k l. lt→not x (sub binary64 x t) l (less-le x k);
  }

  -- what is not below is at least as large
  pub at_least : (x y : Float) → Length x → Length y → ¬ T (lt y (sub binary64 x t)) → T (le (sub binary64 x t) y)
  at_least x y j k n = not-lt y (sub binary64 x t) (finite_number y k.number) (numbers (sub binary64 x t) x (less-le x j)).0 (not_T (lt y (sub binary64 x t)) n)
