-- An answer by its test `is_err`, and the outcome of a call by its tests.
use mathlib.Core.Path.{◌≡◌, refl, sym, ◌∙◌, ap}
use mathlib.Core.Bool.{true, false}
use mathlib.Core.List.{List}
use Prim.Native.Nat.{ℕ}
use native.Mathlib.Omega.{arith}
use lib.IntN.{ℤ, negsuc}
use lib.ListN.{replicate}
use Rattle.std.specs.Prelude.{Result, Ok, Err, is_err, OnOk}
use Rattle.common.specs.declared.Refusal.{Refusal}
use Rattle.common.specs.Tested.{giving, Tested, Accepted, without_value}
use Rattle.zone_steps.specs.Steps.{Rooms, Lists, Outcome}
use Rattle.zone.specs.Chain.{wiped, outcome_of}

not-both : true ≡ false → ⊥
not-both e = let z : ◌≡◌ {A = ℕ} 0 1 = cc in omega arith

module _ {A : Type 0} where
  pub no-refusal : (a : Result A Refusal) → is_err a ≡ false → without_value a ≡ Accepted
  no-refusal (Ok v) h = refl
  no-refusal (Err x) h = absurd (not-both h)

  -- what holds of an answer that is no refusal
  module _ {P : Type 0} where
    pub had : (a : Result A Refusal) → is_err a ≡ false → OnOk a P → P
    had (Ok v) h p = p
    had (Err x) h p = absurd (not-both h)

-- ---- tests t, by which a call gives v and leaves what o does
abbrev pub leaving : {A : Type 0} → Result A Refusal → (addresses map grg : List ℤ) → Lists → Outcome A
leaving a x y z l = record { answer = a; addresses = x; map = y; grg = z; lists = l }

module _ {A B : Type 0} (v : A) (r : Rooms) (o : Outcome B) where
  pub answer-by : (t : Tested) → (outcome_of t v r o).answer ≡ giving t v
  answer-by (Ok _) = refl
  answer-by (Err x) = refl

  pub tests-told : (t : Tested) → without_value (outcome_of t v r o).answer ≡ t
  tests-told (Ok _) = refl
  tests-told (Err x) = refl

  module _ (t : Tested) {a : Result A Refusal} (e : a ≡ giving t v) where
    pub left-told : is_err a ≡ false → leaving a o.addresses o.map o.grg o.lists ≡ outcome_of t v r o
    left-told h = go t e
      where
        go : (t : Tested) → a ≡ giving t v → leaving a o.addresses o.map o.grg o.lists ≡ outcome_of t v r o
        go (Ok _) e = ap (λ a. leaving a o.addresses o.map o.grg o.lists) e
        go (Err x) e = absurd (not-both (sym (ap is_err e) ∙ h))

    -- a refusal has wiped every place
    pub left-wiped : is_err a ≡ true → {x y z : List ℤ} {l : Lists} → x ≡ replicate r.addresses (negsuc 0) → y ≡ replicate r.map (negsuc 0) → z ≡ replicate r.grg (negsuc 0) → l ≡ wiped r
        → leaving a x y z l ≡ outcome_of t v r o
    left-wiped h {x} {y} {z} {l} ex ey ez el = go t e
      where
        go : (t : Tested) → a ≡ giving t v → leaving a x y z l ≡ outcome_of t v r o
        go (Ok _) e = absurd (not-both (sym h ∙ ap is_err e))
        go (Err c) e = λ i. leaving (e i) (ex i) (ey i) (ez i) (el i)
