-- Tests: both of two, one of two, and by cases on one.
use mathlib.Core.Path.{◌≡◌, refl, sym, subst}
use mathlib.Core.Logic.{◌⊎◌, inl, inr}
use mathlib.Core.Bool.{Bool, true, false, not, ◌&&◌, ◌||◌, cond}
use lib.Dec.{T}

pub and_l : (a b : Bool) → T (a && b) → T a
and_l true b t = tt
and_l false b t = t

pub and_r : (a b : Bool) → T (a && b) → T b
and_r true b t = t
and_r false b t = absurd t

pub and_in : (a b : Bool) → T a → T b → T (a && b)
and_in true b s t = t
and_in false b s t = s

pub or_l : (a b : Bool) → T a → T (a || b)
or_l true b t = tt
or_l false b t = absurd t

pub or_r : (a b : Bool) → T b → T (a || b)
or_r true b t = tt
or_r false b t = t

pub or-of : (a b : Bool) → T (a || b) → T a ⊎ T b
or-of true b t = inl tt
or-of false b t = inr t

pub cond_cases : {A : Type 0} (c : Bool) (x y : A) (P : A → Type 0) → (T c → P x) → (T (not c) → P y) → P (cond c x y)
cond_cases true x y P f g = f tt
cond_cases false x y P f g = g tt

pub pick-cases : {A : Type 0} (c : Bool) (x y : A) (P : A → Type 0) → (T c → P x) → (T (not c) → P y) → P (cond c x y)
pick-cases true x y P f g = f tt
pick-cases false x y P f g = g tt

-- ---- a test and its value
pub holds : {t : Bool} → t ≡ true → T t
holds e = subst T (sym e) tt

pub fails : {t : Bool} → t ≡ false → T (not t)
fails e = subst (λ (t : Bool). T (not t)) (sym e) tt

pub is_true : (t : Bool) → T t → t ≡ true
is_true true h = refl
is_true false h = absurd h

pub is_false : (t : Bool) → T (not t) → t ≡ false
is_false true h = absurd h
is_false false h = refl

-- two tests that hold together are one
pub same_test : (a b : Bool) → (T a → T b) → (T b → T a) → a ≡ b
same_test true b f g = sym (is_true b (f tt))
same_test false true f g = absurd (g tt)
same_test false false f g = refl
