-- Laws of a chain of tests.
use mathlib.Core.Path.{◌≡◌, refl, sym, ◌∙◌, ap}
use mathlib.Core.Bool.{Bool, true, false, not, ◌&&◌}
use Prim.Native.Nat.{ℕ}
use native.Mathlib.Omega.{arith}
use borrow.Author.Tests.{not-true, not-false}
use Rattle.std.specs.Prelude.{Result, Ok, Err}
use Rattle.common.specs.declared.Refusal.{Refusal}
use Rattle.common.specs.Tested.{require, after, Tested, Accepted}

-- a test of two parts, of which the first is known
pub first_holds : {a : Bool} (b : Bool) → a ≡ true → b ≡ a && b
first_holds b e = sym (ap (λ t. t && b) e)

pub first-fails : {a : Bool} (b : Bool) → a ≡ false → false ≡ a && b
first-fails b e = sym (ap (λ t. t && b) e)

-- what a call that tests says of its test
module _ {r t : Bool} (e : r ≡ t) where
  pub yes : not r ≡ false → t ≡ true
  yes h = sym e ∙ not-false r h

  pub no : not r ≡ true → t ≡ false
  no h = sym e ∙ not-true r h

  -- where failing ends the function, and the tests after it
  pub ends : (b : Bool) → not r ≡ true → false ≡ t && b
  ends b h = first-fails b (no h)

  pub goes_on : {b c : Bool} → not r ≡ false → c ≡ b → c ≡ t && b
  goes_on {b} h f = f ∙ first_holds b (yes h)

-- ---- results that are the same
module _ {A : Type 0} where
  pub same-ok : {a b : A} → ◌≡◌ {A = Result A Refusal} (Ok a) (Ok b) → a ≡ b
  same-ok e = cc

  pub same-refusal : {r s : Refusal} → ◌≡◌ {A = Result A Refusal} (Err r) (Err s) → r ≡ s
  same-refusal e = cc

  pub refused-not-ok : {r : Refusal} {a : A} → ◌≡◌ {A = Result A Refusal} (Err r) (Ok a) → ⊥
  refused-not-ok e = let z : ◌≡◌ {A = ℕ} 0 1 = cc in omega arith

pub not-accepted : {r : Refusal} → Err r ≡ Accepted → ⊥
not-accepted = refused-not-ok

pub passed : (t : Bool) (r : Refusal) (rest : Tested) → require t r rest ≡ Accepted → (t ≡ true) × (rest ≡ Accepted)
passed true r rest e = (refl, e)
passed false r rest e = absurd (not-accepted e)

-- an answer that no refusal gives tells that the tests passed
pub passed-by : {A : Type 0} (answer : Tested → A) {a : A} → ((r : Refusal) → ¬ (answer (Err r) ≡ a)) → (t : Tested) → answer t ≡ a → t ≡ Accepted
passed-by answer n (Ok _) e = refl
passed-by answer n (Err r) e = absurd (n r e)

pub both-accepted : (s t : Tested) → after s t ≡ Accepted → (s ≡ Accepted) × (t ≡ Accepted)
both-accepted (Ok _) t e = (refl, e)
both-accepted (Err r) t e = absurd (not-accepted e)
