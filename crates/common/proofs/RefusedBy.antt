-- By which refusals a result may be refused, test by test.
use mathlib.Core.Path.{◌≡◌, refl, sym, subst}
use mathlib.Core.Bool.{Bool, true, false, cond}
use Rattle.std.specs.Prelude.{Result, Ok, Err}
use Rattle.common.specs.declared.Refusal.{Refusal}
use Rattle.common.specs.Tested.{require, after, giving, without_value, Tested, Accepted, ◌then◌}
use Rattle.common.proofs.Tests.{same-refusal, refused-not-ok}

pub record RefusedBy (P : Refusal → Type 0) {A : Type 0} (a : Result A Refusal) : Type 0 where
  pub only : (r : Refusal) → a ≡ Err r → P r

module _ (P : Refusal → Type 0) where
  pub given : {A : Type 0} {a : A} → RefusedBy P (Ok a)
  given = record { only = λ r e. absurd (refused-not-ok (sym e)) }

  pub by : {A : Type 0} {r : Refusal} → P r → RefusedBy P {A = A} (Err r)
  by p = record { only = λ s e. subst P (same-refusal e) p }

  pub by-test : {A : Type 0} (t : Bool) {r : Refusal} {rest : Result A Refusal} → P r → RefusedBy P rest → RefusedBy P (require t r rest)
  by-test true p h = h
  by-test false p h = by p

  pub by-case : {A : Type 0} (t : Bool) {a b : Result A Refusal} → RefusedBy P a → RefusedBy P b → RefusedBy P (cond t a b)
  by-case true h k = h
  by-case false h k = k

  pub by-giving : {A : Type 0} (t : Tested) (a : A) → RefusedBy P t → RefusedBy P (giving t a)
  by-giving (Ok _) a h = given
  by-giving (Err r) a h = by (h.only r refl)

  pub by-value : {A : Type 0} (a : Result A Refusal) → RefusedBy P a → RefusedBy P (without_value a)
  by-value (Ok a) h = given
  by-value (Err r) h = by (h.only r refl)

  pub by-then : {A B : Type 0} (a : Result A Refusal) {f : A → Result B Refusal} → RefusedBy P a → ((x : A) → RefusedBy P (f x)) → RefusedBy P (a then f)
  by-then (Ok x) h k = k x
  by-then (Err r) h k = by (h.only r refl)

  pub by-both : (s : Tested) {t : Tested} → RefusedBy P s → (s ≡ Accepted → RefusedBy P t) → RefusedBy P (after s t)
  by-both (Ok _) h k = k refl
  by-both (Err r) h k = by (h.only r refl)
