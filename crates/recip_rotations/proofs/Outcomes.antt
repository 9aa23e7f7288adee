-- An accepted and a refused outcome.
use mathlib.Core.Path.{◌≡◌, sym, ◌∙◌, ap}
use mathlib.Core.List.{List}
use Prim.Native.Nat.{ℕ}
use lib.IntN.{ℤ}
use lib.ListN.{length}
use Rattle.std.specs.Prelude.{Ok, Err}
use Rattle.common.specs.Tested.{Tested, Accepted, giving}
use Rattle.common.specs.Matrix.{Mat}
use Rattle.common.specs.declared.Refusal.{Refusal}
use Rattle.common.proofs.Tests.{not-accepted}
use Rattle.recip_rotations.specs.Flat.{laid}
use Rattle.recip_rotations.specs.Code.Steps.{Grouped}

pub never : {A : Type 0} {r : Refusal} → Err r ≡ Accepted → A
never e = absurd (not-accepted e)

module _ {t : Tested} {l : List (Mat ℤ)} {before after : List ℤ} where
  pub accepted : {n : ℕ} → t ≡ Accepted → n ≡ length l → after ≡ laid l before → Grouped t l before after (Ok n)
  accepted e p q = record { answer = ap Ok p ∙ sym (ap (λ t. giving t (length l)) e); held = λ _. q }

  pub refused : {r : Refusal} → t ≡ Err r → Grouped t l before after (Err r)
  refused e = record { answer = sym (ap (λ t. giving t (length l)) e); held = λ a. never (sym e ∙ a) }
