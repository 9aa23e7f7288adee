-- A chain of tests by its steps.
use mathlib.Core.Path.{◌≡◌, sym, ◌∙◌, ap}
use mathlib.Core.Bool.{Bool, true, false}
use Rattle.std.specs.Prelude.{Err}
use Rattle.common.specs.declared.Refusal.{Refusal}
use Rattle.common.specs.Tested.{require, Tested}

pub refused : {t : Bool} {r : Refusal} (rest : Tested) → t ≡ false → Err r ≡ require t r rest
refused {r = r} rest e = ap (λ t. require t r rest) (sym e)

pub onward : {t : Bool} (r : Refusal) {answer rest : Tested} → t ≡ true → answer ≡ rest → answer ≡ require t r rest
onward r {rest = rest} e f = f ∙ ap (λ t. require t r rest) (sym e)
