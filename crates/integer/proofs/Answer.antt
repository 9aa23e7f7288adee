-- A test that says that v fits, as a fact.
use mathlib.Core.Path.{◌≡◌, sym, ◌∙◌}
use mathlib.Core.Bool.{Bool, true}
use lib.IntN.{ℤ}
use lib.Signed.{mag}
use borrow.Author.Tests.{ltb-true}
use mir.Syntax.{w64}
use mir.Val.{SFits}
use Rattle.integer.specs.Checked.{fits64}

pub test_fits : (v : ℤ) {t : Bool} → t ≡ fits64 v → t ≡ true → SFits w64 v
test_fits v test y = record { sfits = ltb-true (mag v) 0x8000000000000000 (sym test ∙ y) }
