use mathlib.Core.Path.{◌≡◌, ap}
use Prim.Native.Nat.{ℕ, ◌+◌, ◌*◌}
use native.Mathlib.Omega.{arith}
use Rattle.common.specs.Matrix.{Vec}
use Rattle.grgrid.specs.Grid.{place}
use Rattle.grgrid.specs.Sides.{sides, remainders}
use borrow.Author.Rules.{rules}
use Rattle.grgrid.proofs.next.Goals as goal

-- after the last point of a layer
layer-end : (d r : Vec ℕ) → r.x + 1 ≡ d.x → r.y + 1 ≡ d.y → place d (record { x = 0; y = 0; z = r.z + 1 }) ≡ place d r + 1
layer-end d r e f = omega (arith, ap (λ b. d.x * b) f)

pub returns : goal.returns
returns c = (search rules, search rules, layer-end (sides c.args.g) (remainders c.args.r) (search rules) (search rules))
