use mathlib.Core.Path.{◌≡◌, sym, ◌∙◌, ap, ap₂}
use mathlib.Core.List.{List}
use Prim.Native.Nat.{ℕ, ◌/◌}
use lib.IntN.{ℤ}
use lib.ListN.{length}
use Rattle.std.specs.Prelude.{Some}
use Rattle.common.specs.Matrix.{Vec, ◌▹◌}
use Rattle.common.specs.Array.{vector_of, items, matrix_of, rows, matrix_at}
use Rattle.grgrid.specs.Grid.{index, address, double, halve, rotate}
use Rattle.grgrid.specs.Sides.{sides}
use Rattle.grgrid.proofs.Lower.{lower-here, lower-on}
use Rattle.grgrid.proofs.first_lower.Goals as goal

-- what the two calls of a turn return is matrix n's rotation of the point
carried : (d : Vec ℕ) (ps l : List ℤ) (p n : ℕ) {r : ℕ} {m : List (List ℤ)} {a : List ℤ}
    → r ≡ index d (halve (matrix_of m ▹ vector_of a) (vector_of ps)) → m ≡ rows (matrix_at l n) → a ≡ items (double (address d p) (vector_of ps))
    → r ≡ rotate d (vector_of ps) (matrix_at l n) p
unfolding rotate
carried d ps l p n e f g = e ∙ ap₂ (λ m a. index d (halve (matrix_of m ▹ vector_of a) (vector_of ps))) f g

pub returns-then-q-point-clause-value : goal.returns-then-q-point-clause-value
returns-then-q-point-clause-value c =
    let s = c.args in
    let e = carried (sides s.point.g) s.ps.v s.rotations.list.now s.point.p c.loop-n.n c.rotated_index-q.ensures.value c.at.ensures c.doubled_point-address.ensures in
    let n = length s.rotations.list.now / 9 in
    ap Some e ∙ sym (lower-here (rotate (sides s.point.g) (vector_of s.ps.v)) s.rotations.list.now s.point.p c.loop-n.n n (rw c.count-n-end.ensures at c.loop-n-test.true) (rw e at c.if-q-point.true)) ∙ c.loop-n.invariant

pub loop-n-preserved : goal.loop-n-preserved
loop-n-preserved c =
    let s = c.args in
    let e = carried (sides s.point.g) s.ps.v s.rotations.list.now s.point.p c.loop-n.n c.rotated_index-q.ensures.value c.at.ensures c.doubled_point-address.ensures in
    let n = length s.rotations.list.now / 9 in
    sym (lower-on (rotate (sides s.point.g) (vector_of s.ps.v)) s.rotations.list.now s.point.p c.loop-n.n n (rw c.count-n-end.ensures at c.loop-n-test.true) (rw e at c.if-q-point.false)) ∙ c.loop-n.invariant
