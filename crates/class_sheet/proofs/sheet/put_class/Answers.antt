use mathlib.Core.Path.{◌≡◌}
use Prim.Native.Nat.{◌%◌, ◌+◌, ◌-◌}
use native.Mathlib.Omega.{arith}
use mir.Syntax.{w64}
use mir.Facts.{to_z_pos}
use borrow.Author.Rules.{rules}
use Rattle.class_sheet.proofs.Placing.{Headed, row_place, page-place, no-heading, heading-put, class-put}
use Rattle.class_sheet.proofs.sheet.put_class.Goals as goal
use Rattle.class_sheet.proofs.sheet.put_class.Goals.{then-r-eq0+in_ok-put_line, else-r-eq0}

pub returns : goal.returns
returns c =
    let a = c.args in
    let at = row_place a.r in
    let headed : Headed a.sheet.now a.r c.if-r-eq0.sheet =
    elim c.if-r-eq0.branch [
      | then-r-eq0+in_ok-put_line w ↦
          let page : a.r % 40 ≡ 0 = omega (arith, w.if-r-eq0.true) in
          let e = page-place a.r page in
          rw w.sheet-is (heading-put a.sheet.now a.r page (to_z_pos w64 (omega arith)) w.put_line.ensures (search rules) (at - 46) (at - (at - 46)) (omega arith) (omega arith))
      | else-r-eq0 w ↦ rw w.sheet-is (no-heading a.sheet.now a.r (λ e. w.if-r-eq0.false (omega (arith, e))))
    ] in
    class-put a.sheet.now a.row a.r c.requires headed c.put_line-2.ensures (at + 46 - at) (omega arith)
