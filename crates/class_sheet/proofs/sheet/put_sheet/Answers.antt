use mathlib.Core.Path.{◌≡◌, sym, ◌∙◌, ap}
use mathlib.Core.Bool.{true}
use Prim.Native.Nat.{◌+◌, ◌-◌, ◌<◌}
use native.Mathlib.Omega.{arith}
use lib.IntN.{pos}
use lib.ListN.{length, get_or}
use mir.Syntax.{w64}
use mir.Val.{SFits}
use borrow.Author.Rules.{rules}
use Rattle.std.specs.Prelude.{Err}
use Rattle.integer.proofs.Fits.{held-is}
use Rattle.grgrid.specs.Own.{is_place}
use Rattle.grgrid.proofs.Numbers.{entry-is, entry_place, entry_other}
use Rattle.class_sheet.specs.ClassSheet.{weight}
use Rattle.class_sheet.proofs.Filling.{filling-as, filling-on, next-below, next-room, next-weight, next-row, filling-refused, filling-more}
use Rattle.class_sheet.proofs.sheet.put_sheet.Goals as goal
use Rattle.class_sheet.proofs.sheet.put_sheet.Goals.{Then-class-p, then-class-p+in_ok-put_class, else-class-p}

-- the next class has its own number
number-is : (c : Then-class-p) → get_or c.args.class_map.now c.loop-p.p (pos 0) ≡ pos c.loop-p.p
number-is c =
    let z = get_or c.args.class_map.now c.loop-p.p (pos 0) in
    let whole : SFits w64 z = search rules in
    entry-is z c.loop-p.p whole.sfits (omega arith) c.if-class-p.true

own : (c : Then-class-p) → let z = get_or c.args.class_map.now c.loop-p.p (pos 0) in is_place z c.loop-p.p ≡ true
own c = let z = get_or c.args.class_map.now c.loop-p.p (pos 0) in entry_place z c.loop-p.p (number-is c)

weight-is : (c : Then-class-p) → get_or c.loop-p.sheet (length c.args.sheet.now - c.args.k + c.loop-p.r) (pos 0) ≡ pos (weight c.args.class_map.now c.loop-p.p)
weight-is c =
    ap (λ k. get_or c.loop-p.sheet (length c.args.sheet.now - k + c.loop-p.r) (pos 0)) c.requires.count ∙ next-weight c.requires.ready c.loop-p.invariant c.loop-p-test.true (own c)

below : (c : Then-class-p) → c.loop-p.r < c.args.k
below c = omega (arith, c.requires.count, next-below c.requires.ready c.loop-p.invariant c.loop-p-test.true (own c))

pub overflow_mul-r : goal.overflow_mul-r
overflow_mul-r c = record { fits = omega (arith, below (goal.at.overflow_mul-r c).Then-class-p, c.requires.count, c.requires.ready.thrice) }

pub row_at-requires : goal.row_at-requires
row_at-requires c = omega (arith, below (goal.at.row_at-requires c).Then-class-p, c.requires.count, c.requires.ready.thrice)

pub overflow_add-weights : goal.overflow_add-weights
overflow_add-weights c = record { fits = omega (arith, below (goal.at.overflow_add-weights c).Then-class-p, c.requires.count, c.requires.ready.size) }

pub offset_bounds-sheet-weights : goal.offset_bounds-sheet-weights
offset_bounds-sheet-weights c = record { fits = omega (arith, below (goal.at.offset_bounds-sheet-weights c).Then-class-p, c.requires.count, c.requires.ready.size) }

pub slice_copy_out-put_class : goal.slice_copy_out-put_class
slice_copy_out-put_class c = omega (arith, below (goal.at.slice_copy_out-put_class c).Then-class-p, c.requires.count, c.requires.ready.size, c.loop-p.invariant.size)

pub put_class-requires : goal.put_class-requires
put_class-requires c = next-room c.requires.ready c.loop-p.invariant c.loop-p-test.true (own (goal.at.put_class-requires c).Then-class-p)

pub returns-in_err-put_class : goal.returns-in_err-put_class
returns-in_err-put_class c =
    let l = c.loop-p in
    let t = (goal.at.returns-in_err-put_class c).Then-class-p in
    let e : c.from_residual.result ≡ Err c.in_err-put_class.field-0.0 = search rules in
    let next = next-row c.requires.ready l.invariant c.loop-p-test.true (own t) (held-is _ (search rules) ∙ number-is t) (held-is _ (search rules) ∙ weight-is t) (search rules) (search rules) (search rules) in
    rw (e ∙ sym c.in_err-put_class.was) (filling-refused c.requires.ready l.invariant c.loop-p-test.true (own t) next c.in_err-put_class.was c.put_class.ensures)

pub overflow_add-r : goal.overflow_add-r
overflow_add-r c = record { fits = omega (arith, below (goal.at.overflow_add-r c).Then-class-p, c.ranges.k.fits) }

pub loop-p-preserved : goal.loop-p-preserved
loop-p-preserved c =
    let l = c.loop-p in
    elim c.if-class-p.branch [
      | then-class-p+in_ok-put_class w ↦
          let z = get_or c.args.class_map.now l.p (pos 0) in
          let whole : SFits w64 z = search rules in
          let n = entry-is z l.p whole.sfits (omega arith) w.if-class-p.true in
          let o = entry_place z l.p n in
          let weight-at = ap (λ k. get_or l.sheet (length c.args.sheet.now - k + l.r) (pos 0)) c.requires.count ∙ next-weight c.requires.ready l.invariant c.loop-p-test.true o in
          let next = next-row c.requires.ready l.invariant c.loop-p-test.true o (held-is _ (search rules) ∙ n) (held-is _ (search rules) ∙ weight-at) (search rules) (search rules) (search rules) in
          filling-as w.r-is w.sheet-is (filling-more c.requires.ready l.invariant c.loop-p-test.true o next w.in_ok-put_class.was (search rules) w.put_class.ensures)
      | else-class-p w ↦ filling-as w.r-is w.sheet-is (filling-on c.requires.ready l.invariant (entry_other (get_or c.args.class_map.now l.p (pos 0)) l.p w.if-class-p.false))
    ]
