use Rattle.std.proofs.Common.{get_or, pos, rules, arith}
use mir.Syntax.{w64}
use mir.Val.{SFits}
use Rattle.std.proofs.lemmas.Int.{ints}
use Rattle.grgrid.proofs.Numbers.{own-few, entry-is, entry_other}
use Rattle.class_sheet.proofs.Counting.{listed-as, listed_on, listed-room, listed_more}
use Rattle.class_sheet.proofs.weights.list_numbers.Goals as goal
use Rattle.class_sheet.proofs.weights.list_numbers.Goals.{then-class-p, else-class-p}

pub offset_bounds-out-k : goal.offset_bounds-out-k
offset_bounds-out-k c = let l = c.loop-p in record { fits = omega (arith, l.invariant.count, own-few c.args.class_map.now l.p) }

pub bounds-out-k : goal.bounds-out-k
bounds-out-k c =
    let l = c.loop-p in
    let z = get_or c.args.class_map.now l.p (pos 0) in
    let whole : SFits w64 z = search rules in
    listed-room l.invariant c.loop-p-test.true (entry-is z l.p whole.sfits (omega arith) c.if-class-p.true)

pub overflow_add-k : goal.overflow_add-k
overflow_add-k c = let l = c.loop-p in record { fits = omega (arith, l.invariant.count, own-few c.args.class_map.now l.p) }

pub loop-p-preserved : goal.loop-p-preserved
loop-p-preserved c =
    let l = c.loop-p in
    let z = get_or c.args.class_map.now l.p (pos 0) in
    let whole : SFits w64 z = search rules in
    elim c.if-class-p.branch [
      | then-class-p w ↦
          let e = entry-is z l.p whole.sfits (omega arith) w.if-class-p.true in
          listed-as w.k-is w.out-is (listed_more l.invariant c.loop-p-test.true e (omega (arith, ints)))
      | else-class-p w ↦ listed-as w.k-is w.out-is (listed_on l.invariant (entry_other z l.p w.if-class-p.false))
    ]
