use Rattle.std.proofs.Common.{arith}
use Rattle.bzgrid.proofs.Turns.{missing, turn, low}
use Rattle.bzgrid.proofs.tables.write_table.Goals as goal

pub returns-then-t-c-clause-value : goal.returns-then-t-c-clause-value
returns-then-t-c-clause-value c =
    let s = c.start-c.ensures in
    (missing c.loop-i.invariant.reached c.if_sparse-from.ensures.value s.at_value s.next_value c.write_point-t.ensures.next_after c.loop-i-test.true c.if-t-c.true {P = Unit {0}}).0

pub returns-then-t-c-clause-written_to : goal.returns-then-t-c-clause-written_to
returns-then-t-c-clause-written_to c =
    let s = c.start-c.ensures in
    (missing c.loop-i.invariant.reached c.if_sparse-from.ensures.value s.at_value s.next_value c.write_point-t.ensures.next_after c.loop-i-test.true c.if-t-c.true).1

pub loop-i-preserved : goal.loop-i-preserved
loop-i-preserved c =
    let s = c.start-c.ensures in
    let r = turn c.loop-i.invariant.reached c.if_sparse-from.ensures.value s.at_value s.next_value c.write_point-t.ensures.next_after c.put_count.ensures c.if-t-c.false in
    let b = low r c.if_sparse-from.ensures.value (omega arith) in
    record {
      few = c.loop-i.invariant.few;
      from_low = b.0;
      low = b.1;
      high = omega (arith, c.write_point-t.result.ordered);
      reached = r;
    }
