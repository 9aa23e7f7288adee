use Rattle.std.proofs.Common.{arith, ◌≡◌, ◌+◌, sym, ap, ◌∙◌, subst}
use lib.Dec.{T}
use Rattle.bzgrid.specs.BzGridAddresses.{all_found}
use Rattle.bzgrid.specs.Code.Writing.{if_sparse}
use Rattle.bzgrid.specs.Code.Walked.{before}
use Rattle.bzgrid.proofs.Turns.{found_at, turn_found, low, ended}
use Rattle.bzconvert.specs.Code.Lists.{images_held}
use Rattle.bzconvert.proofs.writing.write_lists.Goals as goal

pub loop-i-preserved : goal.loop-i-preserved
loop-i-preserved c =
    let a = c.args in
    let g = images_held a.table.now in
    let s = c.start-c.ensures in
    let w = c.write_list-k.ensures in
    let some = found_at g a.n c.loop-i.i c.loop-i-test.true (subst (λ n. T (all_found g n)) (sym c.requires.points) c.requires.lists.some) in
    let r = turn_found c.loop-i.invariant.reached c.if_sparse-from.ensures.value s.at_value s.next_value w.next_after some c.put_count.ensures in
    let b = low r c.if_sparse-from.ensures.value (omega arith) in
    record {
      few = c.loop-i.invariant.few;
      from_low = b.0;
      low = b.1;
      high = omega (arith, c.write_list-k.result.ordered);
      reached = r;
    }

pub returns-clause-value : goal.returns-clause-value
returns-clause-value c =
    let a = c.args in
    let all : c.loop-i.i ≡ a.n = omega arith in
    c.loop-i.invariant.reached.place ∙ ap (λ i. if_sparse a.sparse a.n + before a.sparse (images_held a.table.now) i) all

pub returns-clause-written_to : goal.returns-clause-written_to
returns-clause-written_to c =
    let a = c.args in
    let all : c.loop-i.i ≡ a.n = omega arith in
    (ended c.loop-i.invariant.reached all c.if_sparse-from.ensures.value c.put_count-2.ensures).1
    (subst (λ n. T (all_found (images_held a.table.now) n)) (sym c.requires.points) c.requires.lists.some)
