use Rattle.std.proofs.Common.{◌≤◌, ◌+◌}
use Rattle.bzgrid.specs.Code.Writing.{tables}
use Rattle.bztable.specs.Access.{place_in}
use Rattle.bztable.specs.Reading.{address_at}
use Rattle.bzconvert.proofs.StoredLists.{Stored}
use Rattle.bzconvert.proofs.writing.write_list.Given as goal

abbrev pub invariant-loop-k : goal.invariant-loop-k
invariant-loop-k l = record {
  low : l.initial.t.next ≤ l.t.next;
  high : l.t.next ≤ l.initial.t.next + l.k;
  stored : Stored (address_at l.table.addresses.now) (place_in l.r.first.at l.r.others) l.p
      (tables l.initial.addresses l.initial.grg l.initial.t.at l.initial.t.next) l.k (tables l.addresses l.grg l.t.at l.t.next);
}
